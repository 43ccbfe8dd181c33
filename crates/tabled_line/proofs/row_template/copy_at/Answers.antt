use Rattle.std.proofs.Math.Seq.{take-append-add, take-append-le}
use Rattle.std.proofs.lemmas.Slice.{drop-put_mid}
use Rattle.tabled_line.proofs.Names.{ap, arith, drop, length, length-append, length-drop, length-take-le, sym, take, ℕ, ◌++◌, ◌+◌, ◌-◌, ◌∙◌, ◌≡◌}
use Rattle.tabled_line.proofs.row_template.copy_at.Goals as goal

pub returns : goal.returns
returns c =
    let place = c.args.place in
    let bytes = c.args.bytes.now in
    let old = c.args.line.now in
    let copied = c.copy_from_slice.new.self in
    let back = drop (place + length bytes - place) (drop place old) in
    let after = c.copy_from_slice.ensures.after in
    let begins : length (take place old) ≡ place = length-take-le place old (omega (arith, c.requires)) in
    let rest = drop-put_mid place (place + length bytes - place) old copied (place + length bytes) (omega arith) (omega (arith, c.requires)) (omega (arith, ap length after)) in
    record {
      same = omega (arith, c.requires, ap length after, length-append {A = ℕ}, length-drop {A = ℕ}, begins);
      rest = rest;
      copied = λ count within.
          ap (λ n. take (n + count) (take place old ++ (copied ++ back))) (sym begins) ∙ take-append-add (take place old) (copied ++ back) count
          ∙ ap (λ u. take place old ++ u) (take-append-le count copied back (omega (arith, within, ap length after)) ∙ ap (take count) after);
    }
