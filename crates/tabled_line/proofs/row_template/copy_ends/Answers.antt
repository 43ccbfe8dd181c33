use Rattle.tabled_line.proofs.Names.{List, append-nil, append_assoc, ap, arith, cases_lt, drop, inl, inr, length, length-drop}
use Rattle.tabled_line.proofs.Names.{length-take-le, refl, subst, sym, take, take-take, ℕ, ◌++◌, ◌+◌, ◌-◌, ◌∙◌, ◌≡◌, ◌≤◌}
use Rattle.std.proofs.Math.Seq.{drop-drop, take-add}
use Rattle.tabled_line.proofs.Appended.{rest-dropped}
use Rattle.tabled_line.proofs.row_template.copy_ends.Goals as goal

-- the first and the last bytes, which meet or overlap, are all of them
both-ends : (place size last : ℕ) (old first both bytes : List ℕ) → last + size ≡ length bytes → last ≤ size
    → ((k : ℕ) → k ≤ size → take (place + k) first ≡ take place old ++ take k bytes)
    → ((k : ℕ) → k ≤ size → take (place + last + k) both ≡ take (place + last) first ++ take k (drop last bytes))
    → (count : ℕ) → count ≤ length bytes → take (place + count) both ≡ take place old ++ take count bytes
both-ends place size last old first both bytes all meet begun ended count within =
    let none : place + last + 0 ≡ place + last = omega arith in
    let start : take (place + last) both ≡ take (place + last) first =
    sym (ap (λ n. take n both) none) ∙ ended 0 (omega arith) ∙ append-nil (take (place + last) first) in
    elim (cases_lt count last) [
      | inl early ↦
          let le : place + count ≤ place + last = omega (arith, early) in
          sym (take-take (place + count) (place + last) both le) ∙ ap (take (place + count)) start
          ∙ take-take (place + count) (place + last) first le ∙ begun count (omega (arith, early, meet))
      | inr late ↦
          let k = count - last in
          let sum : last + k ≡ count = omega (arith, late) in
          let whole : place + last + k ≡ place + count = omega (arith, sum) in
          sym (ap (λ n. take n both) whole) ∙ ended k (omega (arith, late, all, within))
          ∙ ap (λ u. u ++ take k (drop last bytes)) (begun last meet) ∙ append_assoc (take place old) (take last bytes) (take k (drop last bytes))
          ∙ ap (λ u. take place old ++ u) (sym (take-add last k bytes) ∙ ap (λ n. take n bytes) sum)
    ]

-- behind the first bytes nothing changed, and behind the last ones nothing either
behind-ends : (place size last : ℕ) (old first both bytes : List ℕ) → last + size ≡ length bytes → last ≤ size → size ≤ length bytes
    → drop (place + size) first ≡ drop (place + size) old → drop (place + last + size) both ≡ drop (place + last + size) first
    → drop (place + length bytes) both ≡ drop (place + length bytes) old
behind-ends place size last old first both bytes all meet within begun ended =
    let more = length bytes - size in
    let whole : place + last + size ≡ place + length bytes = omega (arith, all) in
    let sum : place + size + more ≡ place + length bytes = omega (arith, within) in
    sym (ap (λ n. drop n both) whole) ∙ ended ∙ ap (λ n. drop n first) (whole ∙ sym sum)
    ∙ sym (drop-drop more (place + size) first) ∙ ap (drop more) begun ∙ drop-drop more (place + size) old ∙ ap (λ n. drop n old) sum

pub returns : goal.returns
returns c =
    let bytes = c.args.bytes.now in
    let last = length bytes - c.args.size in
    let part = length-take-le c.args.size bytes c.requires.size in
    let slice = rest-dropped bytes bytes last refl in
    let rest : length (take (length bytes - last) (drop last bytes)) ≡ c.args.size =
    ap length slice ∙ length-drop last bytes ∙ omega (arith, c.requires.size) in
    record {
      same = c.copy_at-2.ensures.same ∙ c.copy_at.ensures.same;
      rest = behind-ends c.args.place c.args.size last c.args.line.now c.copy_at.new.line c.copy_at-2.new.line bytes
          (omega (arith, c.requires.size)) (omega (arith, c.requires.all)) c.requires.size
          (subst (λ n. drop (c.args.place + n) c.copy_at.new.line ≡ drop (c.args.place + n) c.args.line.now) part c.copy_at.ensures.rest)
          (subst (λ n. drop (c.args.place + last + n) c.copy_at-2.new.line ≡ drop (c.args.place + last + n) c.copy_at.new.line) rest c.copy_at-2.ensures.rest);
      copied = both-ends c.args.place c.args.size last c.args.line.now c.copy_at.new.line c.copy_at-2.new.line bytes
          (omega (arith, c.requires.size)) (omega (arith, c.requires.all))
          (λ k le. c.copy_at.ensures.copied k (omega (arith, part, le)) ∙ ap (λ u. take c.args.place c.args.line.now ++ u) (take-take k c.args.size bytes le))
          (λ k le. c.copy_at-2.ensures.copied k (omega (arith, rest, le))
          ∙ ap (λ u. take (c.args.place + last) c.copy_at.new.line ++ take k u) slice);
    }
