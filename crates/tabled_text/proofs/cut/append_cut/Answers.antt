use Rattle.tabled_text.proofs.Names.{ap, arith, encode_utf8_all, refl, replicate, string_bytes, ◌++◌, ◌∙◌}
use Rattle.std.proofs.Common.{Err, Ok, OnErr, Result, append_assoc}
use Rattle.std.proofs.lemmas.Result.{on_err_weaker, on_ok_weaker}
use Rattle.tabled_text.proofs.CutLemmas.{IsCut-filled}
use Rattle.tabled_text.proofs.CutWhole.{parted-front, parted-missing}
use Rattle.tabled_text.proofs.cut.append_cut.Goals as goal

on_error : {T E P : Type 0} (r : Result T E) → P → OnErr r P
on_error (Ok x) p = tt
on_error (Err e) p = p

pub returns-in_err-push_str-clause-memory : goal.returns-in_err-push_str-clause-memory
returns-in_err-push_str-clause-memory c =
    let front = c.part-missing.ensures in
    on_error c.from_residual.result
    (parted-front c.args.text.now front.parted front.front (omega (arith, c.in_err-push_str.ensures.full, c.args.out.now.bytes.ok.1)))

pub returns-clause-added : goal.returns-clause-added
returns-clause-added c =
    let parts = c.part-missing.result in
    let filled = encode_utf8_all (replicate parts.1 0xFFFD) in
    on_ok_weaker c.append_copies.result
    (λ e. record {
      piece = parts.0.now ++ filled;
      cut = IsCut-filled c.part-missing.ensures.front c.part-missing.ensures.parted refl;
      added = e ∙ ap (λ text. text ++ filled) c.in_ok-push_str.ensures.bytes
          ∙ append_assoc (string_bytes c.args.out.now) parts.0.now filled;
    })
    c.append_copies.ensures.added

pub returns-clause-memory : goal.returns-clause-memory
returns-clause-memory c =
    on_err_weaker c.append_copies.result (λ some. parted-missing c.args.text.now c.part-missing.ensures.parted some) c.append_copies.ensures.some
