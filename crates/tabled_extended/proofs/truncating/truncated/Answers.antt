use Rattle.tabled_extended.proofs.Names.{ap, arith, cow_str_bytes, false≢true, length, string_bytes, sym, ◌++◌, ◌+◌, ◌<◌, ◌∙◌, ◌≡◌}
use Rattle.std.specs.Cmp.{unsigned_Decides}
use Rattle.std.proofs.lemmas.Slice.Eq.{slice_eq-Decides}
use Rattle.tabled_extended.proofs.CutOff.{err-with, mark_counts, takes-filled, takes-left, truncated_off, truncated_whole}
use Rattle.tabled_extended.proofs.truncating.truncated.Goals as goal

pub returns-then-eq-clause-ok : goal.returns-then-eq-clause-ok
returns-then-eq-clause-ok c =
    let piece = cow_str_bytes c.in_ok-cut.cut in
    let same = (slice_eq-Decides unsigned_Decides c.deref.result.now c.args.text.now c.eq.result c.eq.ensures).0 c.if-eq.true in
    truncated_whole c.args.suffix.now c.args.width_limit c.args.text.now piece mark_counts c.in_ok-cut.ensures.cut (sym c.deref.ensures.value ∙ same)

pub returns-in_err-cut-clause-err : goal.returns-in_err-cut-clause-err
returns-in_err-cut-clause-err c = err-with _ (takes-filled c.args.suffix.now c.args.width_limit c.args.text.now c.in_err-cut.ensures.err) c.from_residual.ensures.0

pub returns-in_err-push_str-clause-err : goal.returns-in_err-push_str-clause-err
returns-in_err-push_str-clause-err c =
    let piece = cow_str_bytes c.in_ok-cut.cut in
    let other : piece ≡ c.args.text.now → ⊥ =
    λ e. false≢true (sym c.if-eq.false ∙ (slice_eq-Decides unsigned_Decides c.deref.result.now c.args.text.now c.eq.result c.eq.ensures).1
    (c.deref.ensures.value ∙ e)) in
    let some : 0 < length piece + length c.args.suffix.now =
    (let full = c.in_err-push_str.ensures.full in omega (arith, full, c.deref-2.ensures.len, c.new-answer.ensures.len)) in
    err-with _ (takes-left c.args.suffix.now c.args.width_limit c.args.text.now piece c.utf8.text c.in_ok-cut.ensures.cut other some)
    c.from_residual-in_err-push_str.ensures.0

pub returns-in_err-push_str-2-clause-err : goal.returns-in_err-push_str-2-clause-err
returns-in_err-push_str-2-clause-err c =
    let piece = cow_str_bytes c.in_ok-cut.cut in
    let other : piece ≡ c.args.text.now → ⊥ =
    λ e. false≢true (sym c.if-eq.false ∙ (slice_eq-Decides unsigned_Decides c.deref.result.now c.args.text.now c.eq.result c.eq.ensures).1
    (c.deref.ensures.value ∙ e)) in
    let some : 0 < length piece + length c.args.suffix.now =
    (let full = c.in_err-push_str-2.ensures.full in
    let first = c.in_ok-push_str.ensures.len in omega (arith, full, first, c.deref-2.ensures.len, c.new-answer.ensures.len)) in
    err-with _ (takes-left c.args.suffix.now c.args.width_limit c.args.text.now piece c.utf8.text c.in_ok-cut.ensures.cut other some)
    c.from_residual-in_err-push_str-2.ensures.0

pub returns-clause-ok : goal.returns-clause-ok
returns-clause-ok c =
    let piece = cow_str_bytes c.in_ok-cut.cut in
    let other : piece ≡ c.args.text.now → ⊥ =
    λ e. false≢true (sym c.if-eq.false ∙ (slice_eq-Decides unsigned_Decides c.deref.result.now c.args.text.now c.eq.result c.eq.ensures).1
    (c.deref.ensures.value ∙ e)) in
    let first = c.in_ok-push_str.ensures.bytes ∙ ap (λ l. l ++ c.deref-2.result.now) c.new-answer.ensures.bytes ∙ c.deref-2.ensures.value in
    truncated_off c.args.suffix.now c.args.width_limit c.args.text.now piece (string_bytes c.push_str-2.new.self) c.utf8.text c.in_ok-cut.ensures.cut other
    (c.in_ok-push_str-2.ensures.bytes ∙ ap (λ l. l ++ c.args.suffix.now) first)
