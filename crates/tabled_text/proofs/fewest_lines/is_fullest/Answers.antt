use Rattle.tabled_text.proofs.Names.{Expects, IsFittingWrapping, Some, arith, chars, encode_utf8_all, false, inl, inr, lines_of}
use Rattle.tabled_text.proofs.Names.{option_copied, pending, subst, sym, true, ◌<◌, ◌↔◌, ◌∙◌, ◌≡◌}
use Rattle.std.proofs.Common.{IsTrue}
use Rattle.tabled_text.proofs.FewestLines.{fewest-wrapped}
use Rattle.tabled_text.proofs.FitLemmas.{expected-iff, not_roomy, roomy-iff}
use Rattle.tabled_text.proofs.OwnBreaking.{least_breaking}
use Rattle.tabled_text.proofs.fewest_lines.is_fullest.Goals as goal
use Rattle.tabled_text.proofs.fewest_lines.is_fullest.Goals.{then-n-eq0-via-else-n-eq0+then-not-units_fit, then-n-eq0-via-then-n-eq0}

pub returns-then-n-eq0-clause-fullest : goal.returns-then-n-eq0-clause-fullest
returns-then-n-eq0-clause-fullest c =
    let n = c.args.n in
    let words = c.args.words in (
      λ t. let clash : false ≡ true = t in cc,
      λ r. absurd (not_roomy n words c.args.text.now c.args.wrapped.now (elim c.then-n-eq0.branch [
        | then-n-eq0-via-then-n-eq0 w ↦ inl w.if-n-eq0.true
        | then-n-eq0-via-else-n-eq0+then-not-units_fit w ↦ inr (sym w.units_fit.ensures ∙ w.if-not-units_fit.true)
      ]) r),
    )

holds : (c : goal.After-is_done) → IsTrue c.is_done.result ↔ IsFittingWrapping c.args.n c.args.words c.args.text.now c.args.wrapped.now
holds c =
    let n = c.args.n in
    let words = c.args.words in
    let text = c.args.text.now in
    let pos : 0 < n = let ne = c.if-n-eq0.false in omega arith in
    let left = option_copied c.append_lines.new.out.rest in
    let whole = encode_utf8_all (pending n words false (lines_of (chars text))) in
    let all : Expects (Some c.args.wrapped.now) whole left = subst (λ w. Expects (Some w) whole left) c.as_bytes.ensures.value c.in-Ok.ensures in
    let iff = expected-iff n pos words (chars text) c.args.wrapped.now c.utf8.wrapped left all in
    let roomy = roomy-iff n pos words text c.args.wrapped.now c.utf8.wrapped (sym c.units_fit.ensures ∙ c.if-not-units_fit.false) in
    (λ t. roomy.0 (iff.0 (c.is_done.ensures.0 t)), λ r. c.is_done.ensures.1 (iff.1 (roomy.1 r)))

pub returns-clause-fullest : goal.returns-clause-fullest
returns-clause-fullest c = holds c

pub returns-clause-fewest : goal.returns-clause-fewest
returns-clause-fewest c = λ t. fewest-wrapped c.args.n c.args.words c.args.text.now c.args.wrapped.now ((holds c).0 t).wrapped

pub returns-clause-least : goal.returns-clause-least
returns-clause-least c = λ t.
    let roomy = (holds c).0 t in
    least_breaking c.args.n c.args.words c.args.text.now c.args.wrapped.now roomy.columns roomy.units roomy.wrapped
