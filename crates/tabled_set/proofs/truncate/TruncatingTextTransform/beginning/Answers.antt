use Rattle.tabled_set.proofs.Names.{IsCutAt, List, [], arith, length, length-slice_split, lines_of, true, ℕ, ◌==◌, ◌∷◌, ◌≡◌, ◌≤◌}
use Rattle.tabled_text.proofs.Bridge.{lines_of-one}
use Rattle.tabled_set.proofs.TruncatedTexts.{in_place-fits, truncated-in_place}
use Rattle.tabled_set.proofs.truncate.TruncatingTextTransform.beginning.Goals.{else-self-via-then-self+else-count_lines-gt1}
use Rattle.tabled_set.proofs.truncate.TruncatingTextTransform.beginning.Goals.{else-self-via-else-self}
use Rattle.tabled_set.proofs.truncate.TruncatingTextTransform.beginning.Goals as goal

only_line : (text : List ℕ) → length (lines_of text) ≤ 1 → lines_of text ≡ text ∷ []
only_line text few = let some = length-slice_split (λ c. c == 10) text in lines_of-one text (omega (arith, some))

pub returns-then-used-saturating_sub-clause-none :
    goal.returns-then-used-saturating_sub-clause-none
returns-then-used-saturating_sub-clause-none c = λ h.
    let used = c.in_ok-used.used in
    let cut = c.in_ok-bytes.ensures in
    let kept : IsCutAt used.left c.args.text.now c.in_ok-bytes.bytes = record { cut = cut.cut; boundary = cut.boundary; whole = cut.some } in
    let fits = in_place-fits h used.text.now used.left c.in_ok-bytes.bytes c.in_ok-used.ensures.used kept in
    omega (arith, fits)

pub returns-clause-made : goal.returns-clause-made
returns-clause-made c =
    let transform = c.args.self.now in
    let text = c.args.text.now in
    let one : transform.multiline ≡ true → lines_of text ≡ text ∷ [] = elim c.else-self.branch [
      | else-self-via-then-self+else-count_lines-gt1 w ↦ λ e. only_line text (omega arith)
      | else-self-via-else-self w ↦ λ e. absurd (cc (e, w.if-self.false))
    ] in
    truncated-in_place c.args.content_size transform.suffix.now transform.limit transform.multiline text c.in_ok-used.used.text.now
    c.in_ok-used.used.left c.in_ok-bytes.bytes one c.in_ok-used.ensures.used c.in_ok-bytes.ensures.cut

pub returns-clause-some : goal.returns-clause-some
returns-clause-some c =
    let transform = c.args.self.now in
    let text = c.args.text.now in
    record {
      one_line = elim c.else-self.branch [
        | else-self-via-then-self+else-count_lines-gt1 w ↦ λ e. only_line text (omega arith)
        | else-self-via-else-self w ↦ λ e. absurd (cc (e, w.if-self.false))
      ];
      used = c.in_ok-used.used.text.now;
      left = c.in_ok-used.used.left;
      suffix_used = c.in_ok-used.ensures.used;
      lent = c.in_ok-used.ensures.some;
      bytes = c.in_ok-bytes.bytes;
      kept = let cut = c.in_ok-bytes.ensures in record { cut = cut.cut; boundary = cut.boundary; whole = cut.some };
      fits = omega arith;
    }
