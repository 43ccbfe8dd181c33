use Rattle.tabled_set.proofs.Names.{AllZip, HasEndedLines, IsEnded, [], ap, append-nil, cond, cow_str_bytes, encode_ascii, false}
use Rattle.tabled_set.proofs.Names.{lines_left, lit<, string_bytes, subst, sym, true, ◌++◌, ◌∙◌, ◌∷◌, ◌≡◌}
use Rattle.tabled_set.proofs.JoinedLines.{appended, appended-all, appended-more}
use Rattle.tabled_set.proofs.truncate.ended_lines.Goals.{then-begun+in_ok-push, else-begun}
use Rattle.tabled_set.proofs.truncate.ended_lines.Goals as goal

pub loop-line-init : goal.loop-line-init
loop-line-init c = λ rest h.
    let used = c.args.used.now in
    record {
      lines = rest;
      each = subst (λ lines. AllZip (IsEnded used.left (cow_str_bytes used.text)) lines rest) (ap lines_left c.into_iter-line-iterator.ensures.into_iter_gives ∙ c.lines-line-items.ensures) h;
      joined = ap (λ bytes. bytes ++ appended false rest) c.clear.ensures.bytes ∙ appended-all rest;
    }

pub loop-line-preserved : goal.loop-line-preserved
loop-line-preserved c = λ rest h.
    let used = c.args.used.now in
    let R = IsEnded used.left (cow_str_bytes used.text) in
    let begun = c.loop-line.begun in
    let front = string_bytes c.loop-line.answer in
    let added = c.in_ok-push_ended.ensures in
    let feed : string_bytes c.if-begun.answer ≡ front ++ cond begun (10 ∷ []) [] = elim c.if-begun.branch [
      | then-begun+in_ok-push w ↦
          ap string_bytes w.answer-is ∙ (w.in_ok-push.ensures.bytes ∙ ap (λ l. front ++ l) (encode_ascii 10 (lit< tt) ∙ ap (λ b. cond b (10 ∷ []) []) (sym w.if-begun.true)))
      | else-begun w ↦
          ap string_bytes w.answer-is ∙ (sym (append-nil front) ∙ ap (λ b. front ++ cond b (10 ∷ []) []) (sym w.if-begun.false))
    ] in
    let now : front ++ appended begun (added.piece ∷ rest) ≡ string_bytes c.push_ended.new.answer ++ appended true rest =
    appended-more begun front added.piece rest
    ∙ ap (λ bytes. bytes ++ appended true rest) (sym (added.added ∙ ap (λ bytes. bytes ++ added.piece) feed)) in
    subst (HasEndedLines used.left (cow_str_bytes used.text) c.args.text.now) now
    (c.loop-line.invariant (added.piece ∷ rest) (subst (λ lines. AllZip R lines (added.piece ∷ rest)) (sym c.in-Some.ensures.steps) (added.ended, h)))

pub returns : goal.returns
returns c =
    let used = c.args.used.now in
    subst (HasEndedLines used.left (cow_str_bytes used.text) c.args.text.now) (append-nil (string_bytes c.loop-line.answer))
    (c.loop-line.invariant [] (subst (λ lines. AllZip (IsEnded used.left (cow_str_bytes used.text)) lines []) (sym c.in-None.ensures.steps.0) tt))
