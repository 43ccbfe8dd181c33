use Rattle.tabled_set.proofs.Names.{List, [], append-nil, ap, arith, length, sym, true, ℕ, ◌++◌, ◌==◌, ◌∙◌, ◌∷◌, ◌≡◌}
use Rattle.tabled_set.proofs.RewrittenRecords.{adds-pushed}
use Rattle.tabled_set.proofs.rewriting.push_ended.Goals as goal

none_behind : (front ending : List ℕ) → (length ending == 0) ≡ true → front ≡ front ++ ending
none_behind front [] e = sym (append-nil front)
none_behind front (x ∷ xs) e = absurd (grind (arith, e))

pub returns-then-is_empty-clause-ok : goal.returns-then-is_empty-clause-ok
returns-then-is_empty-clause-ok c =
    adds-pushed c.push.result (λ text. text ≡ c.args.front.now ++ c.args.ending.now) _ _ _ c.push.ensures.ok (none_behind c.args.front.now c.args.ending.now (sym c.is_empty.ensures ∙ c.if-is_empty.true))

pub returns-clause-ok : goal.returns-clause-ok
returns-clause-ok c =
    adds-pushed c.push-2.result (λ text. text ≡ c.args.front.now ++ c.args.ending.now) _ _ _ c.push-2.ensures.ok
    (c.as_str-2.ensures.value ∙ c.in_ok-push_str-2.ensures.bytes
    ∙ ap (λ l. l ++ c.args.ending.now) (c.in_ok-push_str.ensures.bytes ∙ ap (λ l. l ++ c.args.front.now) c.clear.ensures.bytes))
