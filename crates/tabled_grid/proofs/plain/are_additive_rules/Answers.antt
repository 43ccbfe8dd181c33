use Rattle.tabled_grid.proofs.Names.{HorizontalLine, IsAdditiveRule, Some, arith, rule_at, ℕ, ◌≡◌}
use Rattle.tabled_grid.proofs.PlainTests.{below_next, said_no}
use Rattle.tabled_grid.proofs.plain.are_additive_rules.Goals as goal

pub returns-then-not-is_additive_rule_at : goal.returns-then-not-is_additive_rule_at
returns-then-not-is_additive_rule_at c =
    let within = c.lines-test.true in
    said_no c.is_additive_rule_at.result c.if-not-is_additive_rule_at.true (λ all. c.is_additive_rule_at.ensures.1 (all c.lines.index (omega arith)))

pub lines-preserved : goal.lines-preserved
lines-preserved c =
    below_next (λ i. (line : HorizontalLine) → rule_at c.args.config.now c.args.rows i ≡ Some line → IsAdditiveRule line) c.lines.index c.lines.invariant
    (c.is_additive_rule_at.ensures.0 c.if-not-is_additive_rule_at.false)

pub returns : goal.returns
returns c =
    let done = c.lines-test.false in
    let P : ℕ → Type 0 = λ i. (line : HorizontalLine) → rule_at c.args.config.now c.args.rows i ≡ Some line → IsAdditiveRule line in (
      λ e i l. below_next P c.args.rows (λ k m. c.lines.invariant k (omega arith)) (c.is_additive_rule_at-2.ensures.0 e) i (omega arith),
      λ all. c.is_additive_rule_at-2.ensures.1 (all c.args.rows (omega arith)),
    )
