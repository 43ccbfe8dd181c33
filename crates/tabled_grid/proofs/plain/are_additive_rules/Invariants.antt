use Rattle.tabled_grid.proofs.Names.{HorizontalLine, IsAdditiveRule, Some, rule_at, ℕ, ◌<◌, ◌≡◌}
use Rattle.tabled_grid.proofs.plain.are_additive_rules.Given as goal

abbrev pub invariant-lines : goal.invariant-lines
invariant-lines l = (i : ℕ) → i < l.index → (line : HorizontalLine) → rule_at l.config l.rows i ≡ Some line → IsAdditiveRule line
