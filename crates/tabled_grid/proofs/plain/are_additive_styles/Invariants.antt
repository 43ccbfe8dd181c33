use Rattle.tabled_grid.proofs.Names.{IsAdditiveStyle, style_at, ℕ, ◌<◌}
use Rattle.tabled_grid.proofs.plain.are_additive_styles.Given as goal

abbrev pub invariant-rows : goal.invariant-rows
invariant-rows l = (r c : ℕ) → r < l.row → c < l.columns → IsAdditiveStyle (style_at l.config r c)
