use Rattle.tabled_grid.proofs.Names.{IsAdditiveStyle, style_at, ℕ, ◌<◌}
use Rattle.tabled_grid.proofs.PlainTests.{below_next}
use Rattle.tabled_grid.proofs.plain.are_additive_styles.Goals as goal

pub rows-preserved : goal.rows-preserved
rows-preserved c r k l m =
    below_next (λ row. (column : ℕ) → column < c.args.columns → IsAdditiveStyle (style_at c.args.config.now row column)) c.rows.row (λ row within column inside. c.rows.invariant row column within inside)
    (c.are_additive_styles_in.ensures.0 c.if-not-are_additive_styles_in.false) r l k m
