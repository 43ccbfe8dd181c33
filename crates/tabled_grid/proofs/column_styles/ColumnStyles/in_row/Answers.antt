use Rattle.tabled_grid.proofs.Names.{style_at, sym, ◌∙◌}
use Rattle.tabled_grid.proofs.AlikeRows.{alike-maps}
use Rattle.tabled_grid.proofs.column_styles.ColumnStyles.in_row.Goals as goal

pub returns-in-Some : goal.returns-in-Some
returns-in-Some c = λ width columns known.
    let kept = rw c.in-Some.is at known.styles in
    c.as_slice.ensures.value ∙ kept ∙ alike-maps (style_at c.args.config.now c.args.self.now.row) (style_at c.args.config.now c.args.row) 0 columns
    (λ column. sym (c.is_set_in.ensures width columns known c.if-is_set_in.true column))
