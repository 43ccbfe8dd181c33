use Rattle.tabled_grid.proofs.Names.{Sheet, style_at, subst, sym, ◌∙◌}
use Rattle.tabled_grid.specs.Picture.{sheet_columns}
use Rattle.tabled_line.specs.Placements.{AreKnown}
use Rattle.tabled_grid.proofs.grid.GridRow.styled_placements.Goals as goal

-- what is known from the row's padding and alignments is known of the grid's row
pub returns-in-Some : goal.returns-in-Some
returns-in-Some g c =
    let row = c.args.self.now.row in
    let columns = sheet_columns c.args.self.now.grid.now in
    subst (λ (t : Sheet). AreKnown (style_at t.config row) columns c.of.result) c.grid.view_is
    (c.of.ensures (style_at c.grid.inside.config.now row) columns (λ column. sym (c.in-Some.ensures column) ∙ c.paddings_in.ensures column) c.horizontals_in.ensures)
