use Rattle.tabled_grid.proofs.Names.{ap, arith, columns, get_or-map-range_with_len, reached, slice_index, slice_index_or, style_at, subst}
use Rattle.tabled_grid.proofs.Names.{ℕ, ◌<◌, ◌∙◌, ◌≡◌}
use Rattle.tabled_config.specs.RowStyles.{plain_style}
use Rattle.tabled_grid.proofs.grid.Grid.styles.Goals as goal

pub returns : goal.returns
returns g c =
    let inside = c.self.inside in
    let count = columns (g.R.ExactRecords.cells inside.records.now) in
    let styles = c.in-Some-in_row.styles.now in
    let style = style_at inside.config.now c.args.row in
    let kept = rw c.in-Some-by_column.is at c.self.invariant.3 in
    let listed = c.in-Some-in_row.ensures (slice_index (reached (g.D.Dimension.width_at inside.dimension.now) count)) count kept in
    subst (λ sheet. (column : ℕ) → column < columns sheet.cells → slice_index_or styles column plain_style ≡ style_at sheet.config c.args.row column)
    c.self.view_is (λ column within. ap (λ all. slice_index_or all column plain_style) listed
    ∙ get_or-map-range_with_len style 0 count column column plain_style within (omega arith))
