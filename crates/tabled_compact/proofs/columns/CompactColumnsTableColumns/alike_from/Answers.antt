use Rattle.tabled_compact.proofs.Names.{CompactSheet, slice_index, subst, ℕ, ◌<◌, ◌≡◌, ◌≤◌}
use Rattle.tabled_compact.proofs.Widths.{alike-or}
use Rattle.tabled_compact.proofs.columns.CompactColumnsTableColumns.alike_from.Goals as goal

pub returns : goal.returns
returns g c =
    let it = c.self.inside in
    let from = c.unwrap_or.result in
    let Q : CompactSheet → Type 0 = λ t. (column : ℕ) → from ≤ column → column < t.count → slice_index t.widths column ≡ slice_index t.widths from in
    subst Q c.self.view_is
    (alike-or (g.D.Dimension.width_at it.dimension.now) it.count c.alike_from.result from c.self.invariant.1 c.alike_from.ensures c.unwrap_or.ensures)
