use Rattle.std.proofs.Common.{◌≡◌, max}
use Rattle.tabled_base.specs.Cells.{cell_at}
use Rattle.tabled_size.proofs.Greatest.{greatest_below}
use Rattle.tabview_print.specs.Floors.{cell_floor, is_name}
use Rattle.tabview_print.proofs.floors.content_floor.Given as goal

abbrev pub invariant-loop-row : goal.invariant-loop-row
invariant-loop-row g l =
    l.most ≡ max 1 (greatest_below (λ row. cell_floor (is_name l.has_header row) l.keeps (cell_at (g.R.ExactRecords.cells l.records) row l.column)) l.row)
