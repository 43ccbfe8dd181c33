use Rattle.std.proofs.Common.{◌∙◌}
use Rattle.csv.specs.Records.{fields_of}
use Rattle.tabview_read.proofs.ShownCells.{cells-more}
use Rattle.tabview_read.specs.Shown.{cell_or}
use Rattle.tabview_read.proofs.row.Row.shown_cells.Goals as goal

pub loop-column-preserved : goal.loop-column-preserved
loop-column-preserved c =
    c.in_ok-push_field.ensures.fields
    ∙ cells-more (cell_or c.args.null.now c.args.self.now) c.loop-column.column (fields_of c.loop-column.cells) c.cell_or.result.now c.loop-column.invariant c.cell_or.ensures
