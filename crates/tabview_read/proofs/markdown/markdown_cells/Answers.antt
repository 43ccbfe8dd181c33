use Rattle.std.proofs.Common.{arith, ◌∙◌}
use Rattle.csv.specs.Records.{fields_of}
use Rattle.tabview_read.proofs.MarkedCells.{markdown-all, markdown-next}
use Rattle.tabview_read.proofs.markdown.markdown_cells.Goals as goal

pub loop-column-preserved : goal.loop-column-preserved
loop-column-preserved c =
    markdown-next (fields_of c.args.cells.now) c.loop-column.column _ _ c.name_at.result.now _ (omega arith) c.name_at.ensures
    (c.deref.ensures ∙ c.in_ok-markdown.ensures) c.loop-column.invariant c.in_ok-push_field.ensures.fields

pub returns : goal.returns
returns c = markdown-all (fields_of c.args.cells.now) c.loop-column.column _ (omega arith) c.loop-column.invariant
