use Rattle.tabview_read.proofs.MarkedCells.{markdown-read}
use Rattle.tabview_read.proofs.markdown.MarkdownRowsRows.read.Goals as goal

pub returns : goal.returns
returns g c = markdown-read g.T.Rows.read_gives _ _ c.in_ok-read.field-0 _ _ c.if-not-branch.false c.in_ok-read.ensures c.in_ok-write_cells.ensures
