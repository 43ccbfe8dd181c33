use Rattle.std.proofs.Common.{ap, ◌∙◌}
use Rattle.csv.specs.Records.{text_of}
use Rattle.tabview_cells.specs.Graphic.{is_graphic}
use Rattle.tabview_cells.proofs.kinds.is_graphic_row.Goals as goal

pub returns : goal.returns
returns c = c.is_graphic.ensures ∙ ap is_graphic (c.as_slice.ensures ∙ ap text_of c.as_byte_record.ensures)
