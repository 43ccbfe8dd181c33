use Rattle.std.proofs.Common.{ap, ◌∙◌}
use Rattle.csv.specs.Records.{text_of}
use Rattle.tabled_base.specs.Printable.{is_printable}
use Rattle.tabview_cells.proofs.kinds.is_printable_row.Goals as goal

pub returns : goal.returns
returns c = c.is_printable.ensures ∙ ap is_printable (c.as_slice.ensures ∙ ap text_of c.as_byte_record.ensures)
