use Rattle.tabled_records.proofs.Names.{ap, length, length-map, part, sym, ◌∙◌}
use Rattle.tabled_records.proofs.flat_rows.FlatRows.len.Goals as goal

pub returns : goal.returns
returns g c = c.len.ensures ∙ sym (length-map c.self.inside.ranges (part c.self.inside.cells.items)) ∙ ap length c.self.view_is
