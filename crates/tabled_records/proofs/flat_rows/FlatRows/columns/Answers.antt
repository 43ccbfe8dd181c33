use Rattle.tabled_records.proofs.Names.{ap, greatest, length, map, ◌∙◌}
use Rattle.tabled_records.proofs.Rows.{longest-parts}
use Rattle.tabled_records.proofs.flat_rows.FlatRows.columns.Goals as goal

pub returns : goal.returns
returns g c =
    c.columns.ensures ∙ longest-parts c.self.inside.cells.items c.self.inside.ranges c.self.invariant ∙ ap (λ rows. greatest (map length rows)) c.self.view_is
