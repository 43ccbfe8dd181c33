use Rattle.tabled_records.proofs.Names.{ap, arith, length, length-map, part}
use Rattle.tabled_records.proofs.flat_rows.FlatRows.row.Goals as goal

pub at-start-requires : goal.at-start-requires
at-start-requires g c =
    let r = c.self.inside in omega (arith, c.requires, ap length c.self.view_is, length-map r.ranges (part r.cells.items))
