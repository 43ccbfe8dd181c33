use Rattle.std.proofs.Common.{IsUtf8, subst, sym}
use Rattle.std.specs.List.{All}
use Rattle.tabled_serde.proofs.tables.table.Goals as goal

pub returns-clause-texts : goal.returns-clause-texts
returns-clause-texts g c = subst (All (All IsUtf8)) (sym c.from.ensures.records) c.in_ok-builder.ensures.texts
