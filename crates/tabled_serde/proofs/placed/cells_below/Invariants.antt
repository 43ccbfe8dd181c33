use Rattle.std.proofs.Common.{map, string_bytes, take}
use Rattle.tabled_serde.proofs.Placing.{Placed}
use Rattle.tabled_serde.proofs.placed.cells_below.Given as goal

abbrev pub invariant-columns : goal.invariant-columns
invariant-columns l = Placed (map string_bytes (take l.name-index l.header)) l.fn.fields l.row l.unplaced
