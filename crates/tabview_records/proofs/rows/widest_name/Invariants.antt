use Rattle.std.proofs.Common.{◌≡◌, drop, map, max, string_bytes}
use Rattle.tabview_records.specs.Records.{widest}
use Rattle.tabview_records.proofs.rows.widest_name.Given as goal

abbrev pub invariant-loop-name : goal.invariant-loop-name
invariant-loop-name l = max l.most (widest (map string_bytes (drop l.name-index l.names))) ≡ widest (map string_bytes l.names)
