use Rattle.std.proofs.Common.{map, string_bytes, take}
use Rattle.std.specs.List.{AllZip}
use Rattle.tabview_records.specs.Narrowed.{IsNarrowedText}
use Rattle.tabview_records.proofs.expanded.narrowed_names.Given as goal

abbrev pub invariant-loop-name : goal.invariant-loop-name
invariant-loop-name l =
    AllZip (IsNarrowedText l.layout.cuts l.layout.names) (map string_bytes (take l.name-index l.names)) (map string_bytes l.shown.items)
