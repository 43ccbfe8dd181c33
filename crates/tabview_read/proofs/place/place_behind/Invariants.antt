use Rattle.std.proofs.Common.{◌≡◌, take}
use Rattle.tabview_read.specs.Places.{column_after, line_after}
use Rattle.tabview_read.proofs.place.place_behind.Given as goal

abbrev pub invariant-loop-byte : goal.invariant-loop-byte
invariant-loop-byte l = (l.place.line ≡ line_after (take l.byte-index l.before)) × (l.place.column ≡ column_after (take l.byte-index l.before))
