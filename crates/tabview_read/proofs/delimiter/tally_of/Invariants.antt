use Rattle.std.proofs.Common.{◌≡◌, fold, take}
use Rattle.tabview_read.specs.Delimiters.{new_tally, tally_after}
use Rattle.tabview_read.proofs.delimiter.tally_of.Given as goal

abbrev pub invariant-loop-byte : goal.invariant-loop-byte
invariant-loop-byte l = l.tally ≡ fold (tally_after l.delimiter) new_tally (take l.byte-index l.text)
