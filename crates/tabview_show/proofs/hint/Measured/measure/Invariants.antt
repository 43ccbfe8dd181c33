use Rattle.std.proofs.Common.{◌≡◌, fold, take}
use Rattle.tabview_show.specs.Hints.{widths_after}
use Rattle.tabview_show.proofs.hint.Measured.measure.Given as goal

abbrev pub invariant-loop-byte : goal.invariant-loop-byte
invariant-loop-byte g l = l.widths ≡ fold widths_after l.initial.self.widths (take l.byte-index l.bytes)
