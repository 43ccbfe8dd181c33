use Rattle.std.proofs.Common.{◌≡◌, fold, take}
use Rattle.tabview_read.specs.CsvText.{scan_after}
use Rattle.tabview_read.proofs.watched.Watched.watch.Given as goal

abbrev pub invariant-loop-byte : goal.invariant-loop-byte
invariant-loop-byte g l = (l.self.input ≡ l.initial.self.input) × (l.self.scan ≡ fold scan_after l.initial.self.scan (take l.byte-index l.block))
    × (l.self.is_ended ≡ l.initial.self.is_ended)
