use Rattle.std.proofs.Common.{string_bytes}
use Rattle.tabled_text.specs.Lines.{lines_left}
use Rattle.tabview_records.proofs.NarrowedTexts.{NarrowedSoFar}
use Rattle.tabview_records.proofs.narrowed.narrowed_text.Given as goal

abbrev pub invariant-loop-line : goal.invariant-loop-line
invariant-loop-line l = NarrowedSoFar l.cuts l.n l.text (lines_left l.line-iterator) (string_bytes l.out) l.begun
