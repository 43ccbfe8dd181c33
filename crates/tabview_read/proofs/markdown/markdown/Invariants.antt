use Rattle.std.proofs.Common.{◌≡◌, ◌++◌, IsUtf8, string_bytes}
use Rattle.std.specs.Str.Iter.{chars_rest}
use Rattle.tabview_read.specs.MarkedCells.{markdown}
use Rattle.tabview_read.proofs.markdown.markdown.Given as goal

abbrev pub invariant-loop-c : goal.invariant-loop-c
invariant-loop-c l = IsUtf8 (chars_rest l.c-iterator) × (string_bytes l.out ++ markdown (chars_rest l.c-iterator) ≡ markdown l.text)
