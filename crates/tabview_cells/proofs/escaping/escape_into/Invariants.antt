use Rattle.std.proofs.Common.{◌≡◌, ◌++◌, IsUtf8, string_bytes}
use Rattle.std.specs.Str.Iter.{chars_rest}
use Rattle.tabview_cells.specs.Escaping.{escaped}
use Rattle.tabview_cells.proofs.escaping.escape_into.Given as goal

abbrev pub invariant-loop-c : goal.invariant-loop-c
invariant-loop-c l = IsUtf8 (chars_rest l.c-iterator)
    × (string_bytes l.out ++ escaped l.lines (chars_rest l.c-iterator) ≡ string_bytes l.initial.out ++ escaped l.lines l.text)
