use Rattle.std.proofs.Common.{◌≡◌, ◌++◌, IsUtf8, string_bytes}
use Rattle.std.specs.Str.Iter.{chars_rest}
use Rattle.tabview_read.specs.Tables.{doubled}
use Rattle.tabview_read.proofs.tables.push_doubled.Given as goal

abbrev pub invariant-loop-c : goal.invariant-loop-c
invariant-loop-c l = IsUtf8 (chars_rest l.c-iterator)
    × (string_bytes l.query ++ doubled (chars_rest l.c-iterator) ≡ string_bytes l.initial.query ++ doubled l.name)
