-- Horizontal lines set by index.
use Rattle.std.specs.Prelude.{ℕ, List, Option}
use Rattle.std.specs.Ordering.{is_eq, nat_cmp}
use Rattle.std.specs.BTreeMap.{insert_entry}
use Rattle.std.specs.Map.{lookup}
use Rattle.tabled_config.specs.declared.borders.HorizontalLine.{HorizontalLine}

-- the line set at an index; the lines are sorted by index
abbrev pub line_set : List (ℕ × HorizontalLine) → ℕ → Option HorizontalLine
line_set lines index = lookup (λ other. is_eq (nat_cmp index other)) lines

-- the lines with one more, which replaces the one at its index
abbrev pub with_line : List (ℕ × HorizontalLine) → ℕ → HorizontalLine → List (ℕ × HorizontalLine)
with_line lines index line = insert_entry nat_cmp lines index line
