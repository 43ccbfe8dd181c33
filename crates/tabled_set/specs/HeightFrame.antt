-- The height of a table without its rows.
use Rattle.std.specs.Prelude.{ℕ, []}
use Rattle.tabled_set.specs.Common.{filled_height, SpannedConfig}

-- the lines of a table whose rows have height 0: its rules, and the margin at the top and bottom
abbrev pub frame_height : SpannedConfig → ℕ → ℕ
frame_height config rows = filled_height config rows []
