-- Cells with arbitrary text.
use Rattle.std.specs.Prelude.{ℕ, List}
use Rattle.std.specs.List.{All}
use Rattle.std.specs.Str.{IsUtf8}

-- all cells are valid UTF-8
abbrev pub AreTexts : List (List (List ℕ)) → Type 0
AreTexts cells = All (All IsUtf8) cells
