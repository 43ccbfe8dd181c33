-- Cells whose characters have known widths.
use Rattle.std.specs.Prelude.{ℕ, List}
use Rattle.std.specs.List.{All}
use Rattle.tabled_text.specs.Plain.{IsAdditive, IsPlain}

-- all cells are additive
abbrev pub AreAdditive : List (List (List ℕ)) → Type 0
AreAdditive cells = All (All IsAdditive) cells

-- all cells are plain, and so additive
abbrev pub ArePlain : List (List (List ℕ)) → Type 0
ArePlain cells = All (All IsPlain) cells
