-- The cells of records as they are stored: in one list, or in a vector for each row.
use Rattle.std.specs.Prelude.{◌≡◌, ℕ, suc, zero, ◌*◌, List, [], ◌∷◌, length, map, take, drop}
use Rattle.tabled_base.specs.Cells.{IsRectangular, texts_of}
use Rattle.tabled_base.specs.declared.vec_records.Stored.{Stored}
use Rattle.tabled_base.specs.declared.vec_records.Stored.TheVariants.{InList, InRows}

-- `count` rows of `columns` cells each, from a list of all cells
abbrev pub in_rows : {T : Type 0} → ℕ → ℕ → List T → List (List T)
in_rows zero columns cells = []
in_rows (suc count) columns cells = take columns cells ∷ in_rows count columns (drop columns cells)

-- the texts of the rows that are stored
abbrev pub stored_texts : {T : Type 0} → (T → List ℕ) → Stored T → List (List (List ℕ))
stored_texts text (InList cells columns count) = in_rows count columns (map text cells.items)
stored_texts text (InRows rows) = texts_of text rows.items

-- a list has the cells of all rows, and rows in vectors are equally long
abbrev pub IsWhole : {T : Type 0} → (T → List ℕ) → Stored T → Type 0
IsWhole text (InList cells columns count) = length cells.items ≡ count * columns
IsWhole text (InRows rows) = IsRectangular (texts_of text rows.items)
