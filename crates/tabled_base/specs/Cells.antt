-- Rows of cells. A cell is the list of its text's bytes.
use Rattle.std.specs.Prelude.{◌≡◌, ℕ, ◌-◌, ◌<◌, List, [], ◌∷◌, ◌++◌, length, map, max, replicate, slice_index_or, slice_set}
use Rattle.std.specs.List.{All}
use Rattle.std.specs.declared.alloc.Global.{Global}
use Rattle.std.specs.declared.vec.Vec.{Vec}
use Rattle.tabled_text.specs.Measure.{greatest}

-- the number of cells in each of several equally long rows, 0 if there is none
abbrev pub columns : List (List (List ℕ)) → ℕ
columns [] = 0
columns (row ∷ rows) = length row

-- the rows are equally long
abbrev pub IsRectangular : List (List (List ℕ)) → Type 0
IsRectangular cells = All (λ row. length row ≡ columns cells) cells

-- the row and the column exist
pub record IsInside (cells : List (List (List ℕ))) (row column : ℕ) : Type 0 where
  pub row_in : row < length cells
  pub column_in : column < columns cells

-- the text of a cell, empty if there is no such cell
abbrev pub cell_at : List (List (List ℕ)) → ℕ → ℕ → List ℕ
cell_at cells row column = slice_index_or (slice_index_or cells row []) column []

-- the rows with the text of one cell replaced
abbrev pub with_cell : List (List (List ℕ)) → ℕ → ℕ → List ℕ → List (List (List ℕ))
with_cell cells row column text = slice_set cells row (slice_set (slice_index_or cells row []) column text)

-- a row filled up with empty cells to `count` cells
abbrev pub lengthened : ℕ → List (List ℕ) → List (List ℕ)
lengthened count row = row ++ replicate (count - length row) []

-- the number of cells in the longest row
abbrev pub longest : List (List (List ℕ)) → ℕ
longest rows = greatest (map length rows)

-- the rows, filled up to the length of the longest
abbrev pub lengthened_rows : List (List (List ℕ)) → List (List (List ℕ))
lengthened_rows rows = map (lengthened (longest rows)) rows

-- the rows with another row appended, all filled up to the length of the longest
abbrev pub with_record : List (List (List ℕ)) → List (List ℕ) → List (List (List ℕ))
with_record cells record' = map (lengthened (max (columns cells) (length record'))) (cells ++ record' ∷ [])

-- the texts of rows that are vectors
abbrev pub texts_of : {T : Type 0} → (T → List ℕ) → List (Vec T Global) → List (List (List ℕ))
texts_of text rows = map (λ row. map text row.items) rows

-- the texts of rows of `Text`, which a contract sees as its bytes
abbrev pub row_texts : List (Vec (List ℕ) Global) → List (List (List ℕ))
row_texts rows = texts_of (λ text. text) rows
