-- The rows that are shown: a number, if rows have one, and the chosen cells.
use Rattle.std.specs.Prelude.{List, ℕ, [], ◌∷◌, ◌++◌, ◌==◌, Bool, true, false, if◌then◌else◌, length, map}
use Rattle.std.specs.List.{list_any, range_with_len}
use Rattle.csv.specs.Records.{fields_of}
use Rattle.tabview_cells.specs.Choice.{cell_of, shown_cell}
use Rattle.tabview_cells.specs.declared.choice.Shown.{Shown}
use Rattle.tabview_read.specs.declared.row.Row.{Row}

-- the number of a row, if rows have one
abbrev pub number_of : Bool → List ℕ → List (List ℕ)
number_of false number = []
number_of true number = number ∷ []

-- the texts that are shown of a row
abbrev pub texts_of : Bool → List ℕ → Shown → List (List ℕ) → List ℕ → List (List ℕ)
texts_of numbers number shown cells columns = number_of numbers number ++ map (shown_cell shown cells) columns

-- whether the cell of a column is null
abbrev pub is_null : Row → ℕ → Bool
is_null row column = list_any (λ n. n == column) row.nulls.items

-- a cell of a row, or a text if it is null
abbrev pub cell_or : List ℕ → Row → ℕ → List ℕ
cell_or null row column = if is_null row column then null else cell_of (fields_of row.cells) column

-- the cells of a row, with a text for those that are null
abbrev pub shown_cells : List ℕ → Row → List (List ℕ)
shown_cells null row = map (cell_or null row) (range_with_len 0 (length (fields_of row.cells)))
