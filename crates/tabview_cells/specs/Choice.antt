-- The cells that are shown of a row. A row is the list of its cells, and a cell that of its bytes.
use Rattle.std.specs.Cmp.Lexicographic.{pointwise}
use Rattle.std.specs.Prelude.{ℕ, List, [], ◌++◌, true, false, if◌then◌else◌, nat_eq, unwrap_or}
use Rattle.csv.specs.Records.{field_at}
use Rattle.tabled_records.specs.Joined.{Written}
use Rattle.tabview_cells.specs.Escaping.{escaped}
use Rattle.tabview_cells.specs.declared.choice.Shown.{Shown}
use Rattle.tabview_cells.specs.declared.choice.Shown.TheVariants.{Lines, OneLine, Raw}

-- a cell as it is shown
abbrev pub shown_text : Shown → List ℕ → List ℕ
shown_text Raw text = text
shown_text Lines text = escaped true text
shown_text OneLine text = escaped false text

-- the cell at an index, empty past the end of the row
abbrev pub cell_of : List (List ℕ) → ℕ → List ℕ
cell_of row column = unwrap_or (field_at row column) []

-- that cell as it is shown
abbrev pub shown_cell : Shown → List (List ℕ) → ℕ → List ℕ
shown_cell shown row column = shown_text shown (cell_of row column)

-- further texts are in the row that is begun
abbrev pub with_texts : Written → List (List ℕ) → Written
with_texts w texts = record { rows = w.rows; begun = w.begun ++ texts }

-- a cell that counts for the kind of its column: empty if it is the text that doesn't count
abbrev pub counting : List ℕ → List ℕ → List ℕ
counting blank cell = if pointwise nat_eq cell blank then [] else cell

-- the cell at an index, as it counts
abbrev pub counting_cell : List ℕ → List (List ℕ) → ℕ → List ℕ
counting_cell blank row column = counting blank (cell_of row column)
