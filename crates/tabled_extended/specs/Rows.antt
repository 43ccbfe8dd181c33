-- Rows of which the first has the names of the fields. A text is the list of its bytes, a row the
-- list of its cells.
use Rattle.std.specs.Prelude.{ℕ, List, [], drop, slice_index_or}

-- the first row, empty if there is none
abbrev pub first_row : List (List (List ℕ)) → List (List ℕ)
first_row rows = slice_index_or rows 0 []

-- the rows after the first
abbrev pub further_rows : List (List (List ℕ)) → List (List (List ℕ))
further_rows rows = drop 1 rows
