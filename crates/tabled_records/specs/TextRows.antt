-- The rows and cells of a text.
use Rattle.std.specs.Prelude.{ℕ, ◌-◌, ◌==◌, if◌then◌else◌, List, [], length, map, take}
use Rattle.std.specs.List.{slice_index, slice_split}
use Rattle.tabled_text.specs.Measure.{greatest, lines_of}
use Rattle.tabled_base.specs.Cells.{lengthened}

-- the text without a line feed at its end
abbrev pub without_last_feed : List ℕ → List ℕ
without_last_feed text =
    if slice_index text (length text - 1) == 10 then take (length text - 1) text else text

-- the pieces between line feeds: a last line feed ends the last row, and the empty text has no row
abbrev pub row_lines : List ℕ → List (List ℕ)
row_lines text = if length text == 0 then [] else lines_of (without_last_feed text)

-- the pieces between tabs
abbrev pub tab_separated : List ℕ → List (List ℕ)
tab_separated line = slice_split (λ b. b == 9) line

-- the number of cells in the longest row
abbrev pub most_cells : List (List ℕ) → ℕ
most_cells lines = greatest (map (λ line. length (tab_separated line)) lines)

-- the rows of a text; short ones are filled up with empty cells
unfoldable pub text_rows : List ℕ → List (List (List ℕ))
text_rows text =
    map (λ line. lengthened (most_cells (row_lines text)) (tab_separated line)) (row_lines text)
