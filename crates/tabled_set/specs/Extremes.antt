-- The maximum or minimum size of a table's cells, and a percentage of its total size.
use Rattle.std.specs.Prelude.{ℕ, List, [], ◌∷◌, length, map, min, ◌⊎◌, ◌≤◌, ◌^◌, ◌*◌, ◌/◌, ◌≡◌, MatchBool, Some, nat_lt}
use Rattle.std.specs.List.{range_with_len}
use Rattle.tabled_set.specs.Common.{cell_at, columns, lines_of, Sheet, text_columns, total_height, total_width, CompleteDimension}
use Rattle.tabled_set.specs.Common.{heights_of, widths_of}
use Rattle.tabled_text.specs.Measure.{greatest}
pub use Rattle.tabled_set.specs.declared.measurement.TextMeasure.{TextMeasure}
pub use Rattle.tabled_set.specs.declared.measurement.TextMeasure.TheVariants.{Columns, Lines}
pub use Rattle.tabled_set.specs.declared.measurement.Pick.{Pick}
pub use Rattle.tabled_set.specs.declared.measurement.Pick.TheVariants.{Greatest, Least}

-- the minimum of a number and a list
abbrev pub least_of : ℕ → List ℕ → ℕ
least_of x [] = x
least_of x (y ∷ ys) = min x (least_of y ys)

-- the minimum of a list, 0 if it is empty
abbrev pub least : List ℕ → ℕ
least [] = 0
least (x ∷ xs) = least_of x xs

abbrev pub picked : Pick → List ℕ → ℕ
picked Greatest numbers = greatest numbers
picked Least numbers = least numbers

-- the columns or lines of a text
abbrev pub extent_of : TextMeasure → List ℕ → ℕ
extent_of Columns text = text_columns text
extent_of Lines text = length (lines_of text)

-- the maximum or minimum size of a row's cells
abbrev pub picked_in_row : Pick → TextMeasure → List (List (List ℕ)) → ℕ → ℕ
picked_in_row pick extent cells row =
    picked pick (map (λ column. extent_of extent (cell_at cells row column)) (range_with_len 0 (columns cells)))

-- the maximum or minimum over the rows of `picked_in_row`
abbrev pub picked_of_rows : Pick → Pick → TextMeasure → List (List (List ℕ)) → ℕ
picked_of_rows across within extent cells =
    picked across (map (picked_in_row within extent cells) (range_with_len 0 (length cells)))

-- the minimum of a table's cells: the maximum over the rows of their narrowest cells, or the
-- minimum over the rows of their tallest
abbrev pub min_of : TextMeasure → List (List (List ℕ)) → ℕ
min_of Columns cells = picked_of_rows Greatest Least Columns cells
min_of Lines cells = picked_of_rows Least Greatest Lines cells

-- the total width or height of a table
abbrev pub total_of : TextMeasure → Sheet → ℕ
total_of Columns t = total_width t
total_of Lines t = total_height t

-- a percentage of a number, rounded down
abbrev pub percent_of : ℕ → ℕ → ℕ
percent_of percent whole = whole * percent / 100

-- the number, or its product with the percentage, overflows `usize`
abbrev pub HasNoPercent : ℕ → ℕ → Type 0
HasNoPercent percent whole = (2 ^ 64 ≤ whole) ⊎ (2 ^ 64 ≤ whole * percent)

-- ---- sizes that are stored

-- a list of widths or heights is stored, and the other sizes don't change; a list shorter than the
-- number of columns or rows changes nothing
abbrev pub StoresSizes : TextMeasure → List ℕ → List (List (List ℕ)) → CompleteDimension → CompleteDimension → Type 0
StoresSizes Columns list cells old new =
    MatchBool (nat_lt (length list) (columns cells)) (new ≡ old) ((widths_of new ≡ Some list) × (heights_of new ≡ heights_of old))
StoresSizes Lines list cells old new =
    MatchBool (nat_lt (length list) (length cells)) (new ≡ old) ((heights_of new ≡ Some list) × (widths_of new ≡ widths_of old))
