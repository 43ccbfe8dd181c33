-- What is known of the texts of rows that are narrowed to the widths of their columns: of each two
-- numbers, the second one at least 1; or, if it had to be made, its index among those that were made,
-- and 0. `makes` is the narrowed text, and `tells` says when two numbers describe one.
use Rattle.std.specs.Prelude.{◌≡◌, ◌<◌, ◌≤◌, ◌+◌, ◌==◌, ℕ, List, [], ◌∷◌, ◌++◌, Option, None, length, MatchBool, IfSome, slice_index_or}
use Rattle.tabled_base.specs.Cells.{IsInside, cell_at}
use Rattle.tabled_records.specs.declared.narrowed_texts.Narrowed.{Narrowed}
use Rattle.tabled_records.specs.declared.narrowed_texts.Narrowed.TheVariants.{Made, Told}
use Rattle.tabled_records.specs.declared.narrowed_texts.NarrowedTexts.{NarrowedTexts}
use Rattle.tabled_text.specs.Measure.{lines_of, text_columns}

abbrev pub Makes : Type 0
Makes = ℕ → List ℕ → List ℕ

abbrev pub Tells : Type 1
Tells = ℕ → List ℕ → ℕ × ℕ → Type 0

-- the narrowed line, which was made
pub record IsNarrowedAnew (makes : Makes) (n : ℕ) (line out : List ℕ) (columns lines : ℕ) : Type 0 where
  pub same : out ≡ makes n line
  pub columns_are : columns ≡ text_columns (makes n line)
  pub lines_are : lines ≡ length (lines_of (makes n line))

-- a line is narrowed to n columns
abbrev pub IsNarrowed : Makes → Tells → ℕ → List ℕ → List ℕ → Narrowed → Type 0
IsNarrowed makes tells n line out (Told first second) = (0 < second) × tells n line (first, second)
IsNarrowed makes tells n line out (Made columns lines) = IsNarrowedAnew makes n line out columns lines

-- the numbers that describe a text that is narrowed to n columns are right
abbrev pub IsTold : Makes → Tells → ℕ → List ℕ → ℕ × ℕ → List (List ℕ) → Type 0
IsTold makes tells n text told made = MatchBool (told.1 == 0)
    ((told.0 < length made) × (slice_index_or made told.0 [] ≡ makes n text))
    (tells n text told)

-- it is right if the text's column has a width of at least one column
abbrev pub IsToldFor : Makes → Tells → Option ℕ → List ℕ → ℕ × ℕ → List (List ℕ) → Type 0
IsToldFor makes tells width text told made = IfSome width (λ n. 0 < n → IsTold makes tells n text told made)

-- a text was added with the numbers that describe it
pub record AddsTold (makes : Makes) (tells : Tells) (width : Option ℕ) (text : List ℕ) (old new : NarrowedTexts) : Type 0 where
  pub told : ℕ × ℕ
  pub added : new.told ≡ old.told ++ told ∷ []
  pub more : List (List ℕ)
  pub made : new.made ≡ old.made ++ more
  pub is_told : IsToldFor makes tells width text told new.made

-- the numbers that describe the cell in a row and a column, of the texts in a range, are right, or
-- the cell is empty and only fills up its row
abbrev pub IsKnownIn : Makes → Tells → List (Option ℕ) → List (List (List ℕ)) → NarrowedTexts → ℕ × ℕ → ℕ → ℕ → Type 0
IsKnownIn makes tells widths rows texts range row column =
    (column < range.1 → (told : ℕ × ℕ) → IsToldFor makes tells (slice_index_or widths column None) (cell_at rows row column)
    (slice_index_or texts.told (range.0 + column) told) texts.made)
    × (range.1 ≤ column → cell_at rows row column ≡ [])

-- all cells of the first rows are known, and the texts of each row are a range of all
pub record AreKnown (makes : Makes) (tells : Tells) (widths : List (Option ℕ)) (rows : List (List (List ℕ))) (texts : NarrowedTexts) : Type 0 where
  pub inside : (row : ℕ) (range : ℕ × ℕ) → row < length texts.ranges
      → (slice_index_or texts.ranges row range).0 + (slice_index_or texts.ranges row range).1 ≤ length texts.told
  pub cells : (row column : ℕ) (range : ℕ × ℕ) → row < length texts.ranges → IsInside rows row column
      → IsKnownIn makes tells widths rows texts (slice_index_or texts.ranges row range) row column
