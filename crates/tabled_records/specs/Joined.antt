-- Texts in one buffer (`whole`), `gap` bytes apart, and the rows that they make up. A place is the
-- byte where a text ends, and the columns of the text.
use Rattle.std.specs.Prelude.{◌≡◌, ⊤, ℕ, zero, suc, ◌+◌, ◌<◌, ◌≤◌, List, [], ◌∷◌, length, slice_index_or, drop, map, take, ◌==◌, false}
use Rattle.std.specs.Prelude.{Bool, true, ◌++◌}
use Rattle.std.specs.List.{slice_range, All}
use Rattle.std.specs.Str.{IsCharBoundary}
use Rattle.tabled_base.specs.Printable.{IsPrintableAscii}
use Rattle.tabled_text.specs.Measure.{lines_of, text_columns, greatest}
use Rattle.tabled_base.specs.Cells.{lengthened_rows}

-- the texts at places: the first begins at `start`, each other one `gap` bytes after the end of the
-- one before it
abbrev pub texts_from : ℕ → List ℕ → ℕ → List (ℕ × ℕ) → List (List ℕ)
texts_from gap whole start [] = []
texts_from gap whole start (place ∷ places) = slice_range whole start place.0 ∷ texts_from gap whole (place.0 + gap) places

-- where another text would begin
abbrev pub behind : ℕ → ℕ → List (ℕ × ℕ) → ℕ
behind gap start [] = start
behind gap start (place ∷ places) = behind gap (place.0 + gap) places

-- where the text at an index begins
unfoldable pub begin : ℕ → ℕ → List (ℕ × ℕ) → ℕ → ℕ
begin gap start places zero = start
begin gap start [] (suc i) = start
begin gap start (place ∷ places) (suc i) = begin gap (place.0 + gap) places i

-- the text is a part of the whole, and its columns are right
pub record IsJoined (whole : List ℕ) (start : ℕ) (place : ℕ × ℕ) : Type 0 where
  pub ordered : start ≤ place.0
  pub begins : IsCharBoundary whole start
  pub ends : IsCharBoundary whole place.0
  pub counted : place.1 ≡ text_columns (slice_range whole start place.0)

-- this is so for all texts
abbrev pub AreJoined : ℕ → List ℕ → ℕ → List (ℕ × ℕ) → Type 0
AreJoined gap whole start [] = ⊤
AreJoined gap whole start (place ∷ places) = IsJoined whole start place × AreJoined gap whole (place.0 + gap) places

-- the lines of texts; those after the last number have one
abbrev pub AreLines : List (List ℕ) → List ℕ → Type 0
AreLines texts lines = (k : ℕ) → k < length texts → slice_index_or lines k 1 ≡ length (lines_of (slice_index_or texts k []))

-- all texts are parts of the whole, and their measures are right
pub record AreKept (gap : ℕ) (whole : List ℕ) (places : List (ℕ × ℕ)) (lines : List ℕ) : Type 0 where
  pub joined : AreJoined gap whole 0 places
  pub told : AreLines (texts_from gap whole 0 places) lines

-- the texts make up the whole, with nothing between them
pub record AreFilled (whole : List ℕ) (places : List (ℕ × ℕ)) (lines : List ℕ) : Type 0 where
  pub kept : AreKept 0 whole places lines
  pub filled : behind 0 0 places ≡ length whole
  pub few : length lines ≤ length places

-- a text is returned with its columns and lines
pub record AreMeasures (text told : List ℕ) (columns lines : ℕ) : Type 0 where
  pub same : told ≡ text
  pub wide : columns ≡ text_columns text
  pub high : lines ≡ length (lines_of text)

-- ---- rows: a range is the index of a row's first item, and the number of its items

-- the items of a row
abbrev pub part : {A : Type 0} → List A → ℕ × ℕ → List A
part items range = take range.1 (drop range.0 items)

-- the items of all rows
abbrev pub parts : {A : Type 0} → List A → List (ℕ × ℕ) → List (List A)
parts items ranges = map (part items) ranges

-- the rows, each filled up to the longest with empty cells
abbrev pub rows_in : List (List ℕ) → List (ℕ × ℕ) → List (List (List ℕ))
rows_in texts ranges = lengthened_rows (parts texts ranges)

-- the number of texts in the longest row
abbrev pub longest_range : List (ℕ × ℕ) → ℕ
longest_range ranges = greatest (map (λ range. range.1) ranges)

-- each range is within the texts
abbrev pub AreRanges : ℕ → List (ℕ × ℕ) → Type 0
AreRanges count ranges = All (λ range. range.0 + range.1 ≤ count) ranges

-- the text of a cell is returned with its columns and its index among all texts
pub record IsCell (texts : List (List ℕ)) (cell told : List ℕ) (columns place : ℕ) : Type 0 where
  pub there : place < length texts
  pub found : slice_index_or texts place [] ≡ cell
  pub same : told ≡ cell
  pub wide : columns ≡ text_columns cell

-- ---- cells that borrow a text

-- a text doesn't contain a byte
abbrev pub HasNo : ℕ → List ℕ → Type 0
HasNo byte text = All (λ b. (b == byte) ≡ false) text

-- a cell is one line of its text, and its columns are right
pub record IsLent (text : List ℕ) (start : ℕ) (cell : ℕ × ℕ) : Type 0 where
  pub joined : IsJoined text start cell
  pub line : length (lines_of (slice_range text start cell.0)) ≡ 1

-- ---- rows that are written text by text

-- the rows that are ended, and the texts of the row that is begun
pub record Written : Type 0 where
  pub rows : List (List (List ℕ))
  pub begun : List (List ℕ)

-- a further text is in the row that is begun
abbrev pub with_text : Written → List ℕ → Written
with_text w text = record { rows = w.rows; begun = w.begun ++ text ∷ [] }

-- that row is ended, and an empty one is begun
abbrev pub with_row_ended : Written → Written
with_row_ended w = record { rows = w.rows ++ w.begun ∷ []; begun = [] }

-- the rows of texts, of which the first `ended` are in rows that are ended
abbrev pub written_in : List (List ℕ) → List (ℕ × ℕ) → ℕ → Written
written_in texts ranges ended = record { rows = parts texts ranges; begun = drop ended texts }

-- all rows are within the texts
pub record AreWritten (texts : List (List ℕ)) (ranges : List (ℕ × ℕ)) (ended : ℕ) : Type 0 where
  pub inside : AreRanges (length texts) ranges
  pub within : ended ≤ length texts

-- the cells of rows are parts of a text, one byte apart, and each row is a range of them
pub record AreLentRows (text : List ℕ) (cells rows : List (ℕ × ℕ)) (printable : Bool) : Type 0 where
  pub kept : AreKept 1 text cells []
  pub ranges : AreRanges (length cells) rows
  pub plain : printable ≡ true → All IsPrintableAscii (texts_from 1 text 0 cells)
