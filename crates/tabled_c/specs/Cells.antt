-- The cells of a table, given as one text and the byte where each of them ends.
use Rattle.std.specs.Prelude.{◌≡◌, ◌⊎◌, ◌≤◌, ◌==◌, if◌then◌else◌, ℕ, zero, suc, List, [], ◌∷◌, length, take, drop, slice_range}
use Rattle.std.specs.Str.{IsCharBoundary, IsUtf8}
use Rattle.tabled_c.specs.declared.cells.PackedCells.{PackedCells}
use Rattle.tabled_c.specs.declared.error_code.ErrorCode.{ErrorCode}
use Rattle.tabled_c.specs.declared.error_code.ErrorCode.TheVariants.{Memory, NoText, Ends}

-- the end that marks a cell without a value: the greatest `usize`
abbrev pub no_value : ℕ
no_value = 0xFFFF_FFFF_FFFF_FFFF

-- where a cell ends that begins at `start`: without a value it has no bytes
abbrev pub end_of : ℕ → ℕ → ℕ
end_of start end = if end == no_value then start else end

-- the text of a cell: without a value it is `null`
abbrev pub cell_text : List ℕ → List ℕ → ℕ → ℕ → List ℕ
cell_text null text start end = if end == no_value then null else slice_range text start end

-- the texts of cells: the first begins at `start`, each other one where the one before it ends
abbrev pub texts_at : List ℕ → List ℕ → ℕ → List ℕ → List (List ℕ)
texts_at null text start [] = []
texts_at null text start (end ∷ ends) = cell_text null text start end ∷ texts_at null text (end_of start end) ends

-- a cell ends behind its begin, and with a character
pub record IsEnd (text : List ℕ) (start end : ℕ) : Type 0 where
  pub ordered : start ≤ end
  pub boundary : IsCharBoundary text end

-- all cells do, and the last one ends with the whole text
abbrev pub AreEnds : List ℕ → ℕ → List ℕ → Type 0
AreEnds text start [] = start ≡ length text
AreEnds text start (end ∷ ends) = IsEnd text start (end_of start end) × AreEnds text (end_of start end) ends

-- an error of cells: text that isn't UTF-8, ends that aren't in order, or a failed allocation
abbrev pub IsTextsCause : PackedCells → List ℕ → ErrorCode → Type 0
IsTextsCause cells null Memory = Unit {0}
IsTextsCause cells null NoText = (¬ IsUtf8 cells.text.now) ⊎ (¬ IsUtf8 null)
IsTextsCause cells null Ends = ¬ AreEnds cells.text.now 0 cells.ends.now
IsTextsCause cells null _ = ⊥

-- texts in rows of `columns` cells
abbrev pub in_rows : ℕ → ℕ → List (List ℕ) → List (List (List ℕ))
in_rows zero columns texts = []
in_rows (suc rows) columns texts = take columns texts ∷ in_rows rows columns (drop columns texts)
