-- Rows of texts in which each text is wrapped to the width of its column, in columns.
use Rattle.std.specs.Prelude.{◌≡◌, ℕ, Bool, List, Option, Some, None, length, false}
use Rattle.tabled_records.specs.CutLentRows.{ArePrintable}
use Rattle.tabled_records.specs.NarrowedTexts.{AreKnown}
use Rattle.tabled_records.specs.SizedRows.{sized_rows, sized_text}
use Rattle.tabled_records.specs.declared.narrowed_texts.NarrowedTexts.{NarrowedTexts}
use Rattle.tabled_text.specs.LineEnds.{IsWrappedInPlace, wrapped_text}

abbrev pub wraps : Bool → ℕ → List ℕ → List ℕ
wraps words n text = wrapped_text n words text

-- a text wrapped to n columns, or the text itself if its column has no width
abbrev pub wrapped_cell : Bool → Option ℕ → List ℕ → List ℕ
wrapped_cell words width text = sized_text (wraps words) width text

-- the texts of rows, each wrapped to the width of its column. Those after the last width aren't
-- wrapped
abbrev pub wrapped_rows : Bool → List (Option ℕ) → List (List (List ℕ)) → List (List (List ℕ))
wrapped_rows words widths rows = sized_rows (wraps words) widths rows

-- the columns and the lines of a text describe it if it is wrapped without a copy
abbrev pub tells_wrapped : Bool → ℕ → List ℕ → ℕ × ℕ → Type 0
tells_wrapped words n text told = IsWrappedInPlace n words text told.0 told.1

-- what is known of all cells: without a list they are printable ASCII, and broken anywhere
abbrev pub IsKnown : Bool → List (Option ℕ) → List (List (List ℕ)) → Option NarrowedTexts → Type 0
IsKnown words widths rows None = ArePrintable rows × (words ≡ false)
IsKnown words widths rows (Some texts) = (length texts.ranges ≡ length rows) × AreKnown (wraps words) (tells_wrapped words) widths rows texts
