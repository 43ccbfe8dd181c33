-- Rows of texts in which each text is cut to the width of its column, in columns.
use Rattle.std.specs.Prelude.{◌≡◌, ◌<◌, ◌==◌, ℕ, List, MatchBool, Option, Some, None, length, nat_lt, if◌then◌else◌}
use Rattle.tabled_base.specs.Cells.{cell_at}
use Rattle.tabled_base.specs.Printable.{IsPrintableAscii}
use Rattle.tabled_records.specs.NarrowedTexts.{AreKnown}
use Rattle.tabled_records.specs.SizedRows.{sized_rows, sized_text}
use Rattle.tabled_records.specs.declared.narrowed_texts.NarrowedTexts.{NarrowedTexts}
use Rattle.tabled_text.specs.Cut.{IsCutAt, cut_text}
use Rattle.tabled_text.specs.Measure.{text_columns}

-- a text that is cut to n columns if it is wider
abbrev pub cuts : ℕ → List ℕ → List ℕ
cuts n text = if nat_lt n (text_columns text) then cut_text n text else text

-- or the text itself if its column has no width
abbrev pub cut_cell : Option ℕ → List ℕ → List ℕ
cut_cell width text = sized_text cuts width text

-- the texts of rows, each cut to the width of its column. Those after the last width aren't cut
abbrev pub cut_rows : List (Option ℕ) → List (List (List ℕ)) → List (List (List ℕ))
cut_rows widths rows = sized_rows cuts widths rows

-- each cell is printable ASCII
abbrev pub ArePrintable : List (List (List ℕ)) → Type 0
ArePrintable rows = (row column : ℕ) → IsPrintableAscii (cell_at rows row column)

-- a number of bytes, and 1, describe a text that is cut without a copy. Another second number
-- describes one of which U+FFFD alone is left. One that isn't wider needs no numbers
abbrev pub tells_cut : ℕ → List ℕ → ℕ × ℕ → Type 0
tells_cut n text told = n < text_columns text → MatchBool (told.1 == 1) (IsCutAt n text told.0 0) (IsCutAt n text 0 1)

-- what is known of all cells: without a list they are printable ASCII
abbrev pub IsCutKnown : List (Option ℕ) → List (List (List ℕ)) → Option NarrowedTexts → Type 0
IsCutKnown widths rows None = ArePrintable rows
IsCutKnown widths rows (Some texts) = (length texts.ranges ≡ length rows) × AreKnown cuts tells_cut widths rows texts
