-- Whether the lines of a text can be read in the lines of a picture.
use Rattle.std.specs.Prelude.{◌≡◌, ℕ, ◌+◌, ◌-◌, ◌<◌, ◌≤◌, List, [], ◌++◌, length, take}
use Rattle.std.specs.List.{slice_index, slice_index_or}
use Rattle.tabled_base.specs.Cells.{cell_at}
use Rattle.tabled_config.specs.Settings.{style_at}
use Rattle.tabled_line.specs.Block.{fill_above}
use Rattle.tabled_size.specs.Sheet.{Sheet}
use Rattle.tabled_text.specs.Measure.{lines_of}

-- a line contains a text, whole
pub record IsPartOf (text line : List ℕ) : Type 0 where
  pub before : List ℕ
  pub behind : List ℕ
  pub parts : line ≡ before ++ (text ++ behind)

-- texts that are shown in lines, one below the other: from the line at `top` on, each line contains
-- the next text
pub record AreShownIn (texts lines : List (List ℕ)) : Type 0 where
  pub top : ℕ
  pub inside : top + length texts ≤ length lines
  pub each : (k : ℕ) → k < length texts → IsPartOf (slice_index_or texts k []) (slice_index_or lines (top + k) [])

-- the lines of a cell's text for which its row is high enough: all of them, if the row is as high as
-- the cell needs
abbrev pub shown_lines : Sheet → ℕ → ℕ → List (List ℕ)
shown_lines t row column =
    let text = cell_at t.cells row column in
    let height = slice_index t.heights row in
    take (height - fill_above (style_at t.config row column) height text) (lines_of text)
