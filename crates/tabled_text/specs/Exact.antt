-- Lines whose characters' counts add up to their columns. A text is the list of its bytes.
use Rattle.std.specs.Prelude.{◌≡◌, ℕ, List, chars, length}
use Rattle.std.specs.Str.{IsUtf8}
use Rattle.tabled_text.specs.Measure.{count_of, lines_of, text_columns}

-- a text of one line, whose characters' counts add up to its columns
pub record IsExactLine (text : List ℕ) : Type 0 where
  pub utf8 : IsUtf8 text
  pub one : length (lines_of text) ≡ 1
  pub counted : count_of (chars text) ≡ text_columns text
