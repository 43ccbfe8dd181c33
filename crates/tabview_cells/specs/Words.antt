-- The columns of the widest word. A text is a list of its bytes.
use Rattle.std.specs.Prelude.{ℕ, List, map}
use Rattle.tabled_text.specs.Breaking.{words_of}
use Rattle.tabled_text.specs.Measure.{greatest, line_columns, lines_of}

-- of a line, whose words are between its spaces
abbrev pub longest_in_line : List ℕ → ℕ
longest_in_line line = greatest (map line_columns (words_of line))

-- of a text
abbrev pub longest_word : List ℕ → ℕ
longest_word text = greatest (map longest_in_line (lines_of text))
