-- Texts whose lines are filled up, and texts that get more or fewer lines. Texts are lists of
-- bytes.
use Rattle.std.specs.Prelude.{◌≡◌, ℕ, ◌-◌, List, ◌++◌, encode_utf8_all, length, map, replicate, take, [], false}
use Rattle.std.specs.List.{join_with_byte}
use Rattle.tabled_set.specs.Common.{line_columns, lines_of}
use Rattle.tabled_set.specs.CellChanges.{if_taken, truncating, Narrower, Wider}
use Rattle.tabled_set.specs.Truncated.{Cut}

-- a line with a copy of a character for each column that it has less than the content size
abbrev pub filled_line : ℕ → ℕ → List ℕ → List ℕ
filled_line c content_size line = line ++ encode_utf8_all (replicate (content_size - line_columns line) c)

-- a text with each of its lines filled up
abbrev pub filled : ℕ → ℕ → List ℕ → List ℕ
filled c content_size text = join_with_byte 10 (map (filled_line c content_size) (lines_of text))

-- a text with a line feed for each line that it has less than the content size
abbrev pub lengthened : ℕ → List ℕ → List ℕ
lengthened content_size text = text ++ replicate (content_size - length (lines_of text)) 10

-- the first lines of a text, as many as the content size says, or all; empty for 0 lines
abbrev pub limited : ℕ → List ℕ → List ℕ
limited content_size text = join_with_byte 10 (take content_size (lines_of text))

-- ---- the same, as relations of a content size and two texts

abbrev pub filling : ℕ → ℕ → List ℕ → List ℕ → Type 0
filling c content_size before after = after ≡ filled c content_size before

abbrev pub lengthening : ℕ → List ℕ → List ℕ → Type 0
lengthening content_size before after = after ≡ lengthened content_size before

abbrev pub limiting : ℕ → List ℕ → List ℕ → Type 0
limiting content_size before after = after ≡ limited content_size before

-- a narrower text is filled up with spaces, and then what is too wide is cut
pub record IsJustified (content_size : ℕ) (before after : List ℕ) : Type 0 where
  pub between : List ℕ
  pub increased : if_taken Narrower (filling 32) content_size before between
  pub truncated : if_taken Wider (truncating [] Cut false) content_size between after
