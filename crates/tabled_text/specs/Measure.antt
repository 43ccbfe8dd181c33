-- Measures of texts. A text is the list of its bytes, unless a definition says otherwise.
use Rattle.std.specs.Prelude.{ℕ, false, List, [], ◌∷◌, ◌==◌, chars, map, max, sum_by, unwrap_or}
use Rattle.std.specs.List.{slice_split}
use Rattle.unicode_width.specs.Width.{char_width, str_width}

-- the pieces between line feeds, as bytes or characters. The empty text has one empty line
abbrev pub lines_of : List ℕ → List (List ℕ)
lines_of text = slice_split (λ c. c == 10) text

-- the columns of a line
abbrev pub line_columns : List ℕ → ℕ
line_columns line = str_width false (chars line)

-- the greatest number of a list, or 0 if it is empty
abbrev pub greatest : List ℕ → ℕ
greatest [] = 0
greatest (x ∷ xs) = max x (greatest xs)

-- the columns of a text: those of its widest line
abbrev pub text_columns : List ℕ → ℕ
text_columns text = greatest (map line_columns (lines_of text))

-- the columns of a character, or 0 if it has none
abbrev pub char_columns : ℕ → ℕ
char_columns c = unwrap_or (char_width false c) 0

-- the columns of a line, given by its characters
abbrev pub columns_of : List ℕ → ℕ
columns_of cs = str_width false cs

-- the count of a character in cutting and wrapping: its columns, at least 1
abbrev pub char_count : ℕ → ℕ
char_count c = max 1 (char_columns c)

-- the count of a line, given by its characters
abbrev pub count_of : List ℕ → ℕ
count_of cs = sum_by char_count cs
