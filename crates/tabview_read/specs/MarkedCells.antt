-- Cells of Markdown. A text is a list of bytes, unless it is one of characters.
use Rattle.std.specs.Prelude.{◌≡◌, ℕ, ◌==◌, List, [], ◌∷◌, Option, Some, None, chars, codes, encode_utf8_all, if◌then◌else◌, map}
use Rattle.std.specs.List.{flat_map}
use Rattle.csv.specs.Records.{fields_of}
use Rattle.tabview_read.specs.declared.row.Row.{Row}

-- what is written for a character: a backslash before `|` and `\`, and a tag for a line feed
abbrev pub markdown_char : ℕ → List ℕ
markdown_char c =
    if c == 124 then 92 ∷ 124 ∷ []
    else if c == 92 then 92 ∷ 92 ∷ []
    else if c == 10 then codes "<br>"
    else c ∷ []

-- what is written for a text
abbrev pub markdown : List ℕ → List ℕ
markdown text = encode_utf8_all (flat_map markdown_char (chars text))

-- a row whose cells are written so
pub record IsMarkdownOf (plain row : Row) : Type 0 where
  pub cells : fields_of row.cells ≡ map markdown (fields_of plain.cells)
  pub nulls : row.nulls.items ≡ plain.nulls.items

-- a source gives a row, of which this one is the Markdown, or none
abbrev pub GivesMarkdown : {S : Type 0} → (S → Option Row → S → Type 0) → S → Option Row → S → Type 0
GivesMarkdown gives from None to = gives from None to
GivesMarkdown gives from (Some row) to = (plain : Row) × gives from (Some plain) to × IsMarkdownOf plain row
