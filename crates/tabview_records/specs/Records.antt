-- Records: the cells of a row one below the other, each beside the name of its column. A text is
-- the list of its bytes.
use Rattle.std.specs.Prelude.{◌≡◌, ℕ, ◌+◌, ◌-◌, ◌/◌, Bool, true, false, List, [], ◌∷◌, ◌++◌, MatchOption, Option, Some, None, codes, decimal, drop, if◌then◌else◌, length, map, max, min, nat_lt, slice_index_or}
use Rattle.std.specs.List.{AllZip, flat_map, join_with_byte, range_with_len, zip}
use Rattle.tabled_base.specs.Cells.{columns}
use Rattle.tabled_line.specs.Fill.{fill}
use Rattle.tabled_text.specs.Cut.{IsCut}
use Rattle.tabled_text.specs.Measure.{greatest, lines_of, text_columns}
use Rattle.tabview_records.specs.Narrowed.{IsNarrowedText}
use Rattle.tabview_records.specs.declared.layout.RecordLayout.{RecordLayout}

-- ---- names and records

-- the numbers of columns, from 1
abbrev pub column_numbers : ℕ → List (List ℕ)
column_numbers count = map (λ column. decimal (column + 1)) (range_with_len 0 count)

-- the names of the columns: the first row, or without a header their numbers
abbrev pub names_of : Bool → List (List (List ℕ)) → List (List ℕ)
names_of true cells = slice_index_or cells 0 []
names_of false cells = column_numbers (columns cells)

-- the index of the first row that is a record
abbrev pub first_record : Bool → ℕ
first_record true = 1
first_record false = 0

abbrev pub records_of : Bool → List (List (List ℕ)) → List (List (List ℕ))
records_of has_header cells = drop (first_record has_header) cells

-- ---- the columns of names and values

-- the columns of the widest text, and of the widest cell
abbrev pub widest : List (List ℕ) → ℕ
widest texts = greatest (map text_columns texts)

abbrev pub widest_cell : List (List (List ℕ)) → ℕ
widest_cell rows = greatest (map widest rows)

-- the columns of names in lines of w columns, if the widest name takes n and the widest value v:
-- n if both fit; else half of what the bar leaves, or all that values don't need
abbrev pub name_columns : ℕ → ℕ → ℕ → ℕ
name_columns w n v = min n (max ((w - 3) / 2) ((w - 3) - v))

-- those of values: what the bar and the names leave, and no more than v
abbrev pub value_columns : ℕ → ℕ → ℕ → ℕ
value_columns w n v = min v ((w - 3) - name_columns w n v)

-- the layout of records; without a width, names and values have what they need
abbrev pub record_layout : Option ℕ → Bool → ℕ → ℕ → RecordLayout
record_layout None cuts n v = record { names = n; values = v; width = None; cuts = cuts }
record_layout (Some w) cuts n v = record { names = name_columns w n v; values = value_columns w n v; width = Some w; cuts = cuts }

-- ---- the lines of a record

-- `-[ RECORD 1 ]-`
abbrev pub title : ℕ → List ℕ
title number = codes "-[ RECORD " ++ (decimal number ++ codes " ]-")

-- what follows a title of some columns, over names of n columns and values of v: dashes up to the
-- width of the lines, with a cross above the bar if the title doesn't reach it
abbrev pub rule_behind : ℕ → ℕ → ℕ → List ℕ
rule_behind n v columns =
    if nat_lt columns (n + 3 + v)
    then (if nat_lt columns (n + 2) then fill 45 (n + 1 - columns) ++ (codes "+" ++ fill 45 (v + 1)) else fill 45 (n + 3 + v - columns))
    else []

-- the whole head of a record
abbrev pub head_of : RecordLayout → ℕ → List ℕ
head_of layout number = title number ++ rule_behind layout.names layout.values (text_columns (title number))

-- the head of a record, cut to the width of its lines
abbrev pub IsHead : RecordLayout → ℕ → List ℕ → Type 0
IsHead layout number head = MatchOption layout.width (head ≡ head_of layout number) (λ w. IsCut w (head_of layout number) head)

-- a line of a name and of its value, with spaces up to n columns between them, and a bar
abbrev pub pair_line : ℕ → List ℕ → List ℕ → List ℕ
pair_line n name value = name ++ (fill 32 (n - text_columns name) ++ (codes " | " ++ value))

-- the line at an index, empty past the last
abbrev pub line_at : List (List ℕ) → ℕ → List ℕ
line_at lines i = slice_index_or lines i []

-- the lines of a field: those of its name beside those of its value. Further lines of a value are
-- thus behind the bar, too
abbrev pub field_lines : ℕ → List ℕ → List ℕ → List (List ℕ)
field_lines n name value =
    map (λ i. pair_line n (line_at (lines_of name) i) (line_at (lines_of value) i))
    (range_with_len 0 (max (length (lines_of name)) (length (lines_of value))))

-- the lines of all fields, by their names and values
abbrev pub fields_lines : ℕ → List (List ℕ) → List (List ℕ) → List (List ℕ)
fields_lines n names values = flat_map (λ field. field_lines n field.0 field.1) (zip names values)

-- the text of a record: its head, and below it the lines of its fields
pub record IsRecord (layout : RecordLayout) (names : List (List ℕ)) (number : ℕ) (row : List (List ℕ)) (text : List ℕ) : Type 0 where
  pub head : List ℕ
  pub is_head : IsHead layout number head
  pub values : List (List ℕ)
  pub narrowed : AllZip (IsNarrowedText layout.cuts layout.values) row values
  pub joined : text ≡ join_with_byte 10 (head ∷ fields_lines layout.names names values)
