-- The lines of an `ExtendedTable`. A text is the list of its bytes, a record the list of its
-- values.
use Rattle.std.specs.Prelude.{◌≡◌, ℕ, ◌+◌, ◌-◌, ◌<◌, nat_lt, List, [], ◌∷◌, ◌++◌, if◌then◌else◌, codes, decimal, length, map, slice_index_or}
use Rattle.std.specs.List.{flat_map, zip, join_with_byte}
use Rattle.tabled_line.specs.Fill.{fill}
use Rattle.tabled_text.specs.Measure.{greatest, text_columns}

-- the default label of the record at an index
abbrev pub record_label : ℕ → List ℕ
record_label index = codes "[ RECORD " ++ (decimal index ++ codes " ]")

-- the columns of the widest text
abbrev pub widest : List (List ℕ) → ℕ
widest texts = greatest (map text_columns texts)

-- the columns of the widest value, including values without a field
abbrev pub widest_value : List (List (List ℕ)) → ℕ
widest_value records = greatest (map widest records)

-- the label between dashes
abbrev pub title : List ℕ → List ℕ
title label = 45 ∷ (label ++ 45 ∷ [])

-- what follows a title of `columns` columns, over fields and values of f and v columns: dashes up
-- to the width of the lines, with a cross above the bar if the title doesn't reach it
abbrev pub rule_behind : ℕ → ℕ → ℕ → List ℕ
rule_behind f v columns =
    if nat_lt columns (f + 3 + v)
    then (if nat_lt columns (f + 2) then fill 45 (f + 1 - columns) ++ (43 ∷ fill 45 (v + 1)) else fill 45 (f + 3 + v - columns))
    else []

-- the first line of a record, which begins with a title
abbrev pub header : ℕ → ℕ → List ℕ → List ℕ
header f v above = above ++ rule_behind f v (text_columns above)

-- a field and its value
abbrev pub value_line : ℕ → List ℕ × List ℕ → List ℕ
value_line f shown = shown.0 ++ (fill 32 (f - text_columns shown.0) ++ (codes " | " ++ shown.1))

-- the lines of a record: its header, and a line for each field that has a value
abbrev pub record_lines : ℕ → ℕ → List (List ℕ) → List ℕ → List (List ℕ) → List (List ℕ)
record_lines f v fields label values = header f v (title label) ∷ map (value_line f) (zip fields values)

-- the lines of the first records, record by record, each with a label that the template returns for
-- its index. The widths are those of all fields and values
pub record AreRecordLines (labels : ℕ → List ℕ → Type 0) (fields : List (List ℕ)) (records : List (List (List ℕ)))
    (parts : List (List (List ℕ))) : Type 0 where
  pub each : (index : ℕ) → index < length parts → (label : List ℕ) × labels index label
      × (slice_index_or parts index [] ≡ record_lines (widest fields) (widest_value records) fields label (slice_index_or records index []))

-- the lines of all parts, joined by line feeds
abbrev pub text_of : List (List (List ℕ)) → List ℕ
text_of parts = join_with_byte 10 (flat_map (λ lines. lines) parts)
