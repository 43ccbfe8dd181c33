-- Row templates, and their slots: where the cells of a row begin.
use Rattle.std.specs.Prelude.{◌≡◌, ◌∷◌, ℕ, zero, suc, ◌+◌, ◌≤◌, List, IsUtf8, length, map, string_bytes, take}
use Rattle.std.specs.List.{range_with_len}
use Rattle.tabled_line.specs.BlankRow.{blank_row, first_offset}
use Rattle.tabled_line.specs.declared.row_template.BlankRow.{BlankRow}
use Rattle.tabled_line.specs.declared.row_template.RowTemplate.{RowTemplate}
use Rattle.tabled_line.specs.declared.row_template.Slot.{Slot}
use Rattle.tabled_line.specs.Row.{ColumnSheet, RowSheet, piece, row_line}

-- the offset of a column's cell behind a line feed, in bytes: each cell before it takes as many bytes as columns, and
-- the bytes of a vertical line follow
abbrev pub offset_at : ColumnSheet → ℕ → ℕ
offset_at columns zero = first_offset columns
offset_at columns (suc column) =
    offset_at columns column + columns.width column + length (piece columns.frame.inner.there columns.frame.inner.main)

abbrev pub slot_at : ColumnSheet → ℕ → Slot
slot_at columns column = record { place = offset_at columns column; width = columns.width column }

-- the slots of all columns
abbrev pub AreSlots : ColumnSheet → List Slot → Type 0
AreSlots columns slots = slots ≡ map (slot_at columns) (range_with_len 0 columns.count)

-- the blank row of the columns, with a line feed before it, the same with more behind it, and the
-- slots of its cells
pub record IsBlankOf (columns : ColumnSheet) (blank : BlankRow) : Type 0 where
  pub text : string_bytes blank.text ≡ 10 ∷ blank_row columns
  pub padded : take (length (string_bytes blank.text)) (string_bytes blank.padded) ≡ string_bytes blank.text
  pub slots : AreSlots columns blank.slots.items

-- the template has the blank row of the columns
abbrev pub IsTemplateOf : ColumnSheet → RowTemplate → Type 0
IsTemplateOf columns template = IsBlankOf columns template.blank

-- the first `end` of these bytes are line `index` of a row, with a line feed before it
pub record IsFilled (row : RowSheet) (index : ℕ) (bytes : List ℕ) (end : ℕ) : Type 0 where
  pub within : end ≤ length bytes
  pub line : take end bytes ≡ 10 ∷ row_line row index
  pub utf8 : IsUtf8 (take end bytes)
