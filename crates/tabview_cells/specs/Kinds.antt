-- What the cells of a column are. A cell is the list of its bytes.
use Rattle.std.specs.Prelude.{ℕ, ◌==◌, ◌&&◌, Bool, true, false, not, List, [], ◌∷◌, if◌then◌else◌, chars, get_or, length, nat_le, set}
use Rattle.std.specs.Char.{is_whitespace}
use Rattle.std.specs.List.{list_any}
use Rattle.tabled_text.specs.Measure.{text_columns}
use Rattle.tabview_cells.specs.Dates.{is_date}
use Rattle.tabview_cells.specs.Numbers.{is_number}
use Rattle.tabview_cells.specs.declared.kinds.TheConstants.{CODE_COLUMNS}
use Rattle.tabview_cells.specs.declared.kinds.Kind.{Kind}
use Rattle.tabview_cells.specs.declared.kinds.Kind.TheVariants.{Code, Date, Empty, Number, Text}

-- the kind of a column with one more cell
abbrev pub joined : Kind → Kind → Kind
joined Empty kind = kind
joined kind Empty = kind
joined Number Number = Number
joined Date Date = Date
joined Text kind = Text
joined kind Text = Text
joined kind cell = Code

-- columns of text give, and no others
abbrev pub keeps_width : Kind → Bool
keeps_width Text = false
keeps_width kind = true

-- a code: a few columns, without white space
abbrev pub is_code : List ℕ → Bool
is_code cell = nat_le (text_columns cell) CODE_COLUMNS && not (list_any is_whitespace (chars cell))

-- the kind of a cell: the first that it is of
abbrev pub kind_of : List ℕ → Kind
kind_of cell =
    if length cell == 0 then Empty
    else (if is_number cell then Number else (if is_date cell then Date else (if is_code cell then Code else Text)))

-- the kinds of columns after one more row: each is joined with that of its cell, if it has one
unfoldable pub joined_kinds : List Kind → List (List ℕ) → List Kind
joined_kinds [] cells = []
joined_kinds (kind ∷ kinds) [] = kind ∷ kinds
joined_kinds (kind ∷ kinds) (cell ∷ cells) = joined kind (kind_of cell) ∷ joined_kinds kinds cells

-- the kinds of columns after one more cell of the column at an index
abbrev pub joined_at : List Kind → ℕ → List ℕ → List Kind
joined_at kinds index cell = set kinds index (joined (get_or kinds index Empty) (kind_of cell))
