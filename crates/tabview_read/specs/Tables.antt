-- The tables of a database. A text is the list of its bytes.
use Rattle.std.specs.Prelude.{◌≡◌, ◌==◌, ◌≤◌, ◌+◌, ◌^◌, ◌-◌, ℕ, List, [], ◌∷◌, ◌++◌, Option, Some, None, if◌then◌else◌, chars, decimal, encode_utf8_all, flat_map, length, min, slice_get, string_bytes}
use Rattle.csv.specs.Records.{fields_of}
use Rattle.tabview_read.specs.declared.row.Row.{Row}
use Rattle.tabview_read.specs.declared.tables.Listed.{Listed}
use Rattle.tabview_read.specs.declared.tables.TableList.{TableList}

-- a character in a quoted name: a quote is there twice
abbrev pub double_char : ℕ → List ℕ
double_char c = if c == 34 then 34 ∷ 34 ∷ [] else c ∷ []

-- a name with each quote in it twice
abbrev pub doubled : List ℕ → List ℕ
doubled name = encode_utf8_all (flat_map double_char (chars name))

-- a name as SQL quotes it
abbrev pub in_quotes : List ℕ → List ℕ
in_quotes name = 34 ∷ (doubled name ++ 34 ∷ [])

-- the count of the rows of a table: none is no text, and null
abbrev pub count_text : Option ℕ → List ℕ
count_text None = []
count_text (Some count) = decimal count

abbrev pub nulls_at : Option ℕ → ℕ → List ℕ
nulls_at None column = column ∷ []
nulls_at (Some count) column = []

-- the cells of a line of the list: the name, the columns and the count
abbrev pub listed_cells : Listed → List (List ℕ)
listed_cells t = string_bytes t.name ∷ string_bytes t.columns ∷ count_text t.count ∷ []

abbrev pub count_nulls : Listed → List ℕ
count_nulls t = nulls_at t.count 2

-- what a call of `read` gives: the next table, or the end
pub record IsNextTable (from : TableList) (row : Row) (to : TableList) : Type 0 where
  pub table : Listed
  pub next : slice_get from.tables.items from.next ≡ Some table
  pub cells : fields_of row.cells ≡ listed_cells table
  pub nulls : row.nulls.items ≡ count_nulls table
  pub rest : to.tables ≡ from.tables
  pub read : to.next ≡ min (from.next + 1) (2 ^ 64 - 1)

abbrev pub GivesTable : TableList → Option Row → TableList → Type 0
GivesTable from None to = (length from.tables.items ≤ from.next) × (to ≡ from)
GivesTable from (Some row) to = IsNextTable from row to
