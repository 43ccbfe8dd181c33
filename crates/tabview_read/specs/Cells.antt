-- The cells of values of JSON. A text is the list of its bytes.
use Rattle.std.specs.Prelude.{◌≡◌, ℕ, ◌+◌, List, [], ◌∷◌, ◌++◌, Option, Some, None, codes, length, map, true, false}
use Rattle.csv.specs.Records.{fields_of}
use Rattle.json.specs.Json.{Json, null, boolean, number, string, array, object}
use Rattle.json.specs.Print.{print}
use Rattle.json.specs.Tree.{json_tokens}
use Rattle.tabview_read.specs.declared.row.Row.{Row}

-- the text of a value: null has none, and an array or an object is JSON without spaces
abbrev pub text_of : Json → List ℕ
text_of null = []
text_of (boolean true) = codes "true"
text_of (boolean false) = codes "false"
text_of (number s) = s
text_of (string s) = s
text_of (array js) = print (json_tokens (array js))
text_of (object ms) = print (json_tokens (object ms))

-- that of a value that may be missing
abbrev pub cell_of : Option Json → List ℕ
cell_of None = []
cell_of (Some j) = text_of j

-- a column, if its value is null
abbrev pub if_null : Json → ℕ → List ℕ
if_null null column = column ∷ []
if_null (boolean b) column = []
if_null (number s) column = []
if_null (string s) column = []
if_null (array js) column = []
if_null (object ms) column = []

abbrev pub null_at : Option Json → ℕ → List ℕ
null_at None column = []
null_at (Some j) column = if_null j column

-- the columns of the values that are null, from a column on
abbrev pub nulls_from : ℕ → List (Option Json) → List ℕ
nulls_from column [] = []
nulls_from column (o ∷ os) = null_at o column ++ nulls_from (column + 1) os

-- a row gets the cell of a value that may be missing
pub record AddsCell (o : Option Json) (old new : Row) : Type 0 where
  pub cells : fields_of new.cells ≡ fields_of old.cells ++ cell_of o ∷ []
  pub nulls : new.nulls.items ≡ old.nulls.items ++ null_at o (length (fields_of old.cells))

-- a row gets the cells of some values
pub record AddsCells (os : List (Option Json)) (old new : Row) : Type 0 where
  pub cells : fields_of new.cells ≡ fields_of old.cells ++ map cell_of os
  pub nulls : new.nulls.items ≡ old.nulls.items ++ nulls_from (length (fields_of old.cells)) os
