-- Sizes that never change: from arrays, lists or single values.
use Rattle.std.specs.Prelude.{◌≡◌, ℕ, Option, Some, None, length, nat_lt, if◌then◌else◌}
use Rattle.tabled_size.specs.declared.const_dimension.ConstSize.{ConstSize}
use Rattle.tabled_size.specs.declared.const_dimension.ConstSize.TheVariants as const
use Rattle.tabled_size.specs.declared.const_dimension.DimensionValue.{DimensionValue}
use Rattle.tabled_size.specs.declared.const_dimension.DimensionValue.TheVariants.{Exact, List as Listed, Partial}
use Rattle.tabled_size.specs.declared.const_dimension.SizeList.{SizeList}
use Rattle.tabled_size.specs.Entries.{entry}
use Rattle.tabled_priority.specs.Permitted.{at}

-- the size at an index: the entry of the list, if it has one, or that of all others
abbrev pub listed_at : SizeList → ℕ → Option ℕ
listed_at list i = if nat_lt i (length list.0.now) then Some (at list.0.now i) else list.1

-- the size at an index: the entry of the array, if it has one, or the single value
abbrev pub size_at : {N : ℕ} → ConstSize N → ℕ → Option ℕ
size_at {N} (const.List sizes) i = if nat_lt i N then Some (at sizes i) else None
size_at {N} (const.Value size) i = Some size

-- the size at an index
abbrev pub value_at : DimensionValue → ℕ → Option ℕ
value_at (Exact size) i = Some size
value_at (Listed sizes) i = entry sizes.items i
value_at (Partial sizes rest) i = Some (if nat_lt i (length sizes.items) then at sizes.items i else rest)

-- there is a list, even an empty one
abbrev pub HasList : DimensionValue → Type 0
HasList (Exact size) = ⊥
HasList (Listed sizes) = Unit {0}
HasList (Partial sizes rest) = Unit {0}

-- the same variant, with the same sizes
abbrev pub IsSameValue : DimensionValue → DimensionValue → Type 0
IsSameValue (Exact a) (Exact b) = a ≡ b
IsSameValue (Exact a) (Listed v) = ⊥
IsSameValue (Exact a) (Partial v b) = ⊥
IsSameValue (Listed u) (Exact b) = ⊥
IsSameValue (Listed u) (Listed v) = u.items ≡ v.items
IsSameValue (Listed u) (Partial v b) = ⊥
IsSameValue (Partial u a) (Exact b) = ⊥
IsSameValue (Partial u a) (Listed v) = ⊥
IsSameValue (Partial u a) (Partial v b) = (u.items ≡ v.items) × (a ≡ b)
