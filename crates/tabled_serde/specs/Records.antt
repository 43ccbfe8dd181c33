-- The fields of a value, among the events that it writes. A text is its bytes.
use Rattle.std.specs.Prelude.{◌≡◌, ℕ, List, [], ◌∷◌, ◌++◌, Option, codes, decimal, encode_utf8, if◌then◌else◌}
use Rattle.std.specs.List.{AllZip, flat_map}
use Rattle.std.specs.Fmt.{signed_decimal}
use Rattle.serde.specs.Event.{Event, boolean, signed, unsigned, single, double, character, text, nothing, unit_variant, seq_begins, seq_ends}
use Rattle.serde.specs.Event.{map_begins, map_ends, field_key, variant_key, key_begins, key_ends, flattens}
use Rattle.serde.specs.Spelling.{spelled}
use Rattle.serde.specs.declared.name.Case.{Case}
use Rattle.serde.specs.declared.name.NameKind.TheVariants.{Field, Variant}

-- the text of a scalar, which of a float is any text
abbrev pub IsScalar : Event → List ℕ → Type 0
IsScalar (boolean b) t = t ≡ (if b then codes "true" else codes "false")
IsScalar (signed z) t = t ≡ signed_decimal z
IsScalar (unsigned n) t = t ≡ decimal n
IsScalar (single x) t = Unit {0}
IsScalar (double x) t = Unit {0}
IsScalar (character c) t = t ≡ encode_utf8 c
IsScalar (text s) t = t ≡ s
IsScalar (unit_variant s case) t = t ≡ spelled case Variant s
IsScalar e t = ⊥

-- the text of a scalar, or that for `None`
abbrev pub IsText : List ℕ → Event → List ℕ → Type 0
IsText none nothing t = t ≡ none
IsText none e t = IsScalar e t

-- texts with a comma and a space between them
abbrev pub joined : List (List ℕ) → List ℕ
joined [] = []
joined (t ∷ ts) = t ++ flat_map (λ u. codes ", " ++ u) ts

-- the events of a cell, and its text: that of one event, or those of a list, joined
pub data IsCell (none : List ℕ) : List Event → List ℕ → Type 0 where
  one : {e : Event} {t : List ℕ} → IsText none e t → IsCell none (e ∷ []) t
  list : (n : Option ℕ) (es : List Event) (ts : List (List ℕ)) → AllZip (IsText none) es ts
      → IsCell none (seq_begins n ∷ es ++ seq_ends ∷ []) (joined ts)

-- the events of a name, and its text: that of a field, of a variant, or of a key of a map
pub data IsName : List Event → List ℕ → Type 0 where
  field : {name : List ℕ} {case : Case} → IsName (field_key name case ∷ []) (spelled case Field name)
  variant : {name : List ℕ} {case : Case} → IsName (variant_key name case ∷ []) (spelled case Variant name)
  key : {e : Event} {t : List ℕ} → IsScalar e t → IsName (key_begins ∷ e ∷ key_ends ∷ []) t

-- the events of fields, and their names and cells. The fields of a flattened struct are among them
pub data AreFields (none : List ℕ) : List Event → List (List ℕ) → List (List ℕ) → Type 0 where
  none_yet : AreFields none [] [] []
  and_field : (es ns vs : List Event) (names cells : List (List ℕ)) (name cell : List ℕ)
      → AreFields none es names cells → IsName ns name → IsCell none vs cell
      → AreFields none (es ++ ns ++ vs) (names ++ name ∷ []) (cells ++ cell ∷ [])
  and_flattened : (n : Option ℕ) (es inner : List Event) (names cells inner_names inner_cells : List (List ℕ))
      → AreFields none es names cells → AreFields none inner inner_names inner_cells
      → AreFields none (es ++ flattens ∷ map_begins n ∷ inner ++ map_ends ∷ []) (names ++ inner_names) (cells ++ inner_cells)
  and_nothing : (es : List Event) (names cells : List (List ℕ))
      → AreFields none es names cells → AreFields none (es ++ flattens ∷ nothing ∷ []) names cells

-- the events of a struct or a map, and the names and cells of its fields
pub record AreRecord (none : List ℕ) (events : List Event) (names cells : List (List ℕ)) : Type 0 where
  pub length_hint : Option ℕ
  pub inside : List Event
  pub fields : AreFields none inside names cells
  pub events_are : events ≡ map_begins length_hint ∷ inside ++ map_ends ∷ []
