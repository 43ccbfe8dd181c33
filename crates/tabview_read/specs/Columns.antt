-- Which columns names mean. A name is the list of its bytes.
use Rattle.std.specs.Prelude.{◌≡◌, ℕ, ◌+◌, ◌-◌, ◌<◌, ◌^◌, ◌++◌, List, [], ◌∷◌, Option, Some, None, codes, length, refl, string_bytes, ⊤}
use Rattle.std.proofs.Common.{lit<}
use Rattle.std.specs.Borrow.{Bor}
use Rattle.std.specs.List.{AllZip, Contains, range_with_len}
use Rattle.std.specs.Str.Parse.{IsNumeral, digits_value, without_leading_plus}
use Rattle.csv.specs.Records.{field_at, fields_of}
use Rattle.csv.specs.declared.record.StringRecord.{StringRecord}
use Rattle.tabview_read.specs.declared.error.ReadError.{ReadError}
use Rattle.tabview_read.specs.declared.error.ReadError.TheVariants.{Memory, NoColumn}

-- the names of the columns: none, if the input has no names
abbrev pub names_in : Option (Bor StringRecord) → List (List ℕ)
names_in None = []
names_in (Some names) = fields_of names.now

-- a column has this name
abbrev pub IsNamed : List (List ℕ) → List ℕ → ℕ → Type 0
IsNamed names name column = field_at names column ≡ Some name

-- no column has this name
abbrev pub IsUnnamed : List (List ℕ) → List ℕ → Type 0
IsUnnamed names name = (column : ℕ) → ¬ (IsNamed names name column)

-- a column is the first that has this name
pub record IsFirstNamed (names : List (List ℕ)) (name : List ℕ) (column : ℕ) : Type 0 where
  pub named : IsNamed names name column
  pub first : (k : ℕ) → k < column → ¬ (IsNamed names name k)

-- a text is the number of a column, from 1: decimal digits, with or without a plus before them,
-- that fit in 64 bits
pub record IsNumberOf (text : List ℕ) (column : ℕ) : Type 0 where
  pub digits : IsNumeral 10 (without_leading_plus text)
  pub value : digits_value 10 (without_leading_plus text) ≡ column + 1
  pub fits : column + 1 < 2 ^ 64

-- a text is the number of no column
abbrev pub IsNoNumber : List ℕ → Type 0
IsNoNumber text = (column : ℕ) → ¬ (IsNumberOf text column)

-- a column has this name, or if none has, it has this number
pub data IsNameOf (names : List (List ℕ)) (name : List ℕ) (column : ℕ) : Type 0 where
  its_name : IsNamed names name column → IsNameOf names name column
  its_number : IsUnnamed names name → IsNumberOf name column → IsNameOf names name column

-- of `count` columns a name means this one: the first that has it, or if none has, the one of that
-- number
pub data Means (names : List (List ℕ)) (count : ℕ) (name : List ℕ) (column : ℕ) : Type 0 where
  by_name : IsFirstNamed names name column → Means names count name column
  by_number : IsUnnamed names name → IsNumberOf name column → column < count
      → Means names count name column

-- a name means no column
abbrev pub MeansNone : List (List ℕ) → ℕ → List ℕ → Type 0
MeansNone names count name = (column : ℕ) → ¬ (Means names count name column)

-- the columns that are shown of a row of `count` cells: if no name is wanted, all are added
abbrev pub widened : {A : Type 0} → List A → ℕ → List ℕ → List ℕ
widened [] count columns = columns ++ range_with_len (length columns) (count - length columns)
widened (name ∷ names) count columns = columns

-- the columns that the wanted names mean are added in their order, or all if no name is wanted
pub record FindsColumns (names : List (List ℕ)) (count : ℕ) (wanted : List (List ℕ))
    (old new : List ℕ) : Type 0 where
  pub found : List ℕ
  pub meant : AllZip (Means names count) wanted found
  pub are : new ≡ widened wanted count (old ++ found)

-- why columns can't be found: an allocation failed, or a name that is wanted means no column
abbrev pub CannotFind : List (List ℕ) → ℕ → List (List ℕ) → ReadError → Type 0
CannotFind names count wanted Memory = ⊤
CannotFind names count wanted (NoColumn name) =
    Contains wanted (string_bytes name) × MeansNone names count (string_bytes name)
CannotFind names count wanted error = ⊥

-- ---- examples

abbrev two_alike : List (List ℕ)
two_alike = codes "a" ∷ codes "b" ∷ codes "a" ∷ []

means_first : Means two_alike 3 (codes "a") 0
unfolding field_at
means_first = by_name (record { named = refl; first = λ k below. elim below [ ] })

means_no_second : ¬ (Means two_alike 3 (codes "a") 2)
unfolding field_at
means_no_second meant = elim meant as (λ _. ⊥) [
  | by_name first ↦ first.first 0 (lit< tt) refl
  | by_number unnamed number few ↦ unnamed 0 refl
]

names_second : IsNameOf two_alike (codes "a") 2
unfolding field_at
names_second = its_name refl

means_number : Means [] 3 (codes "+02") 1
unfolding field_at
means_number = by_number (λ column named. cc named) (record {
  digits = (lit< tt, (lit< tt, (lit< tt, tt)));
  value = refl;
  fits = lit< tt;
}) (lit< tt)

all_of_wider : widened {A = ℕ} [] 4 (0 ∷ 1 ∷ []) ≡ 0 ∷ 1 ∷ 2 ∷ 3 ∷ []
all_of_wider = refl

none_of_narrower : widened {A = ℕ} [] 1 (0 ∷ 1 ∷ []) ≡ 0 ∷ 1 ∷ []
none_of_narrower = refl

only_wanted : widened (codes "a" ∷ []) 4 (0 ∷ []) ≡ 0 ∷ []
only_wanted = refl
