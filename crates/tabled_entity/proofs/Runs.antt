-- One value more in a row of a map from rows and columns.
use Rattle.tabled_entity.proofs.Names.{List, None, Option, Some, [], ap, arith, false, get_or, length, refl, slice_get-get_or, suc, sym}
use Rattle.tabled_entity.proofs.Names.{zero, ℕ, ◌+◌, ◌-◌, ◌<◌, ◌∙◌, ◌∷◌, ◌≡◌}
use Rattle.std.proofs.Common.{◌==◌, ◌&&◌, true, if◌then◌else◌, Result, Ok, Err, OnOk, OnErr, inl, inr, nat_lt, slice_get, slice_set}
use Rattle.std.proofs.lemmas.Bool.{cases_Bool, cases_eq, eqb-true}
use Rattle.std.proofs.lemmas.Bool.Decides.{nat_tests}
use Rattle.std.specs.Option.{option_and_then, option_or}
use Rattle.std.specs.Vec.{with_item}
use Rattle.tabled_entity.specs.RowPlaces.{HoldsCell, SameCells, cell_in}
use Rattle.tabled_entity.specs.RunMap.{HoldsValue, SameValues, in_others, in_run, value_in}
use Rattle.tabled_entity.specs.declared.run_map.RunMap.{RunMap}
use Rattle.tabled_entity.specs.declared.run_map.RowPlaces.{RowPlaces}

set-same : {X : Type 0} (xs : List X) (i : ℕ) (x : X) → i < length xs → slice_get (slice_set xs i x) i ≡ Some x
set-same [] i x below = absurd (omega arith)
set-same (y ∷ ys) zero x below = refl
set-same (y ∷ ys) (suc i) x below = let within : suc i < suc (length ys) = below in set-same ys i x (omega arith)

set-other : {X : Type 0} (xs : List X) (i k : ℕ) (x : X) → (k ≡ i → ⊥) → slice_get (slice_set xs i x) k ≡ slice_get xs k
set-other [] i k x apart = refl
set-other (y ∷ ys) zero zero x apart = absurd (apart refl)
set-other (y ∷ ys) zero (suc k) x apart = refl
set-other (y ∷ ys) (suc i) zero x apart = refl
set-other (y ∷ ys) (suc i) (suc k) x apart = set-other ys i k x (λ same. apart (ap suc same))

item-same : {X : Type 0} (first index other : ℕ) (new old : Option X) → other - first ≡ index
    → (if nat_lt other first then None else new) ≡ (if first + index == other then new else (if nat_lt other first then None else old))
item-same first index other new old same = grind (arith, nat_tests)

item-other : {X : Type 0} (first index other : ℕ) (new old : Option X) → (other - first ≡ index → ⊥)
    → (if nat_lt other first then None else old) ≡ (if first + index == other then new else (if nat_lt other first then None else old))
item-other first index other new old apart = grind (arith, nat_tests)

-- one item of a run that begins at `first`
item-set : {X : Type 0} (xs : List X) (first index other : ℕ) (x : X) → index < length xs
    → (if nat_lt other first then None else slice_get (slice_set xs index x) (other - first))
    ≡ (if first + index == other then Some x else (if nat_lt other first then None else slice_get xs (other - first)))
item-set xs first index other x below =
    let found : Option _ → Option _ = λ o. if nat_lt other first then None else o in
    elim (cases_eq (other - first) index) [
      | inl same ↦ ap found (ap (slice_get (slice_set xs index x)) same ∙ set-same xs index x below)
          ∙ item-same first index other (Some x) (slice_get xs (other - first)) same
      | inr apart ↦ ap found (set-other xs index (other - first) x apart)
          ∙ item-other first index other (Some x) (slice_get xs (other - first)) apart
    ]

module _ (old : RunMap RowPlaces) (index : ℕ) (within : index < length old.run.items) where
  row-set : (more : RowPlaces) → HoldsValue old (record old { run = with_item old.run index more }) (old.first + index) more
  row-set more =
      record {
        at = λ other.
            ap (λ o. option_or o (in_others old other)) (item-set old.run.items old.first index other more within)
            ∙ elim (old.first + index == other) as (λ t. option_or (if t then Some more else in_run old other) (in_others old other)
            ≡ (if t then Some more else value_in old other)) [
              | true ↦ refl
              | false ↦ refl
            ];
      }

  row-there : (cells : RowPlaces) → cells ≡ get_or old.run.items index cells → value_in old (old.first + index) ≡ Some cells
  row-there cells is =
      let row = old.first + index in
      let at : row - old.first ≡ index = omega arith in
      let from : nat_lt row old.first ≡ false = grind (arith, nat_tests) in
      ap (λ o. option_or o (in_others old row))
      (ap (λ t. if t then None else slice_get old.run.items (row - old.first)) from
      ∙ ap (slice_get old.run.items) at
      ∙ slice_get-get_or old.run.items index cells within
      ∙ ap Some (sym is))

-- a cell of a row has a new value
cell-held : (old new : RunMap RowPlaces) (row column value : ℕ) (cells more : RowPlaces) → value_in old row ≡ Some cells
    → HoldsValue old new row more → HoldsValue cells.places more.places column value → HoldsCell old new row column value
cell-held old new row column value cells more there held set =
    record {
      at = λ r c.
          let tell : Option RowPlaces → Option ℕ = option_and_then (λ m. value_in m.places c) in
          ap tell (held.at r)
          ∙ elim (cases_Bool (row == r)) [
            | inl same ↦
                let once = ap (value_in old) (sym (eqb-true row r same)) ∙ there in
                ap (λ t. tell (if t then Some more else value_in old r)) same
                ∙ set.at c
                ∙ ap (λ o. if column == c then Some value else o) (sym (ap tell once))
                ∙ sym (ap (λ t. if t && column == c then Some value else cell_in old r c) same)
            | inr apart ↦
                ap (λ t. tell (if t then Some more else value_in old r)) apart
                ∙ sym (ap (λ t. if t && column == c then Some value else cell_in old r c) apart)
          ];
    }

cells-same : (old new : RunMap RowPlaces) (row : ℕ) (cells more : RowPlaces) → value_in old row ≡ Some cells
    → HoldsValue old new row more → SameValues cells.places more.places → SameCells old new
cells-same old new row cells more there held same-values =
    record {
      at = λ r c.
          let tell : Option RowPlaces → Option ℕ = option_and_then (λ m. value_in m.places c) in
          ap tell (held.at r)
          ∙ elim (cases_Bool (row == r)) [
            | inl same ↦
                let once = ap (value_in old) (sym (eqb-true row r same)) ∙ there in
                ap (λ t. tell (if t then Some more else value_in old r)) same ∙ same-values.at c ∙ sym (ap tell once)
            | inr apart ↦ ap (λ t. tell (if t then Some more else value_in old r)) apart
          ];
    }

module _ {E : Type 0} (old : RunMap RowPlaces) (index : ℕ) (cells more : RowPlaces) where
  -- what is inserted into a row of the run is inserted into the map
  pub run-row-held : (row column value : ℕ) (r : Result (Unit {0}) E) → row ≡ old.first + index → index < length old.run.items
      → cells ≡ get_or old.run.items index cells → OnOk r (HoldsValue cells.places more.places column value)
      → OnOk r (HoldsCell old (record old { run = with_item old.run index more }) row column value)
  run-row-held row column value (Ok _) at within is set =
      rw at (cell-held old _ _ column value cells more (row-there old index within cells is) (row-set old index within more) set)
  run-row-held row column value (Err _) at within is set = tt

  -- where nothing is, nothing changes
  pub run-row-same : (r : Result (Unit {0}) E) → index < length old.run.items → cells ≡ get_or old.run.items index cells
      → OnErr r (SameValues cells.places more.places) → OnErr r (SameCells old (record old { run = with_item old.run index more }))
  run-row-same (Ok _) within is same = tt
  run-row-same (Err _) within is same =
      cells-same old _ _ cells more (row-there old index within cells is) (row-set old index within more) same
