-- The change at the latest of the places for a cell's entities is the first that covers the cell.
use Rattle.tabled_entity.proofs.Names.{Cell, Column, Entity, Global, List, None, Option, Row, Some, [], ap, arith, false, first_covering}
use Rattle.tabled_entity.proofs.Names.{get_or, last_for, later, latest, length, refl, same, suc, ℕ, ◌-◌, ◌<◌, ◌∙◌, ◌∷◌, ◌≡◌}
use Rattle.std.proofs.Common.{cond, nat_eq, true, ◌&&◌}
use Rattle.tabled_entity.specs.Changes.{covers}

-- a place before the end, if there is one
abbrev pub IsBelow : ℕ → Option ℕ → Type 0
IsBelow n None = Unit {0}
IsBelow n (Some i) = i < n

below-more : (n : ℕ) (o : Option ℕ) → IsBelow n o → IsBelow (suc n) o
below-more n None h = tt
below-more n (Some i) h = let k : i < n = h in omega arith

below-later : (n : ℕ) (a b : Option ℕ) → IsBelow n a → IsBelow n b → IsBelow n (later a b)
below-later n None b h k = k
below-later n (Some i) None h k = h
below-later n (Some i) (Some j) h k = let p : i < n = h in let q : j < n = k in omega arith

newest-left : (n : ℕ) (b : Option ℕ) → IsBelow n b → later (Some n) b ≡ Some n
newest-left n None h = refl
newest-left n (Some j) h = let k : j < n = h in ap Some (omega arith)

newest-right : (n : ℕ) (a : Option ℕ) → IsBelow n a → later a (Some n) ≡ Some n
newest-right n None h = refl
newest-right n (Some i) h = let k : i < n = h in ap Some (omega arith)

module _ {T : Type 0} where
  pub below-last_for : (entity : Entity) (parts : List (Entity × T)) → IsBelow (length parts) (last_for entity parts)
  below-last_for entity [] = tt
  below-last_for entity (part ∷ earlier) =
      elim (same part.0 entity) as (λ t. IsBelow (length (part ∷ earlier)) (cond t (Some (length earlier)) (last_for entity earlier))) [
        | true ↦ omega arith
        | false ↦ below-more (length earlier) (last_for entity earlier) (below-last_for entity earlier)
      ]

  -- the latest of the places for a cell's entities
  abbrev pub latest_place : List (Entity × T) → ℕ → ℕ → Option ℕ
  latest_place parts row column = latest (λ entity. last_for entity parts) row column

  pub below-latest_place : (parts : List (Entity × T)) (row column : ℕ) → IsBelow (length parts) (latest_place parts row column)
  below-latest_place parts row column =
      below-later _ (last_for (Row row) parts) _ (below-last_for (Row row) parts)
      (below-later _ (last_for (Column column) parts) (last_for (Cell row column) parts) (below-last_for (Column column) parts)
      (below-last_for (Cell row column) parts))

  -- what the change at a place says, and else what the whole table has
  abbrev pub said_at : T → List (Entity × T) → Option ℕ → T
  said_at global parts None = global
  said_at global parts (Some i) = (get_or parts (length parts - 1 - i) (Global, global)).1

  said_at-more : (global : T) (part : Entity × T) (earlier : List (Entity × T)) (o : Option ℕ)
      → IsBelow (length earlier) o → said_at global (part ∷ earlier) o ≡ said_at global earlier o
  said_at-more global part earlier None h = refl
  said_at-more global part earlier (Some i) h =
      let k : i < length earlier = h in
      let e : length (part ∷ earlier) - 1 - i ≡ suc (length earlier - 1 - i) = omega arith in
      ap (λ n. (get_or (part ∷ earlier) n (Global, global)).1) e

  said_at-newest : (global : T) (part : Entity × T) (earlier : List (Entity × T)) → said_at global (part ∷ earlier) (Some (length earlier)) ≡ part.1
  said_at-newest global part earlier =
      let e : length (part ∷ earlier) - 1 - length earlier ≡ 0 = omega arith in
      ap (λ n. (get_or (part ∷ earlier) n (Global, global)).1) e

  -- one change more is the latest for the cells that it covers
  place-more : (entity : Entity) (value : T) (earlier : List (Entity × T)) (row column : ℕ)
      → last_for Global ((entity, value) ∷ earlier) ≡ None → latest_place ((entity, value) ∷ earlier) row column
      ≡ cond (covers entity row column) (Some (length earlier)) (latest_place earlier row column)
  place-more Global value earlier row column h = cc
  place-more (Row r) value earlier row column h =
      let a = last_for (Row row) earlier in
      let b = last_for (Column column) earlier in
      let d = last_for (Cell row column) earlier in
      let n = length earlier in
      elim (nat_eq r row) as (λ t. later (cond t (Some n) a) (later b d) ≡ cond t (Some n) (later a (later b d))) [
        | true ↦ newest-left n (later b d) (below-later n b d (below-last_for (Column column) earlier) (below-last_for (Cell row column) earlier))
        | false ↦ refl
      ]
  place-more (Column c) value earlier row column h =
      let a = last_for (Row row) earlier in
      let b = last_for (Column column) earlier in
      let d = last_for (Cell row column) earlier in
      let n = length earlier in
      elim (nat_eq c column) as (λ t. later a (later (cond t (Some n) b) d) ≡ cond t (Some n) (later a (later b d))) [
        | true ↦ ap (later a) (newest-left n d (below-last_for (Cell row column) earlier)) ∙ newest-right n a (below-last_for (Row row) earlier)
        | false ↦ refl
      ]
  place-more (Cell r c) value earlier row column h =
      let a = last_for (Row row) earlier in
      let b = last_for (Column column) earlier in
      let d = last_for (Cell row column) earlier in
      let n = length earlier in
      elim (nat_eq r row && nat_eq c column) as (λ t. later a (later b (cond t (Some n) d)) ≡ cond t (Some n) (later a (later b d))) [
        | true ↦ ap (later a) (newest-right n b (below-last_for (Column column) earlier)) ∙ newest-right n a (below-last_for (Row row) earlier)
        | false ↦ refl
      ]

  pub none-before : (entity : Entity) (value : T) (earlier : List (Entity × T))
      → last_for Global ((entity, value) ∷ earlier) ≡ None → last_for Global earlier ≡ None
  none-before Global value earlier h = cc
  none-before (Row r) value earlier h = h
  none-before (Column c) value earlier h = h
  none-before (Cell r c) value earlier h = h

  pub said_at-latest : (global : T) (parts : List (Entity × T)) (row column : ℕ) → last_for Global parts ≡ None
      → said_at global parts (latest_place parts row column) ≡ first_covering global parts row column
  said_at-latest global [] row column h = refl
  said_at-latest global (part ∷ earlier) row column h =
      ap (said_at global (part ∷ earlier)) (place-more part.0 part.1 earlier row column h)
      ∙ elim (covers part.0 row column) as (λ t. said_at global (part ∷ earlier)
      (cond t (Some (length earlier)) (latest_place earlier row column)) ≡ cond t part.1 (first_covering global earlier row column)) [
        | true ↦ said_at-newest global part earlier
        | false ↦
            said_at-more global part earlier (latest_place earlier row column) (below-latest_place earlier row column)
            ∙ said_at-latest global earlier row column (none-before part.0 part.1 earlier h)
      ]
