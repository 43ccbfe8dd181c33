-- What a map of changes finds by its places is the latest setting that covers a cell.
use Rattle.tabled_entity.proofs.Names.{Cell, Column, Entity, Global, IsIndexed, List, None, Option, Row, Some, [], ap, arith}
use Rattle.tabled_entity.proofs.Names.{first_covering, get_or, last_for, later, latest, length, length-reverse, refl, reverse, same}
use Rattle.tabled_entity.proofs.Names.{slice_get-get_or, subst, suc, sym, value_of, zero, ℕ, ◌-◌, ◌<◌, ◌∙◌, ◌∷◌, ◌≡◌}
use Rattle.std.proofs.Common.{cond}
use Rattle.std.proofs.lemmas.List.{reverse-reverse, get_or-reverse}
use Rattle.std.specs.Option.{option_map, unwrap_or}
use Rattle.tabled_entity.specs.declared.row_values.ChangeIndex.{ChangeIndex}
use Rattle.tabled_entity.specs.Changes.{if_unparted}
use Rattle.tabled_entity.specs.ChangeIndex.{AreParts, IsPart, IsReindexed, found}
use Rattle.tabled_entity.proofs.Covering.{IsBelow, latest_place, below-latest_place, none-before, said_at, said_at-latest}

item-reversed : {X : Type 0} (items : List X) (i : ℕ) (d : X) → i < length (reverse items) → get_or items i d
    ≡ get_or (reverse items) (length (reverse items) - 1 - i) d
item-reversed items i d h = ap (λ xs. get_or xs i d) (sym (reverse-reverse items)) ∙ get_or-reverse (reverse items) i d h

module _ {T : Type 0} where
  pub indexed-latest : (places : ChangeIndex) (parts : List (Entity × T)) (row column : ℕ) → IsIndexed places parts
      → latest (found places) row column ≡ latest_place parts row column
  indexed-latest places parts row column p =
      ap (λ a. later a (later (found places (Column column)) (found places (Cell row column)))) (p.found (Row row))
      ∙ (ap (λ b. later (last_for (Row row) parts) (later b (found places (Cell row column)))) (p.found (Column column))
      ∙ ap (λ d. later (last_for (Row row) parts) (later (last_for (Column column) parts) d)) (p.found (Cell row column)))

  said_at-placed : (global : T) (places : ChangeIndex) (parts : List (Entity × T)) (row column : ℕ) (o : Option ℕ)
      → IsIndexed places parts → o ≡ latest_place parts row column → said_at global parts o ≡ first_covering global parts row column
  said_at-placed global places parts row column o p e =
      ap (said_at global parts) e ∙ said_at-latest global parts row column (sym (p.found Global))

  -- the value of a change, by its index from the earliest
  value_of-said : (global : T) (items : List (Entity × T)) (o : Option ℕ) → IsBelow (length (reverse items)) o
      → value_of global items o ≡ said_at global (reverse items) o
  value_of-said global items None h = refl
  value_of-said global items (Some i) h =
      let none : Entity × T = (Global, global) in
      let below : i < length (reverse items) = h in
      let within : i < length items = subst (λ (n : ℕ). i < n) (length-reverse items) below in
      ap (λ o. unwrap_or (option_map (λ change. change.1) o) global) (slice_get-get_or items i none within)
      ∙ ap (λ change. change.1) (item-reversed items i none below)

  -- the value of the latest change for a cell is the latest that covers it
  pub value_of-latest : (global : T) (places : ChangeIndex) (items : List (Entity × T)) (row column : ℕ) (o : Option ℕ)
      → IsIndexed places (reverse items) → o ≡ latest (found places) row column
      → value_of global items o ≡ first_covering global (reverse items) row column
  value_of-latest global places items row column o p e =
      let parts = reverse items in
      let placed : o ≡ latest_place parts row column = e ∙ indexed-latest places parts row column p in
      value_of-said global items o (subst (IsBelow (length parts)) (sym placed) (below-latest_place parts row column))
      ∙ said_at-placed global places parts row column o p placed

  -- rows whose cells have the same latest places have the same settings
  pub alike-found : (global : T) (places : ChangeIndex) (parts : List (Entity × T)) (row other column : ℕ) → IsIndexed places parts
      → latest (found places) row column ≡ latest (found places) other column → first_covering global parts row column ≡ first_covering global parts other column
  alike-found global places parts row other column p e =
      sym (said_at-placed global places parts row column (latest (found places) row column) p (indexed-latest places parts row column p))
      ∙ said_at-placed global places parts other column (latest (found places) row column) p (e ∙ indexed-latest places parts other column p)

-- one change more
pub indexed-more : {T : Type 0} (old new : ChangeIndex) (items : List (Entity × T)) (entity : Entity) (value : T) (place : ℕ)
    → IsIndexed old (reverse items) → IsReindexed old new entity place → place ≡ length items → IsIndexed new ((entity, value) ∷ reverse items)
indexed-more old new items entity value place indexed placed is =
    record {
      found = λ other.
          placed.found other
          ∙ ap (λ n. cond (same entity other) (Some n) (found old other)) (is ∙ sym (length-reverse items))
          ∙ ap (cond (same entity other) (Some (length (reverse items)))) (indexed.found other);
    }

first-part : {T : Type 0} (entity : Entity) (value : T) (earlier : List (Entity × T)) → AreParts ((entity, value) ∷ earlier) → IsPart entity
first-part Global value earlier h = cc
first-part (Row r) value earlier h = tt
first-part (Column c) value earlier h = tt
first-part (Cell r c) value earlier h = tt

part-at : {T : Type 0} (parts : List (Entity × T)) (i : ℕ) (d : Entity × T) → AreParts parts → i < length parts → IsPart (get_or parts i d).0
part-at [] i d h below = absurd (omega arith)
part-at (part ∷ earlier) zero d h below = first-part part.0 part.1 earlier h
part-at (part ∷ earlier) (suc i) d h below =
    let later : suc i < suc (length earlier) = below in part-at earlier i d (none-before part.0 part.1 earlier h) (omega arith)

-- each item is for a part
pub item-part : {T : Type 0} (items : List (Entity × T)) (i : ℕ) (d : Entity × T) → AreParts (reverse items) → i < length items
    → IsPart (get_or items i d).0
item-part items i d h below =
    let e = length-reverse items in
    let within : i < length (reverse items) = omega (arith, e, below) in
    subst (λ (p : Entity × _). IsPart p.0) (sym (item-reversed items i d within))
    (part-at (reverse items) (length (reverse items) - 1 - i) d h (omega (arith, within)))

-- where nothing was set for a part, each cell has what the whole table has
pub nothing_set : {T : Type 0} (global : T) (items : List (Entity × T)) (row column : ℕ) → length items ≡ 0 → global
    ≡ first_covering global (reverse items) row column
nothing_set global [] row column h = refl
nothing_set global (item ∷ items) row column h = let e : suc (length items) ≡ 0 = h in absurd (omega arith)

-- then the value of the whole table is shared
pub unparted : {T : Type 0} (global : T) (items : List (Entity × T)) → length items ≡ 0 → Some global ≡ if_unparted global (reverse items)
unparted global [] h = refl
unparted global (item ∷ items) h = let e : suc (length items) ≡ 0 = h in absurd (omega arith)

-- and else none is
pub parted : {T : Type 0} (global : T) (parts : List (Entity × T)) → 0 < length parts → None ≡ if_unparted global parts
parted global [] h = absurd (omega arith)
parted global (part ∷ earlier) h = refl
