-- Every entity that a selection picks lies inside the records.
use Rattle.std.proofs.Common.{◌≡◌, ℕ, ◌+◌, ◌-◌, ◌<◌, ◌≤◌, ◌&&◌, nat_lt, Bool, true, false, List, [], ◌∷◌, ◌++◌, map, min, zero, suc, refl}
use Rattle.std.proofs.Common.{Option, Some, None, sym, subst, arith, ⊎_elim}
use Rattle.std.specs.Prelude.{if◌then◌else◌}
use Rattle.std.specs.List.{All, range_with_len}
use Rattle.std.specs.Option.{unwrap_or}
use Rattle.std.proofs.lemmas.Bool.{and_parts, cases_lt, ltb-true}
use Rattle.std.proofs.lemmas.List.Elements.{All-append, All-cons, All-head, All-map, All-nil, All-tail, All-weaker}
use Rattle.tabled_base.specs.Picks.{IsPart, block, picked, picked_cell, segment, stretch}
use Rattle.tabled_base.specs.declared.objects.Place.{Place}
use Rattle.tabled_base.specs.declared.objects.Place.TheVariants.{At, Last}
use Rattle.tabled_base.specs.declared.position.Entity.{Entity}
use Rattle.tabled_base.specs.declared.position.Entity.TheVariants.{Cell, Column, Global, Row}
use Rattle.tabled_base.specs.declared.segment.Stretch.{Stretch}

-- the one item of a list that may be empty
if_one : {A : Type 0} (P : A → Type 0) (there : Bool) (x : A) → (there ≡ true → P x) → All P (if there then x ∷ [] else [])
if_one P true x h = All-cons P x [] (h refl) (All-nil P)
if_one P false x h = All-nil P

picked-below : (place : Place) (count : ℕ) → All (λ i. i < count) (picked place count)
picked-below (At index) count = if_one (λ i. i < count) (nat_lt index count) index (ltb-true index count)
picked-below Last count =
    if_one (λ i. i < count) (nat_lt 0 count) (count - 1) (λ yes. let some = ltb-true 0 count yes in omega arith)

pub picked_rows-inside : (place : Place) (rows columns : ℕ) → All (IsPart rows columns) (map Row (picked place rows))
picked_rows-inside place rows columns = All-map (IsPart rows columns) Row (picked place rows) (picked-below place rows)

pub picked_columns-inside : (place : Place) (rows columns : ℕ) → All (IsPart rows columns) (map Column (picked place columns))
picked_columns-inside place rows columns = All-map (IsPart rows columns) Column (picked place columns) (picked-below place columns)

pub picked_cell-inside : (row column rows columns : ℕ) → All (IsPart rows columns) (picked_cell row column rows columns)
picked_cell-inside row column rows columns =
    if_one (IsPart rows columns) (nat_lt row rows && nat_lt column columns) (Cell row column)
    (λ yes. let both = and_parts (nat_lt row rows) (nat_lt column columns) yes in (ltb-true row rows both.0, ltb-true column columns both.1))

-- n numbers from `from` on are below `count`, if they end there or before
range-below : (from n count : ℕ) → from + n ≤ count → All (λ i. i < count) (range_with_len from n)
range-below from zero count h = All-nil (λ i. i < count)
range-below from (suc n) count h = All-cons (λ i. i < count) from (range_with_len (from + 1) n) (omega arith)
    (range-below (from + 1) n count (omega arith))

stretch-below : (kept : Stretch) (count : ℕ) → All (λ i. i < count) (stretch kept count)
stretch-below kept count =
    let end = min (unwrap_or kept.end count) count in
    ⊎_elim
    (λ some. range-below kept.start (end - kept.start) count (omega arith))
    (λ none. let e : end - kept.start ≡ 0 = omega arith in
    subst (λ n. All (λ i. i < count) (range_with_len kept.start n)) (sym e) (All-nil (λ i. i < count)))
    (cases_lt kept.start end)

block-inside : (rows columns : List ℕ) (m n : ℕ) → All (λ i. i < m) rows → All (λ i. i < n) columns → All (IsPart m n) (block rows columns)
block-inside [] columns m n r c = All-nil (IsPart m n)
block-inside (row ∷ rows) columns m n r c =
    let here : row < m = All-head (λ i. i < m) row rows r in
    All-append (IsPart m n) (map (Cell row) columns) (block rows columns)
    (All-map (IsPart m n) (Cell row) columns (All-weaker (λ i. i < n) (λ i. (row < m) × (i < n)) (λ i h. (here, h)) columns c))
    (block-inside rows columns m n (All-tail (λ i. i < m) row rows r) c)

pub segment-inside : (kept : Option (Stretch × Stretch)) (rows columns : ℕ) → All (IsPart rows columns) (segment kept rows columns)
segment-inside None rows columns = All-cons (IsPart rows columns) Global [] tt (All-nil (IsPart rows columns))
segment-inside (Some kept) rows columns =
    block-inside (stretch kept.0 rows) (stretch kept.1 columns) rows columns (stretch-below kept.0 rows)
    (stretch-below kept.1 columns)

pub both-inside : (rows columns : ℕ) (first second : List Entity) → All (IsPart rows columns) first → All (IsPart rows columns) second
    → All (IsPart rows columns) (first ++ second)
both-inside rows columns = All-append (IsPart rows columns)
