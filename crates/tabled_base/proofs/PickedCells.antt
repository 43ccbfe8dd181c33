-- Cells that are picked one after another.
use Rattle.tabled_base.proofs.Names.{Cell, List, [], ap, append-nil, arith, between, block, length, length-append, map, map-id, suc, sym}
use Rattle.tabled_base.proofs.Names.{zero, ℕ, ◌++◌, ◌+◌, ◌-◌, ◌<◌, ◌∙◌, ◌∷◌, ◌≡◌, ◌≤◌}
use Rattle.std.proofs.lemmas.List.Concat.{flat_map-append}
use Rattle.std.proofs.lemmas.List.FromFn.{length-map-range_with_len, map-range_with_len_more}
use Rattle.std.specs.List.{flat_map, range_with_len}
use Rattle.tabled_base.specs.declared.position.Entity.{Entity}

-- a further number
pub map-between_more : {A : Type 0} (f : ℕ → A) (from to : ℕ) → from ≤ to → map f (between from (to + 1)) ≡ map f (between from to) ++ f to ∷ []
map-between_more f from to h =
    let next : to + 1 - from ≡ to - from + 1 = omega arith in
    ap (λ n. map f (range_with_len from n)) next ∙ map-range_with_len_more f from (to - from) to (omega arith)

-- a further row
pub block-more : (from to : ℕ) (columns : List ℕ) → from ≤ to → block (between from (to + 1)) columns
    ≡ block (between from to) columns ++ map (Cell to) columns
block-more from to columns h =
    let row : ℕ → List Entity = λ r. map (Cell r) columns in
    ap (λ rows. block rows columns)
    (sym (map-id (between from (to + 1))) ∙ map-between_more (λ x. x) from to h ∙ ap (λ l. l ++ to ∷ []) (map-id (between from to)))
    ∙ flat_map-append row (between from to) (to ∷ [])
    ∙ ap (λ l. block (between from to) columns ++ l) (append-nil (row to))

-- a walk that has come to its end
pub between-end : (from to end : ℕ) → to - from ≡ end - from → between from to ≡ between from end
between-end from to end e = ap (range_with_len from) e

-- a list for each of some numbers, of which the first isn't empty
some-first : (f : ℕ → List Entity) (from count : ℕ) → 0 < count → 0 < length (f from) → 0 < length (flat_map f (range_with_len from count))
some-first f from zero h k = absurd (omega arith)
some-first f from (suc count) h k = omega (arith, length-append {A = Entity})

-- some rows and some columns have cells
pub block-some : (from to first end : ℕ) → from < to → first < end → 0 < length (block (between from to) (between first end))
block-some from to first end h k =
    some-first (λ r. map (Cell r) (between first end)) from (to - from) (omega arith)
    (omega (arith, length-map-range_with_len (Cell from) first (end - first)))
