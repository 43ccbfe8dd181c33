-- Changes that follow each other, for one column after another.
use Rattle.tabled_entity.proofs.Names.{List, None, Option, Some, [], ap, arith, false, get_or, length, refl, slice_get-get_or, subst, suc}
use Rattle.tabled_entity.proofs.Names.{sym, zero, ℕ, ◌+◌, ◌-◌, ◌<◌, ◌∙◌, ◌∷◌, ◌≡◌}
use Rattle.std.proofs.Common.{Bool, if◌then◌else◌, inl, inr, length-append, nat_lt, slice_get, true, ◌++◌, ◌≤◌}
use Rattle.std.proofs.lemmas.List.Edits.{get_or-between, length-between}
use Rattle.std.proofs.lemmas.List.FromFn.{get_or-range_with_len, length-range_with_len}
use Rattle.std.proofs.lemmas.Option.{slice_get_cases, slice_get_past}
use Rattle.std.specs.List.{range_with_len, slice_range}
use Rattle.std.specs.Map.{lookup}
use Rattle.std.specs.Option.{option_and_then, option_or}
use Rattle.tabled_entity.specs.RunMap.{AreSuccessive, in_dense, in_others, in_run, value_in}
use Rattle.tabled_entity.specs.declared.run_map.RunMap.{RunMap}

range-more : (a n : ℕ) → range_with_len a (suc n) ≡ range_with_len a n ++ (a + n) ∷ []
range-more a zero = let none : a ≡ a + 0 = omega arith in ap (λ m. m ∷ []) none
range-more a (suc n) =
    let next : (a + 1) + n ≡ a + suc n = omega arith in
    ap (λ xs. a ∷ xs) (range-more (a + 1) n ∙ ap (λ m. range_with_len (a + 1) n ++ m ∷ []) next)

-- one number more
successive-more : (run : List ℕ) (number : ℕ) → AreSuccessive run → number ≡ get_or (run ++ number ∷ []) 0 0 + length run
    → AreSuccessive (run ++ number ∷ [])
successive-more [] number successive is = refl
successive-more (x ∷ xs) number successive is =
    let run = x ∷ xs in
    let count : length (run ++ number ∷ []) ≡ suc (length run) = omega (arith, length-append run (number ∷ [])) in
    ap (λ ys. ys ++ number ∷ []) successive
    ∙ ap (λ m. range_with_len x (length run) ++ m ∷ []) is
    ∙ sym (range-more x (length run))
    ∙ sym (ap (range_with_len x) count)

-- a run that grew by a number is still in order, if the number is the first one plus the length
pub successive-grown : (old new : List ℕ) (count number : ℕ) → AreSuccessive old → count ≡ length old → count < length new
    → (length old < length new → new ≡ old ++ number ∷ []) → number ≡ get_or new 0 0 + count → AreSuccessive new
successive-grown old new count number successive is longer grows at =
    let made = grows (omega (arith, is, longer)) in
    subst AreSuccessive (sym made)
    (successive-more old number successive (at ∙ ap (λ n. get_or new 0 0 + n) is ∙ ap (λ xs. get_or xs 0 0 + length old) made))

-- what is found by index is in a part of the list
part-found : {X : Type 0} (xs : List X) (start end k : ℕ) → end ≤ length xs
    → slice_get (slice_range xs start end) k ≡ option_and_then (slice_get xs) (slice_get (range_with_len start (end - start)) k)
part-found xs start end k within =
    let n = end - start in
    let numbers = length-range_with_len start n in
    let part = length-between xs start end within in
    elim (slice_get_cases (slice_range xs start end) k).1 [
      | inl there ↦
          let below : k < n = omega (arith, part, there.1) in
          there.2
          ∙ ap Some (sym there.3 ∙ get_or-between xs start end k there.0 (omega arith))
          ∙ sym (slice_get-get_or xs (start + k) there.0 (omega arith))
          ∙ sym (ap (option_and_then (slice_get xs)) (slice_get-get_or (range_with_len start n) k 0 (omega (arith, numbers))
          ∙ ap Some (get_or-range_with_len start n k 0 below)))
      | inr past ↦
          past.1 ∙ sym (ap (option_and_then (slice_get xs)) (slice_get_past (range_with_len start n) k (omega (arith, numbers, part, past.0))))
    ]

empty-none : {K X : Type 0} (test : K → Bool) (entries : List (K × X)) → length entries ≡ 0 → lookup test entries ≡ None
empty-none test [] empty = refl
empty-none test (entry ∷ entries) empty = let none : suc (length entries) ≡ 0 = empty in absurd (omega arith)

or_none : {X : Type 0} (o : Option X) → option_or o None ≡ o
or_none None = refl
or_none (Some x) = refl

-- what a map without others has by index, if its run follows each other, is in a part of the list
pub span-found : {X : Type 0} (map : RunMap ℕ) (xs : List X) (start end column : ℕ) → AreSuccessive map.run.items
    → start ≡ get_or map.run.items 0 0 → end ≡ start + length map.run.items → end ≤ length xs → length map.others.entries ≡ 0
    → in_dense map.first (slice_range xs start end) column ≡ option_and_then (slice_get xs) (value_in map column)
span-found map xs start end column successive first last within empty =
    let run = map.run.items in
    let k = column - map.first in
    let find : Option ℕ → Option _ = option_and_then (slice_get xs) in
    let count : end - start ≡ length run = omega (arith, last) in
    let same = ap (range_with_len start) count ∙ ap (λ n. range_with_len n (length run)) first ∙ sym successive in
    let none : in_others map column ≡ None = empty-none _ map.others.entries empty in
    elim (nat_lt column map.first) as (λ t. (if t then None else slice_get (slice_range xs start end) k)
    ≡ find (if t then None else slice_get run k)) [
      | true ↦ refl
      | false ↦ part-found xs start end k within ∙ ap (λ numbers. find (slice_get numbers k)) same
    ]
    ∙ ap find (sym (ap (option_or (in_run map column)) none ∙ or_none (in_run map column)))
