-- Counts of visits.
use Rattle.tabled_priority.proofs.Names.{IsGrownFrom, IsTakenFrom, List, [], added, arith, changed, counted, length, nat_tests, refl, suc}
use Rattle.tabled_priority.proofs.Names.{taken, zero, ℕ, ◌*◌, ◌+◌, ◌∷◌, ◌≡◌, ◌≤◌}
use Rattle.tabled_priority.specs.declared.column_changes.Steps.{Steps}
use Rattle.tabled_priority.specs.Changes.{Grows, Shrinks}
use Rattle.std.proofs.Math.ListN.{set}
use Rattle.tabled_priority.specs.Visits.{IsBounded}

pub changed-self : (xs : List ℕ) → changed xs xs ≡ 0
changed-self [] = refl
changed-self (x ∷ xs) = rw (changed-self xs) (grind arith)

pub changed-le : (xs ys : List ℕ) → changed xs ys ≤ length xs
changed-le [] ys = grind arith
changed-le (x ∷ xs) [] = grind (arith, changed-le xs [])
changed-le (x ∷ xs) (y ∷ ys) = grind (arith, changed-le xs ys)

pub changed-set : (xs : List ℕ) (i y : ℕ) → changed xs (set xs i y) ≤ 1
changed-set [] i y = grind arith
changed-set (x ∷ xs) zero y = grind (arith, changed-self xs)
changed-set (x ∷ xs) (suc i) y = grind (arith, changed-set xs i y)

square-le : (c : ℕ) → c + 1 ≤ (c + 1) * (c + 1)
square-le c = search (arith)

-- a square number of visits is enough room for some passes
pub IsBounded-from : (old new : List ℕ) (before after visits : ℕ) → counted before (changed old new) ≤ after
    → after ≤ counted before visits → visits ≤ 8 * (length old + 1) * (length old + 1) → IsBounded old new before after
IsBounded-from old new before after visits a b c = record { fewest = a; most = omega arith }

-- one column was found and changed
pub IsBounded-one : (old : List ℕ) (i y before found after : ℕ) → counted before 0 ≤ found
    → found ≤ counted before (length old) → after ≡ counted found 1 → IsBounded old (set old i y) before after
IsBounded-one old i y before found after a b c =
    let s = square-le (length old) in
    IsBounded-from old (set old i y) before after (length old + 1) (let z = changed-set old i y in omega arith) (omega arith) (omega arith)

-- a whole pass
pub IsBounded-whole : (old new : List ℕ) (before after n : ℕ) → length old ≤ n → after ≡ counted before n
    → n ≤ length old → IsBounded old new before after
IsBounded-whole old new before after n a b c = IsBounded-from old new before after n (let z = changed-le old new in omega arith)
    (omega arith) (let s = square-le (length old) in omega arith)

-- a whole pass, and passes for the levels or sizes that are tried, the span and the shares
pub IsBounded-passes : (old new : List ℕ) (before first after : ℕ) → first ≡ counted before (length old) → first ≤ after
    → after ≤ counted first (length old * (4 * length old + 1) + 6 * length old) → IsBounded old new before after
IsBounded-passes old new before first after a b c =
    let le = changed-le old new in
    IsBounded-from old new before after (length old + (length old * (4 * length old + 1) + 6 * length old)) (omega arith) (omega arith) (omega arith)

-- ---- what the five priorities ensure, from the lists and the count
pub shrinking : (old mins : List ℕ) (by : ℕ) (new : List ℕ) (amount : ℕ) (before after : Steps)
    → IsTakenFrom old mins by new → amount ≡ taken old mins by → IsBounded old new before.count after.count
    → Shrinks old mins by new amount before after
shrinking old mins by new amount before after t e b =
    let s = t.total in
    record { permitted = t.permitted; total = omega arith; at_most = omega arith; visits = b }

pub growing : (old : List ℕ) (by : ℕ) (new : List ℕ) (amount : ℕ) (before after : Steps)
    → IsGrownFrom old by new → amount ≡ added old by → IsBounded old new before.count after.count
    → Grows old by new amount before after
growing old by new amount before after g e b =
    let s = g.total in
    let m = added-le old by in
    record { kept = g.kept; total = omega arith; at_most = omega arith; visits = b }
  where
    added-le : (old : List ℕ) (by : ℕ) → added old by ≤ by
    added-le old by = grind (arith, nat_tests)
