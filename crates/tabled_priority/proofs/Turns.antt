-- Turns over the indices of a list, from one side.
use Rattle.tabled_priority.proofs.Names.{Bool, IsBefore, arith, cases_eq, false, inl, inr, place_at, true, ℕ, ⊎_elim, ◌+◌, ◌-◌, ◌<◌, ◌≡◌}
use Rattle.tabled_priority.proofs.Names.{◌≢◌, ◌≤◌, ◌⊎◌}

pub place_at-lt : (right : Bool) (count turn : ℕ) → turn < count → place_at right count turn < count
place_at-lt true count turn h = omega arith
place_at-lt false count turn h = h

-- j was met in the turns before this one, or is past the end
abbrev pub IsPassed : Bool → ℕ → ℕ → ℕ → Type 0
IsPassed true count turn j = count ≤ j + turn
IsPassed false count turn j = j < turn

-- what comes before a turn's index was met
pub passed-before : (right : Bool) (count turn j : ℕ) → turn < count
    → IsBefore right j (place_at right count turn) → IsPassed right count turn j
passed-before true count turn j h b = omega arith
passed-before false count turn j h b = omega arith

-- after a turn its index was met, too
pub passed-more : (right : Bool) (count turn j : ℕ) → turn < count → IsPassed right count (turn + 1) j
    → (j ≡ place_at right count turn) ⊎ (IsPassed right count turn j × (j ≢ place_at right count turn))
passed-more true count turn j h p = ⊎_elim (λ e. inl e)
    (λ ne. inr ((let q : count ≤ j + turn = omega arith in q), ne)) (cases_eq j (count - 1 - turn))
passed-more false count turn j h p = ⊎_elim (λ e. inl e)
    (λ ne. inr ((let q : j < turn = omega arith in q), ne)) (cases_eq j turn)

pub passed-all : (right : Bool) (count j : ℕ) → j < count → IsPassed right count count j
passed-all true count j h = omega arith
passed-all false count j h = h

-- before the first turn only what is past the end
pub passed-none : (right : Bool) (count j : ℕ) → IsPassed right count 0 j → count ≤ j
passed-none true count j p = omega arith
passed-none false count j p = absurd (omega arith)

-- j is met in this turn or a later one
abbrev pub IsAhead : Bool → ℕ → ℕ → ℕ → Type 0
IsAhead true count turn j = j + turn < count
IsAhead false count turn j = turn ≤ j

pub ahead-place : (right : Bool) (count turn : ℕ) → turn < count → IsAhead right count turn (place_at right count turn)
ahead-place true count turn h = omega arith
ahead-place false count turn h = omega arith

pub ahead-more : (right : Bool) (count turn j : ℕ) → turn < count → IsAhead right count (turn + 1) j
    → IsAhead right count turn j × (j ≢ place_at right count turn)
ahead-more true count turn j h a = (let q : j + turn < count = omega arith in q, λ e. omega arith)
ahead-more false count turn j h a = (let q : turn ≤ j = omega arith in q, λ e. omega arith)

-- what comes after a turn's index is met later
pub ahead-after : (right : Bool) (count turn j : ℕ) → turn < count
    → IsBefore right (place_at right count turn) j → IsAhead right count (turn + 1) j
ahead-after true count turn j h b = omega arith
ahead-after false count turn j h b = omega arith

pub before-other : (right : Bool) (i j : ℕ) → IsBefore right i j → i ≢ j
before-other true i j b e = omega arith
before-other false i j b e = omega arith
