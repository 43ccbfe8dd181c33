-- Which entries stand between their limits.
use Rattle.tabled_priority.proofs.Names.{Bool, IsMinShrunk, IsRoundShrunk, IsSideShrunk, List, arith, at, cases_eq, cases_lt, false}
use Rattle.tabled_priority.proofs.Names.{if◌then◌else◌, in_range, is_met, length, min, nat_lt, nat_tests, start, sym, taken, true, ℕ}
use Rattle.tabled_priority.proofs.Names.{⊎_elim, ◌&&◌, ◌+◌, ◌-◌, ◌<◌, ◌==◌, ◌||◌, ◌∙◌, ◌≡◌, ◌≢◌, ◌≤◌}
use Rattle.std.proofs.lemmas.Bool.{cases_Bool}
use Rattle.tabled_priority.specs.Permitted.{IsBetween, HasOneBetween, HasEvenLosses}
use Rattle.tabled_priority.specs.Shrunk.{comes_before}
use Rattle.tabled_priority.specs.Laws.Shrunk.{same_where_none, sides}

side_place : (right : Bool) (old mins : List ℕ) (by : ℕ) (new : List ℕ)
    (s : IsSideShrunk right old mins by new) (i : ℕ) → IsBetween old mins new i → i ≡ s.place
side_place right old mins by new s i b =
    let lower = b.0 in let upper = b.1 in
    ⊎_elim
    (λ e. e)
    (λ ne. ⊎_elim (λ first. let e = s.before i first in absurd (omega arith))
    (λ after. let e = s.after i after in absurd (omega arith)) (sides right s.place i ne))
    (cases_eq i s.place)

pub side_between : (right : Bool) (old mins : List ℕ) (by : ℕ) (new : List ℕ)
    → IsSideShrunk right old mins by new → HasOneBetween old mins new
side_between right old mins by new s i j a b =
    side_place right old mins by new s i a ∙ sym (side_place right old mins by new s j b)

one_first : (right : Bool) (x y i j : ℕ) → i ≢ j
    → (nat_lt x y || ((x == y) && (if right then nat_lt j i else nat_lt i j))) ≡ false
    → (nat_lt y x || ((y == x) && (if right then nat_lt i j else nat_lt j i))) ≡ true
one_first right x y i j ne h = grind (arith, nat_tests)

min_place : (right : Bool) (old mins : List ℕ) (by : ℕ) (new : List ℕ) (s : IsMinShrunk right old mins by new) (i : ℕ)
    → IsBetween old mins new i → i ≡ s.place
min_place right old mins by new s i b =
    let lower = b.0 in let upper = b.1 in
    ⊎_elim
    (λ (some : 0 < taken old mins by). ⊎_elim
    (λ here. here)
    (λ ne. ⊎_elim
    (λ first. let e = s.before i some (omega arith) first in absurd (omega arith))
    (λ not_first. let e = s.after i some (omega arith) (one_first right (at old i) (at old s.place) i s.place ne not_first) in absurd (omega arith))
    (cases_Bool (comes_before right old i s.place)))
    (cases_eq i s.place))
    (λ none. let e = same_where_none old mins by new s.takes (omega arith) i in absurd (omega arith))
    (cases_lt 0 (taken old mins by))

pub min_between : (right : Bool) (old mins : List ℕ) (by : ℕ) (new : List ℕ) → IsMinShrunk right old mins by new → HasOneBetween old mins new
min_between right old mins by new s i j a b = min_place right old mins by new s i a ∙ sym (min_place right old mins by new s j b)

lost : (v m new rounds : ℕ) (b : Bool) → m < new → new + min (v - m) (if b then rounds + 1 else rounds) ≡ v
    → (rounds ≤ v - new) × (v - new ≤ rounds + 1)
lost v m new rounds true h e = (omega arith, omega arith)
lost v m new rounds false h e = (omega arith, omega arith)

pub round_even : (kept : ℕ) (old mins : List ℕ) (by : ℕ) (new : List ℕ) (kept' : ℕ)
    → IsRoundShrunk kept old mins by new kept' → HasEvenLosses old mins new
round_even kept old mins by new kept' s i j a b = ⊎_elim
    (λ (some : 0 < taken old mins by).
    let len = s.takes.permitted.same_length in
    let i_in = in_range new i (at mins i) a in
    let j_in = in_range new j (at mins j) b in
    let x = lost (at old i) (at mins i) (at new i) s.rounds (is_met (start kept (length old)) s.last i) a (s.losses i (omega arith) some) in
    let y = lost (at old j) (at mins j) (at new j) s.rounds (is_met (start kept (length old)) s.last j) b (s.losses j (omega arith) some) in
    omega (arith, x.1, y.0))
    (λ none. let e = same_where_none old mins by new s.takes (omega arith) i in omega arith)
    (cases_lt 0 (taken old mins by))
