-- A list that is cut at a level has the least greatest entry, one raised to a level the greatest least.
use Rattle.tabled_priority.proofs.Names.{Bool, IsMaxShrunk, IsMinGrown, List, [], arith, at, cases_lt, suc, sym, zero, ℕ, ⊎_elim, ◌∙◌, ◌∷◌}
use Rattle.tabled_priority.proofs.Names.{◌≤◌}
use Rattle.std.proofs.Common.{not}
use Rattle.tabled_text.specs.Measure.{greatest}
use Rattle.tabled_priority.specs.Laws.Shrunk.{lt-sum, level-le-ceiling}
use Rattle.tabled_priority.specs.Least.{HasLeastGreatest, IsLevel, HasGreatestLeast}

pub at-le-greatest : (xs : List ℕ) (i : ℕ) → at xs i ≤ greatest xs
at-le-greatest [] i = omega arith
at-le-greatest (x ∷ xs) zero = omega arith
at-le-greatest (x ∷ xs) (suc i) = let r = at-le-greatest xs i in omega arith

pub greatest-le : (xs : List ℕ) (k : ℕ) → ((i : ℕ) → at xs i ≤ k) → greatest xs ≤ k
greatest-le [] k h = omega arith
greatest-le (x ∷ xs) k h = let a = h 0 in let r = greatest-le xs k (λ i. h (suc i)) in omega arith

-- were an entry of a level list above all of another list with its sum, that would be nowhere above
-- the level list, and below it there
pub HasLeastGreatest-from_level : (old mins new : List ℕ) → IsLevel old mins new → HasLeastGreatest old mins new
HasLeastGreatest-from_level old mins new s = record {
  permitted = s.permitted;
  least = λ other p e. greatest-le new (greatest other) (λ i. ⊎_elim
      (λ higher.
      let g = at-le-greatest other i in
      let floor = p.least i in
      let top = s.permitted.most i in
      let flat = s.flat i in
      let below : (j : ℕ) → at other j ≤ at new j = λ j.
      let b = at-le-greatest other j in
      let m = p.most j in
      let n = s.permitted.most j in
      ⊎_elim (λ lowered. let f = flat j (omega arith) lowered in omega arith) (λ whole. omega arith) (cases_lt (at new j) (at old j)) in
      let less = lt-sum other new i (p.same_length ∙ sym s.permitted.same_length) below (omega arith) in
      absurd (omega arith))
      (λ le. le) (cases_lt (greatest other) (at new i)));
}

pub IsLevel-from_max : (right : Bool) (old mins : List ℕ) (by : ℕ) (new : List ℕ) → IsMaxShrunk right old mins by new → IsLevel old mins new
IsLevel-from_max right old mins by new s = record {
  permitted = s.takes.permitted;
  flat = λ i j above lowered.
      let c = s.cut i in let d = s.cut j in
      let l = level-le-ceiling right s.level s.place i in let m = level-le-ceiling right s.level s.place j in
      omega (arith, l.1, m.0);
}

-- were a raised entry below a number that no entry of another list with its sum is below, the list
-- would be nowhere above the other, and below it there
pub HasGreatestLeast-from_min : (right : Bool) (old : List ℕ) (by : ℕ) (new : List ℕ) → IsMinGrown right old by new → HasGreatestLeast old new
HasGreatestLeast-from_min right old by new s = record {
  kept = s.grows.kept;
  greatest = λ other k more e all i pos. ⊎_elim
      (λ lower.
      let c = s.raised i pos in
      let l = level-le-ceiling (not right) s.level s.place i in
      let below : (j : ℕ) → at new j ≤ at other j = λ j. ⊎_elim
      (λ p. let d = s.raised j p in let m = level-le-ceiling (not right) s.level s.place j in let a = all j p in
      let b = more.least j in omega (arith, l.0, m.1))
      (λ z. let d = s.grows.kept.zeros j (omega arith) in omega arith) (cases_lt 0 (at old j)) in
      let a = all i pos in
      let less = lt-sum new other i (s.grows.kept.same_length ∙ sym more.same_length) below (omega arith) in
      absurd (omega arith))
      (λ ge. ge) (cases_lt (at new i) k);
}
