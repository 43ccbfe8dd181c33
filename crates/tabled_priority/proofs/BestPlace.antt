-- The best place so far.
use Rattle.tabled_priority.proofs.Names.{Bool, IsBefore, IsChosen, List, MatchOption, arith, at, cases_eq, cases_lt, false, if◌then◌else◌}
use Rattle.tabled_priority.proofs.Names.{in_range, length, nat_le, nat_lt, nat_tests, subst, sym, true, ℕ, ⊎_elim, ◌&&◌, ◌<◌, ◌==◌, ◌||◌}
use Rattle.tabled_priority.proofs.Names.{◌≡◌, ◌≢◌, ◌≤◌}
use Rattle.std.proofs.Common.{None, Option, Some}
use Rattle.tabled_priority.specs.declared.choice.Choice.{Choice}
use Rattle.tabled_priority.specs.declared.choice.Choice.TheVariants.{Outermost, Greatest, Least}
use Rattle.tabled_priority.specs.Peak.{NoneAbove}
use Rattle.tabled_priority.proofs.Turns.{before-other}

abbrev pub NoneAboveBelow : List ℕ → List ℕ → ℕ → Type 0
NoneAboveBelow xs mins n = (j : ℕ) → j < n → at xs j ≤ at mins j

-- a value x at i comes before a value y at j
abbrev comes : Choice → ℕ → ℕ → ℕ → ℕ → Bool
comes (Outermost right) x y i j = if right then nat_lt j i else nat_lt i j
comes (Greatest right) x y i j = nat_lt y x || ((x == y) && (if right then nat_lt j i else nat_lt i j))
comes (Least right) x y i j = nat_lt x y || ((x == y) && (if right then nat_lt j i else nat_lt i j))

pub record IsBestBelow (k : Choice) (xs mins : List ℕ) (n i : ℕ) : Type 0 where
  pub within : i < n
  pub above : at mins i < at xs i
  pub first : (j : ℕ) → j < n → j ≢ i → at mins j < at xs j → comes k (at xs i) (at xs j) i j ≡ true

outer_after : (right : Bool) (i j : ℕ) → (if right then nat_lt j i else nat_lt i j) ≡ true → IsBefore right j i → ⊥
outer_after true i j h b = grind (arith, nat_tests)
outer_after false i j h b = grind (arith, nat_tests)

-- the best of all places is the chosen one
pub best-chosen : (k : Choice) (xs mins : List ℕ) (n i : ℕ) → length xs ≤ n → IsBestBelow k xs mins n i → IsChosen k xs mins i
best-chosen (Outermost right) xs mins n i all b = record {
  above = b.above;
  first = λ j l. ⊎_elim
      (λ h. absurd (outer_after right i j (b.first j (let a = in_range xs j (at mins j) h in omega arith) (before-other right j i l) h) l))
      (λ le. le) (cases_lt (at mins j) (at xs j));
}
best-chosen (Greatest right) xs mins n i all b = record {
  above = b.above;
  most = λ j h. ⊎_elim (λ is. subst (λ m. at xs m ≤ at xs i) (sym is) (omega arith))
      (λ ne. let c = b.first j (let a = in_range xs j (at mins j) h in omega arith) ne h in grind (arith, nat_tests))
      (cases_eq j i);
  side = λ j h e. ⊎_elim (λ is. subst (λ m. (if right then nat_le m i else nat_le i m) ≡ true) (sym is) (grind (arith, nat_tests)))
      (λ ne. let c = b.first j (let a = in_range xs j (at mins j) h in omega arith) ne h in grind (arith, nat_tests))
      (cases_eq j i);
}
best-chosen (Least right) xs mins n i all b = record {
  above = b.above;
  first = λ j ne h. b.first j (let a = in_range xs j (at mins j) h in omega arith) ne h;
}

-- what comes first is above its minimum
pub IsChosen-above : (k : Choice) (xs mins : List ℕ) (i : ℕ) → IsChosen k xs mins i → at mins i < at xs i
IsChosen-above (Outermost right) xs mins i g = g.above
IsChosen-above (Greatest right) xs mins i g = g.above
IsChosen-above (Least right) xs mins i g = g.above

-- what is so of all places, found or not
pub answer : (k : Choice) (xs mins : List ℕ) (n size : ℕ) (best : Option ℕ) → length xs ≤ n
    → MatchOption best (NoneAboveBelow xs mins n) (λ b. IsBestBelow k xs mins n b × (size ≡ at xs b))
    → MatchOption best (NoneAbove xs mins) (IsChosen k xs mins)
answer k xs mins n size None all none = λ j. ⊎_elim
    (λ above. none j (let i = in_range xs j (at mins j) above in omega arith)) (λ le. le) (cases_lt (at mins j) (at xs j))
answer k xs mins n size (Some b) all best = best-chosen k xs mins n b all best.0
