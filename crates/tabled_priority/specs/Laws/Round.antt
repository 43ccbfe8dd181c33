-- Lists from which one is taken at each index in turn.
use Rattle.std.proofs.Common.{◌≡◌, ℕ, ◌+◌, ◌-◌, ◌<◌, ◌≤◌, true, false, cond, if◌then◌else◌, List, length, min, refl, sym, ap, ◌∙◌, subst, arith, ⊎_elim, ◌≢◌}
use Rattle.std.proofs.lemmas.List.{length-set}
use Rattle.std.proofs.lemmas.Bool.{cases_lt, cases_eq, cases_Bool}
use Rattle.std.proofs.lemmas.Bool.Decides.{nat_tests}
use Rattle.tabled_priority.specs.Permitted.{at, spare, taken, lowered}
use Rattle.tabled_priority.specs.Shrunk.{start, place_after, is_met, IsRoundShrunk}
use Rattle.tabled_priority.specs.Peak.{IsNext}
use Rattle.tabled_priority.specs.Laws.Permitted.{IsLowered-lowered, in_range, IsTakenFrom-still}
use Rattle.tabled_priority.specs.Laws.Permitted.{IsTakenFrom-step, taken-none, taken-nothing}
use Rattle.tabled_priority.specs.Laws.Shrunk.{same_where_none, taken-step}

-- ---- indices round a list of n
pub met_itself : (s i : ℕ) → is_met s i i ≡ true
met_itself s i = grind (arith, nat_tests)

pub start-le : (kept n : ℕ) → 0 < n → start kept n < n
start-le kept n h = grind (arith, nat_tests)

pub start-place_after : (n i : ℕ) → 0 < n → start (place_after n i) n ≡ place_after n i
start-place_after n i h = grind (arith, nat_tests)

-- if nothing is taken, the list may stay
pub IsRoundShrunk-still : (kept : ℕ) (xs mins : List ℕ) (by : ℕ) → taken xs mins by ≡ 0 → IsRoundShrunk kept xs mins by xs kept
IsRoundShrunk-still kept xs mins by z = record {
  takes = IsTakenFrom-still xs mins by z;
  rounds = 0;
  last = 0;
  stays = λ _. refl;
  moves = λ some. absurd (omega arith);
  reached = λ some. absurd (omega arith);
  losses = λ i l some. absurd (omega arith);
}

pub IsRoundShrunk-none : (kept : ℕ) (xs mins : List ℕ) → IsRoundShrunk kept xs mins 0 xs kept
IsRoundShrunk-none kept xs mins = IsRoundShrunk-still kept xs mins 0 (taken-nothing xs mins)

pub IsRoundShrunk-done : (kept : ℕ) (xs mins : List ℕ) (by : ℕ) → ((i : ℕ) → at xs i ≤ at mins i) → IsRoundShrunk kept xs mins by xs kept
IsRoundShrunk-done kept xs mins by h = IsRoundShrunk-still kept xs mins by (taken-none xs mins by h)

-- the losses with one more taken at i first: where the last round ends at i, elsewhere at p, and where nothing more is taken
loss_own : (n s i j r v w m new : ℕ) → i < n → j < n → (j ≡ i → (w + 1 ≡ v) × (m < v)) → (j ≢ i → w ≡ v)
    → (j ≢ i → is_met s i j ≡ true → v ≤ m) → new + min (w - m) (if is_met (place_after n i) i j then r + 1 else r) ≡ w
    → new + min (v - m) (if is_met s i j then r + 1 + 1 else r + 1) ≡ v
loss_own n s i j r v w m new a b own other idle h = grind (arith, nat_tests)

loss_other : (n s i p j r v w m new : ℕ) → s < n → i < n → p < n → j < n → p ≢ i → is_met s i p ≡ false
    → (j ≡ i → (w + 1 ≡ v) × (m < v)) → (j ≢ i → w ≡ v) → (j ≢ i → is_met s i j ≡ true → v ≤ m)
    → new + min (w - m) (if is_met (place_after n i) p j then r + 1 else r) ≡ w
    → new + min (v - m) (if is_met s p j then r + 1 else r) ≡ v
loss_other n s i p j r v w m new a b c d ne unmet own other idle h = grind (arith, nat_tests)

loss_last : (s i j v m new : ℕ) → (j ≡ i → (new + 1 ≡ v) × (m < v)) → (j ≢ i → new ≡ v)
    → (j ≢ i → is_met s i j ≡ true → v ≤ m) → new + min (v - m) (if is_met s i j then 1 else 0) ≡ v
loss_last s i j v m new own other idle = grind (arith, nat_tests)

pub IsRoundShrunk-step : (kept : ℕ) (xs mins : List ℕ) (i by : ℕ) (new : List ℕ) (kept' : ℕ) → IsNext kept xs mins i
    → IsRoundShrunk (place_after (length xs) i) (lowered xs i) mins by new kept' → IsRoundShrunk kept xs mins (by + 1) new kept'
IsRoundShrunk-step kept xs mins i by new kept' g s =
    let n = length xs in
    let h = g.above in
    let l = IsLowered-lowered xs i (at mins i) h in
    let inside : i < n = in_range xs i (at mins i) h in
    let s₀ = start kept n in
    let s₀_in : s₀ < n = start-le kept n (omega arith) in
    let len : length (lowered xs i) ≡ n = length-set xs i (at xs i - 1) in
    let started : start (place_after n i) (length (lowered xs i)) ≡ place_after n i =
    ap (start (place_after n i)) len ∙ start-place_after n i (omega arith) in
    let t = IsTakenFrom-step xs mins i by new h s.takes in
    let taken_is = taken-step xs mins i by h in
    let own = λ (j : ℕ) (e : j ≡ i). subst (λ k. (at (lowered xs i) k + 1 ≡ at xs k) × (at mins k < at xs k)) (sym e) (l.here, h) in
    ⊎_elim
    (λ some.
    let p = s.last in
    let reached = s.reached some in
    let moves : kept' ≡ place_after n p = s.moves some ∙ ap (λ k. place_after k p) len in
    let loss = λ (j : ℕ) (in' : j < n). subst (λ k. at new j + min (spare (lowered xs i) mins j)
    (cond (is_met k p j) (s.rounds + 1) s.rounds) ≡ at (lowered xs i) j) started (s.losses j (omega arith) some) in
    ⊎_elim
    (λ here.
    let reached_i : at new i + (s.rounds + 1) ≡ at (lowered xs i) i = subst (λ k. at new k + (s.rounds + 1) ≡ at (lowered xs i) k) here reached in
    let less = l.here in
    record {
      takes = t;
      rounds = s.rounds + 1;
      last = i;
      stays = λ z. absurd (omega arith);
      moves = λ _. moves ∙ ap (place_after n) here;
      reached = λ _. omega arith;
      losses = λ j in' _. loss_own n s₀ i j s.rounds (at xs j) (at (lowered xs i) j) (at mins j) (at new j) inside in' (own j) (l.there j)
          (g.passed j in') (subst (λ k. at new j + min (spare (lowered xs i) mins j)
          (cond (is_met (place_after n i) k j) (s.rounds + 1) s.rounds) ≡ at (lowered xs i) j) here (loss j in'));
    })
    (λ other.
    let e_p = l.there p other in
    let p_in : p < n = in_range xs p 0 (omega arith) in
    let spare_p : at mins p < at xs p = let a = t.permitted.least p in omega arith in
    record {
      takes = t;
      rounds = s.rounds;
      last = p;
      stays = λ z. absurd (omega arith);
      moves = λ _. moves;
      reached = λ _. reached ∙ e_p;
      losses = λ j in' _. loss_other n s₀ i p j s.rounds (at xs j) (at (lowered xs i) j) (at mins j) (at new j) s₀_in inside p_in in' other
          (⊎_elim (λ met. let z = g.passed p p_in other met in absurd (omega arith)) (λ no. no) (cases_Bool (is_met s₀ i p)))
          (own j) (l.there j) (g.passed j in') (loss j in');
    })
    (cases_eq s.last i))
    (λ nothing.
    let same = same_where_none (lowered xs i) mins by new s.takes (omega arith) in
    record {
      takes = t;
      rounds = 0;
      last = i;
      stays = λ z. absurd (omega arith);
      moves = λ _. s.stays (omega arith);
      reached = λ _. let a = same i in let b = l.here in omega arith;
      losses = λ j in' _. loss_last s₀ i j (at xs j) (at mins j) (at new j)
          (λ e. let o = own j e in (ap (λ x. x + 1) (same j) ∙ o.0, o.1)) (λ ne. same j ∙ l.there j ne) (g.passed j in');
    })
    (cases_lt 0 (taken (lowered xs i) mins by))
