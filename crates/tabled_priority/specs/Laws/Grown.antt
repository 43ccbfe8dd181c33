-- Grown lists, with one more step at the beginning.
use Rattle.std.proofs.Common.{◌≡◌, ◌≢◌, ℕ, ◌+◌, ◌<◌, ◌≤◌, Bool, true, false, cond, not, List, []}
use Rattle.std.proofs.Common.{◌∷◌, length, sum, max, refl, sym, ap, ◌∙◌, subst, arith, ⊎_elim, suc}
use Rattle.std.proofs.Common.{length-set, nat_lt, if◌then◌else◌}
use Rattle.std.proofs.lemmas.List.{get_or-set_same, get_or-set_other}
use Rattle.std.proofs.lemmas.List.Sums.{sum_by-set, sum_by-cons}
use Rattle.std.proofs.lemmas.Bool.{cases_lt, cases_eq, cases_Bool, ne_eqb, eq-eqb}
use Rattle.std.proofs.lemmas.Bool.Decides.{nat_tests}
use Rattle.tabled_priority.specs.Permitted.{at, raised}
use Rattle.tabled_priority.specs.Shrunk.{ceiling, start, place_after, is_met}
use Rattle.tabled_priority.specs.Peak.{IsOutermost, IsGreatest, IsLeast, IsNext}
use Rattle.tabled_priority.specs.Grown.{added, IsNoneSmaller, IsGrownFrom, IsGrownAt, IsSideGrown, IsMaxGrown, IsMinGrown, IsRoundGrown}
use Rattle.tabled_priority.specs.Laws.Permitted.{in_range}
use Rattle.tabled_priority.specs.Laws.Shrunk.{sides, lt-sum, level-le-ceiling, at-le-sum, before, before-le}
use Rattle.tabled_priority.specs.Laws.Round.{start-le, start-place_after}

pub record IsRaised (i : ℕ) (old new : List ℕ) : Type 0 where
  pub here : at new i ≡ at old i + 1
  pub there : (j : ℕ) → j ≢ i → at new j ≡ at old j
  pub same_length : length new ≡ length old
  pub total : sum new ≡ sum old + 1

pub IsRaised-raised : (xs : List ℕ) (i k : ℕ) → k < at xs i → IsRaised i xs (raised xs i)
IsRaised-raised xs i k h = record {
  here = get_or-set_same xs i (at xs i + 1) 0 (in_range xs i k h);
  there = λ j ne. get_or-set_other xs i j (at xs i + 1) 0 ne;
  same_length = length-set xs i (at xs i + 1);
  total = let e = sum_by-set (λ x. x) xs i (at xs i + 1) 0 (in_range xs i k h) in omega arith;
}

pub le-raised : (i : ℕ) (old new : List ℕ) → IsRaised i old new → (j : ℕ) → at old j ≤ at new j
le-raised i old new l j = ⊎_elim (λ e. rw e (let here = l.here in omega arith))
    (λ ne. let e = l.there j ne in omega arith) (cases_eq j i)

pub added-some : (xs : List ℕ) (by i : ℕ) → 0 < at xs i → added xs by ≡ by
added-some xs by i h = let s = at-le-sum xs i in ap (λ b. cond b 0 by) (ne_eqb (sum xs) 0 (λ z. omega arith))

pub IsNoneSmaller-self : (xs : List ℕ) → IsNoneSmaller xs xs
IsNoneSmaller-self xs = record { same_length = refl; least = λ i. omega arith; zeros = λ i h. h }

-- one more is added to a value that isn't zero
pub IsNoneSmaller-raised : (old xs : List ℕ) (i : ℕ) → 0 < at xs i → IsNoneSmaller old xs → IsNoneSmaller old (raised xs i)
IsNoneSmaller-raised old xs i h k =
    let l = IsRaised-raised xs i 0 h in
    record {
      same_length = l.same_length ∙ k.same_length;
      least = λ j. let a = k.least j in let b = le-raised i xs (raised xs i) l j in omega arith;
      zeros = λ j z. let e = k.zeros j z in l.there j (λ q. let p : 0 < at xs j = subst (λ x. 0 < at xs x) (sym q) h in omega arith) ∙ e;
    }

-- nothing is added of nothing, and where all values are zero
pub added-nothing : (xs : List ℕ) → added xs 0 ≡ 0
added-nothing xs = grind (arith, nat_tests)

pub added-none : (xs : List ℕ) (by : ℕ) → ((i : ℕ) → at xs i ≤ 0) → added xs by ≡ 0
added-none xs by h = ap (λ b. cond b 0 by) (eq-eqb (sum xs) 0 (zero_sum xs h))
  where
    zero_sum : (xs : List ℕ) → ((i : ℕ) → at xs i ≤ 0) → sum xs ≡ 0
    zero_sum [] h = refl
    zero_sum (x ∷ xs) h = let a = h 0 in let r = zero_sum xs (λ i. h (suc i)) in omega (arith, sum_by-cons (λ (z : ℕ). z) x xs)

-- then the list may stay
pub IsGrownFrom-still : (xs : List ℕ) (by : ℕ) → added xs by ≡ 0 → IsGrownFrom xs by xs
IsGrownFrom-still xs by z = record { kept = IsNoneSmaller-self xs; total = omega arith }

pub IsGrownFrom-step : (xs : List ℕ) (i by : ℕ) (new : List ℕ) → 0 < at xs i → IsGrownFrom (raised xs i) by new → IsGrownFrom xs (by + 1) new
IsGrownFrom-step xs i by new h t =
    let l = IsRaised-raised xs i 0 h in
    record {
      kept = record {
        same_length = t.kept.same_length ∙ l.same_length;
        least = λ j. let a = t.kept.least j in let b = le-raised i xs (raised xs i) l j in omega arith;
        zeros = λ j z. t.kept.zeros j (l.there j (λ e. let p : 0 < at xs j = subst (λ k. 0 < at xs k) (sym e) h in omega arith) ∙ z);
      };
      total = let here = l.here in let a = added-some (raised xs i) by i (omega arith) in
          let b = added-some xs (by + 1) i h in let c = t.total in let d = l.total in omega arith;
    }

-- if nothing is added, the list is the old one
same_grown : (old : List ℕ) (by : ℕ) (new : List ℕ) → IsGrownFrom old by new → added old by ≡ 0 → (i : ℕ) → at new i ≡ at old i
same_grown old by new t z i = ⊎_elim
    (λ less. let s = lt-sum old new i (sym t.kept.same_length) t.kept.least less in let e = t.total in absurd (omega arith))
    (λ ge. let m = t.kept.least i in omega arith) (cases_lt (at old i) (at new i))

-- ---- all is added at one index
pub IsGrownAt-still : (P : List ℕ → ℕ → Type 0) (xs : List ℕ) (by : ℕ) → added xs by ≡ 0 → IsGrownAt P xs by xs
IsGrownAt-still P xs by z = record {
  grows = IsGrownFrom-still xs by z;
  place = 0;
  named = λ some. absurd (omega arith);
  others = λ i _. refl;
}

IsGrownAt-step : (P : List ℕ → ℕ → Type 0) (xs : List ℕ) (i by : ℕ) (new : List ℕ) → 0 < at xs i → P xs i
    → ((j : ℕ) → P (raised xs i) j → j ≡ i) → IsGrownAt P (raised xs i) by new → IsGrownAt P xs (by + 1) new
IsGrownAt-step P xs i by new h p one s =
    let l = IsRaised-raised xs i 0 h in
    record {
      grows = IsGrownFrom-step xs i by new h s.grows;
      place = i;
      named = λ _. p;
      others = λ j ne. ⊎_elim
          (λ some. s.others j (λ e. ne (e ∙ one s.place (s.named some))) ∙ l.there j ne)
          (λ none. same_grown (raised xs i) by new s.grows (omega arith) j ∙ l.there j ne)
          (cases_lt 0 (added (raised xs i) by));
    }

pub IsSideGrown-step : (right : Bool) (xs : List ℕ) (i by : ℕ) (new : List ℕ)
    → IsOutermost right xs [] i → IsSideGrown right (raised xs i) by new
    → IsSideGrown right xs (by + 1) new
IsSideGrown-step right xs i by new g s =
    let h : 0 < at xs i = g.above in
    let l = IsRaised-raised xs i 0 h in
    let here = l.here in
    IsGrownAt-step (λ v. IsOutermost right v []) xs i by new h g (λ j q. ⊎_elim
    (λ e. e) (λ ne. let e = l.there j ne in ⊎_elim
    (λ first. let a = g.first j first in let b : 0 < at (raised xs i) j = q.above in
    absurd (omega arith))
    (λ after. let a = q.first i after in absurd (omega arith)) (sides right i j ne))
    (cases_eq j i)) s

pub IsMaxGrown-step : (right : Bool) (xs : List ℕ) (i by : ℕ) (new : List ℕ) → IsGreatest right xs [] i
    → IsMaxGrown right (raised xs i) by new → IsMaxGrown right xs (by + 1) new
IsMaxGrown-step right xs i by new g s =
    let h : 0 < at xs i = g.above in
    let l = IsRaised-raised xs i 0 h in
    let here = l.here in
    IsGrownAt-step (λ v. IsGreatest right v []) xs i by new h g (λ j q. ⊎_elim
    (λ e. e) (λ ne. let e = l.there j ne in let b : 0 < at (raised xs i) j = q.above in
    let a = g.most j (omega arith) in let c = q.most i (omega arith) in absurd (omega arith)) (cases_eq j i)) s

-- ---- Min
pub IsMinGrown-still : (right : Bool) (xs : List ℕ) (by : ℕ) → added xs by ≡ 0 → IsMinGrown right xs by xs
IsMinGrown-still right xs by z = record {
  grows = IsGrownFrom-still xs by z;
  level = 0;
  place = 0;
  raised = λ i h. let b = level-le-ceiling (not right) 0 0 i in omega (arith, b.1);
}

-- a value with one more added at i first: where the floor raises i further, and where only i has gained one
floor_above : (i j v w new c : ℕ) → (j ≡ i → (w ≡ v + 1) × (v < c)) → (j ≢ i → w ≡ v) → new ≡ max w c → new ≡ max v c
floor_above i j v w new c own other h = grind arith

floor_own : (right : Bool) (level p i j v w new height : ℕ) → (j ≡ i → (w ≡ v + 1) × (v ≡ height)) → (j ≢ i → w ≡ v)
    → (j ≢ i → height ≤ v) → (j ≢ i → height ≡ v → (if right then nat_lt j i else nat_lt i j) ≡ true) → ceiling (not right) level p i ≤ height
    → new ≡ max w (ceiling (not right) level p j) → new ≡ max v (ceiling (not right) height (if right then i else i + 1) j)
floor_own true level p i j v w new height own other least side low h = grind (arith, nat_tests)
floor_own false level p i j v w new height own other least side low h = grind (arith, nat_tests)

-- an index after the smallest has a greater value, or is on its side
least-side : (right : Bool) (x y i j : ℕ) → before right x y i j ≡ true → x ≡ y → (if right then nat_lt j i else nat_lt i j) ≡ true
least-side right x y i j h e = grind (arith, nat_tests)

pub IsMinGrown-step : (right : Bool) (xs : List ℕ) (i by : ℕ) (new : List ℕ) → IsLeast right xs [] i
    → IsMinGrown right (raised xs i) by new → IsMinGrown right xs (by + 1) new
IsMinGrown-step right xs i by new g s =
    let h : 0 < at xs i = g.above in
    let l = IsRaised-raised xs i 0 h in
    let t = IsGrownFrom-step xs i by new h s.grows in
    let was : (j : ℕ) → 0 < at xs j → at new j ≡ max (at (raised xs i) j) (ceiling (not right) s.level s.place j) =
    λ j pos. s.raised j (let m = le-raised i xs (raised xs i) l j in omega arith) in
    ⊎_elim
    (λ above. record {
      grows = t;
      level = s.level;
      place = s.place;
      raised = λ j pos. floor_above i j (at xs j) (at (raised xs i) j) (at new j) (ceiling (not right) s.level s.place j)
          (λ e. subst (λ k. (at (raised xs i) k ≡ at xs k + 1) × (at xs k < ceiling (not right) s.level s.place k)) (sym e) (l.here, above))
          (l.there j) (was j pos);
    })
    (λ low. record {
      grows = t;
      level = at xs i;
      place = if right then i else i + 1;
      raised = λ j pos. floor_own right s.level s.place i j (at xs j) (at (raised xs i) j) (at new j) (at xs i)
          (λ e. subst (λ k. (at (raised xs i) k ≡ at xs k + 1) × (at xs k ≡ at xs i)) (sym e) (l.here, refl))
          (l.there j) (λ ne. before-le right (at xs i) (at xs j) i j (g.first j ne pos))
          (λ ne e. least-side right (at xs i) (at xs j) i j (g.first j ne pos) e) low (was j pos);
    })
    (cases_lt (at xs i) (ceiling (not right) s.level s.place i))

-- ---- round the list
pub IsRoundGrown-still : (kept : ℕ) (xs : List ℕ) (by : ℕ) → added xs by ≡ 0 → IsRoundGrown kept xs by xs kept
IsRoundGrown-still kept xs by z = record {
  grows = IsGrownFrom-still xs by z;
  rounds = 0;
  last = 0;
  stays = λ _. refl;
  moves = λ some. absurd (omega arith);
  gains = λ i l some. absurd (omega arith);
}

-- the gains with one more added at i first
gain_own : (n s i j r v w new : ℕ) → i < n → j < n → (j ≡ i → w ≡ v + 1) → (j ≢ i → w ≡ v) → (j ≢ i → is_met s i j ≡ true → v ≤ 0) → 0 < v
    → new ≡ w + (if is_met (place_after n i) i j then r + 1 else r) → new ≡ v + (if is_met s i j then r + 1 + 1 else r + 1)
gain_own n s i j r v w new a b own other idle pos h = grind (arith, nat_tests)

gain_other : (n s i p j r v w new : ℕ) → s < n → i < n → p < n → j < n → p ≢ i → is_met s i p ≡ false → (j ≡ i → w ≡ v + 1)
    → (j ≢ i → w ≡ v) → (j ≢ i → is_met s i j ≡ true → v ≤ 0) → 0 < v
    → new ≡ w + (if is_met (place_after n i) p j then r + 1 else r) → new ≡ v + (if is_met s p j then r + 1 else r)
gain_other n s i p j r v w new a b c d ne unmet own other idle pos h = grind (arith, nat_tests)

gain_last : (s i j v new : ℕ) → (j ≡ i → new ≡ v + 1) → (j ≢ i → new ≡ v) → (j ≢ i → is_met s i j ≡ true → v ≤ 0) → 0 < v
    → new ≡ v + (if is_met s i j then 1 else 0)
gain_last s i j v new own other idle pos = grind (arith, nat_tests)

pub IsRoundGrown-step : (kept : ℕ) (xs : List ℕ) (i by : ℕ) (new : List ℕ) (kept' : ℕ) → IsNext kept xs [] i
    → IsRoundGrown (place_after (length xs) i) (raised xs i) by new kept' → IsRoundGrown kept xs (by + 1) new kept'
IsRoundGrown-step kept xs i by new kept' g s =
    let n = length xs in
    let h : 0 < at xs i = g.above in
    let l = IsRaised-raised xs i 0 h in
    let inside : i < n = in_range xs i 0 h in
    let s₀ = start kept n in
    let s₀_in : s₀ < n = start-le kept n (omega arith) in
    let len = l.same_length in
    let started : start (place_after n i) (length (raised xs i)) ≡ place_after n i =
    ap (start (place_after n i)) len ∙ start-place_after n i (omega arith) in
    let t = IsGrownFrom-step xs i by new h s.grows in
    let some_now = added-some xs (by + 1) i h in
    let some_then = added-some (raised xs i) by i (let e = l.here in omega arith) in
    let own = λ (j : ℕ) (e : j ≡ i). subst (λ k. at (raised xs i) k ≡ at xs k + 1) (sym e) l.here in
    let more = λ (j : ℕ). le-raised i xs (raised xs i) l j in
    ⊎_elim
    (λ some.
    let p = s.last in
    let moved = s.moves some in
    let moves : kept' ≡ place_after n p = moved.1 ∙ ap (λ k. place_after k p) len in
    let gain : (j : ℕ) → j < n → 0 < at xs j → at new j ≡ at (raised xs i) j + cond (is_met (place_after n i) p j) (s.rounds + 1) s.rounds =
    λ j in' pos. subst (λ k. at new j ≡ at (raised xs i) j + cond (is_met k p j) (s.rounds + 1) s.rounds) started
    (s.gains j (omega arith) some (let m = more j in omega arith)) in
    ⊎_elim
    (λ here. record {
      grows = t;
      rounds = s.rounds + 1;
      last = i;
      stays = λ z. absurd (omega arith);
      moves = λ _. (h, moves ∙ ap (place_after n) here);
      gains = λ j in' _ pos. gain_own n s₀ i j s.rounds (at xs j) (at (raised xs i) j) (at new j) inside in' (own j) (l.there j) (g.passed j in')
          pos (subst (λ k. at new j ≡ at (raised xs i) j + cond (is_met (place_after n i) k j) (s.rounds + 1) s.rounds) here (gain j in' pos));
    })
    (λ other.
    let e_p = l.there p other in
    let p_pos : 0 < at xs p = let a = moved.0 in omega arith in
    let p_in : p < n = in_range xs p 0 p_pos in
    record {
      grows = t;
      rounds = s.rounds;
      last = p;
      stays = λ z. absurd (omega arith);
      moves = λ _. (p_pos, moves);
      gains = λ j in' _ pos. gain_other n s₀ i p j s.rounds (at xs j) (at (raised xs i) j) (at new j) s₀_in inside p_in in' other
          (⊎_elim (λ met. let z = g.passed p p_in other met in absurd (omega arith)) (λ no. no) (cases_Bool (is_met s₀ i p)))
          (own j) (l.there j) (g.passed j in') pos (gain j in' pos);
    })
    (cases_eq s.last i))
    (λ nothing.
    let same = same_grown (raised xs i) by new s.grows (omega arith) in
    record {
      grows = t;
      rounds = 0;
      last = i;
      stays = λ z. absurd (omega arith);
      moves = λ _. (h, s.stays (omega arith));
      gains = λ j in' _ pos. gain_last s₀ i j (at xs j) (at new j) (λ e. same j ∙ own j e) (λ ne. same j ∙ l.there j ne) (g.passed j in') pos;
    })
    (cases_lt 0 (added (raised xs i) by))
