-- One step of shrinking: a value above its minimum loses one.
use Rattle.std.proofs.Common.{◌≡◌, ℕ, ◌+◌, ◌-◌, ◌<◌, ◌≤◌, List, length, sum, min, refl, sym, ap, ◌∙◌, subst, arith, ⊎_elim, ◌≢◌, length-set}
use Rattle.std.proofs.lemmas.List.{get_or-set_same, get_or-set_other, get_or_past}
use Rattle.std.proofs.lemmas.List.Sums.{sum_by-set}
use Rattle.std.proofs.lemmas.Bool.{cases_lt, cases_eq}
use Rattle.tabled_priority.specs.Laws.Sums.{sum_below-less, sum_below-zero}
use Rattle.tabled_priority.specs.Sums.{sum_below}
use Rattle.tabled_priority.specs.Permitted.{at, low, lowered, spare, spare_total, taken, IsPermitted, IsTakenFrom}

pub in_range : (xs : List ℕ) (i k : ℕ) → k < at xs i → i < length xs
in_range xs i k h = ⊎_elim (λ l. l) (λ past. let e = get_or_past xs i 0 past in absurd (omega arith)) (cases_lt i (length xs))

-- the old list and the one with one taken, index by index
pub record IsLowered (i : ℕ) (old new : List ℕ) : Type 0 where
  pub here : at new i + 1 ≡ at old i
  pub there : (j : ℕ) → j ≢ i → at new j ≡ at old j

pub IsLowered-lowered : (xs : List ℕ) (i k : ℕ) → k < at xs i → IsLowered i xs (lowered xs i)
IsLowered-lowered xs i k h = record {
  here = let e = get_or-set_same xs i (at xs i - 1) 0 (in_range xs i k h) in omega arith;
  there = λ j ne. get_or-set_other xs i j (at xs i - 1) 0 ne;
}

pub sum-lowered : (xs : List ℕ) (i k : ℕ) → k < at xs i → sum (lowered xs i) + 1 ≡ sum xs
sum-lowered xs i k h = let e = sum_by-set (λ x. x) xs i (at xs i - 1) 0 (in_range xs i k h) in omega arith

pub spare_total-lowered : (xs mins : List ℕ) (i : ℕ) → at mins i < at xs i → spare_total (lowered xs i) mins + 1 ≡ spare_total xs mins
spare_total-lowered xs mins i h =
    let l = IsLowered-lowered xs i (at mins i) h in
    let here = l.here in
    ap (λ n. sum_below (spare (lowered xs i) mins) n + 1) (length-set xs i (at xs i - 1))
    ∙ sum_below-less (spare xs mins) (spare (lowered xs i) mins) (length xs) i 1 (in_range xs i (at mins i) h)
    (omega arith) (λ j ne. ap (λ x. x - at mins j) (l.there j ne))

-- low limits stay if one is taken from a value above its minimum
pub low-lowered : (old mins new : List ℕ) (i : ℕ) → at mins i < at old i → IsLowered i old new → (j : ℕ) → low new mins j ≡ low old mins j
low-lowered old mins new i h l j = ⊎_elim (λ e. rw e (let here = l.here in omega arith))
    (λ ne. ap (λ x. min x (at mins j)) (l.there j ne)) (cases_eq j i)

pub le-lowered : (i : ℕ) (old new : List ℕ) → IsLowered i old new → (j : ℕ) → at new j ≤ at old j
le-lowered i old new l j = ⊎_elim (λ e. rw e (let here = l.here in omega arith))
    (λ ne. let e = l.there j ne in omega arith) (cases_eq j i)

-- ---- what is taken
-- if nothing is taken, the list may stay
pub IsTakenFrom-still : (xs mins : List ℕ) (by : ℕ) → taken xs mins by ≡ 0 → IsTakenFrom xs mins by xs
IsTakenFrom-still xs mins by z = record {
  permitted = record { same_length = refl; least = λ i. omega arith; most = λ i. omega arith };
  total = omega arith;
}

-- nothing is taken of nothing, and where no value is above its minimum
pub taken-nothing : (xs mins : List ℕ) → taken xs mins 0 ≡ 0
taken-nothing xs mins = omega arith

pub taken-none : (xs mins : List ℕ) (by : ℕ) → ((i : ℕ) → at xs i ≤ at mins i) → taken xs mins by ≡ 0
taken-none xs mins by h =
    let e = sum_below-zero (spare xs mins) (length xs) (λ i _. let a = h i in omega arith) in omega arith

pub IsTakenFrom-none : (xs mins : List ℕ) → IsTakenFrom xs mins 0 xs
IsTakenFrom-none xs mins = IsTakenFrom-still xs mins 0 (taken-nothing xs mins)

pub IsTakenFrom-done : (xs mins : List ℕ) (by : ℕ) → ((i : ℕ) → at xs i ≤ at mins i) → IsTakenFrom xs mins by xs
IsTakenFrom-done xs mins by h = IsTakenFrom-still xs mins by (taken-none xs mins by h)

pub IsTakenFrom-step : (xs mins : List ℕ) (i by : ℕ) (new : List ℕ) → at mins i < at xs i
    → IsTakenFrom (lowered xs i) mins by new → IsTakenFrom xs mins (by + 1) new
IsTakenFrom-step xs mins i by new h t =
    let l = IsLowered-lowered xs i (at mins i) h in
    record {
      permitted = record {
        same_length = t.permitted.same_length ∙ length-set xs i (at xs i - 1);
        least = λ j. let a = t.permitted.least j in let b = low-lowered xs mins (lowered xs i) i h l j in omega arith;
        most = λ j. let a = t.permitted.most j in let b = le-lowered i xs (lowered xs i) l j in omega arith;
      };
      total = let a = t.total in let b = sum-lowered xs i (at mins i) h in let c = spare_total-lowered xs mins i h in omega arith;
    }

pub IsPermitted-lowered : (old mins xs : List ℕ) (i : ℕ) → at mins i < at xs i → IsPermitted old mins xs → IsPermitted old mins (lowered xs i)
IsPermitted-lowered old mins xs i h p =
    let l = IsLowered-lowered xs i (at mins i) h in
    let here = l.here in
    record {
      same_length = length-set xs i (at xs i - 1) ∙ p.same_length;
      least = λ j. ⊎_elim (λ e. subst (λ k. low old mins k ≤ at (lowered xs i) k) (sym e) (omega arith))
          (λ ne. let a = l.there j ne in let b = p.least j in omega arith) (cases_eq j i);
      most = λ j. let a = le-lowered i xs (lowered xs i) l j in let b = p.most j in omega arith;
    }
