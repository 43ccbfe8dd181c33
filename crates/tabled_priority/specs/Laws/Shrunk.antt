-- Shrunk lists, with one more step at the beginning.
use Rattle.std.proofs.Common.{◌≡◌, ℕ, ◌+◌, ◌-◌, ◌<◌, ◌≤◌, Bool, true, false, List, [], ◌∷◌}
use Rattle.std.proofs.Common.{length, sum, min, max, refl, sym, ap, ◌∙◌, subst, arith, ⊎_elim, ◌⊎◌}
use Rattle.std.proofs.Common.{inl, inr, zero, suc, ◌≢◌, nat_lt, nat_le, ◌==◌, ◌||◌, ◌&&◌}
use Rattle.std.proofs.Common.{if◌then◌else◌}
use Rattle.std.proofs.lemmas.List.Sums.{get_or-le-sum_by, sum_by-cons}
use Rattle.std.proofs.lemmas.List.{get_or_past}
use Rattle.std.proofs.lemmas.Bool.{cases_lt, cases_eq, lt-ltb}
use Rattle.std.proofs.lemmas.Bool.Decides.{nat_tests}
use Rattle.tabled_priority.specs.Permitted.{at, low, taken, IsTakenFrom, lowered}
use Rattle.tabled_priority.specs.Shrunk.{IsBefore, IsSideShrunk, IsLeftShrunk, IsRightShrunk, ceiling, IsMaxShrunk, comes_before, IsMinShrunk}
use Rattle.tabled_priority.specs.Peak.{IsOutermost, IsLeftmost, IsRightmost, IsGreatest, IsLeast}
use Rattle.tabled_priority.specs.Laws.Permitted.{IsLowered-lowered, low-lowered, spare_total-lowered}
use Rattle.tabled_priority.specs.Laws.Permitted.{IsTakenFrom-still, IsTakenFrom-step}
use Rattle.tabled_priority.specs.Laws.Permitted.{taken-none, taken-nothing}

-- ---- from one side
-- of two indices one comes before the other
pub sides : (right : Bool) (i j : ℕ) → j ≢ i → IsBefore right j i ⊎ IsBefore right i j
sides true i j ne = ⊎_elim (λ l. inl l) (λ le. inr (omega arith)) (cases_lt i j)
sides false i j ne = ⊎_elim (λ l. inl l) (λ le. inr (omega arith)) (cases_lt j i)

-- of two indices the one that comes later
later : Bool → ℕ → ℕ → ℕ
later true p i = min p i
later false p i = max p i

before_later : (right : Bool) (p i j : ℕ) → IsBefore right j (later right p i)
    → IsBefore right j p ⊎ IsBefore right j i
unfolding later
before_later true p i j h = ⊎_elim (λ l. inl l) (λ past. inr (omega arith)) (cases_lt p j)
before_later false p i j h = ⊎_elim (λ l. inl l) (λ past. inr (omega arith)) (cases_lt j p)

after_later : (right : Bool) (p i j : ℕ) → IsBefore right (later right p i) j
    → IsBefore right p j × (j ≢ i)
unfolding later
after_later true p i j h = (omega arith, λ e. omega arith)
after_later false p i j h = (omega arith, λ e. omega arith)

pub IsSideShrunk-still : (right : Bool) (xs mins : List ℕ) (by : ℕ) → taken xs mins by ≡ 0
    → IsSideShrunk right xs mins by xs
IsSideShrunk-still true xs mins by z = record {
  takes = IsTakenFrom-still xs mins by z;
  place = length xs;
  before = λ i h. let e = get_or_past xs i 0 (omega arith) in omega arith;
  after = λ i h. refl;
}
IsSideShrunk-still false xs mins by z = record {
  takes = IsTakenFrom-still xs mins by z;
  place = 0;
  before = λ i h. absurd (omega arith);
  after = λ i h. refl;
}

pub IsSideShrunk-step : (right : Bool) (xs mins : List ℕ) (i by : ℕ) (new : List ℕ)
    → IsOutermost right xs mins i → IsSideShrunk right (lowered xs i) mins by new
    → IsSideShrunk right xs mins (by + 1) new
IsSideShrunk-step right xs mins i by new g s =
    let h = g.above in
    let l = IsLowered-lowered xs i (at mins i) h in
    let t = IsTakenFrom-step xs mins i by new h s.takes in
    record {
      takes = t;
      place = later right s.place i;
      before = λ j b. ⊎_elim
          (λ in'. s.before j in' ∙ low-lowered xs mins (lowered xs i) i h l j)
          (λ first. let least = t.permitted.least j in let most = t.permitted.most j in
          let none = g.first j first in omega arith)
          (before_later right s.place i j b);
      after = λ j a. let b = after_later right s.place i j a in s.after j b.0 ∙ l.there j b.1;
    }

-- of the left and the right, as a priority that is chosen at run time cites them
pub IsLeftShrunk-none : (xs mins : List ℕ) → IsLeftShrunk xs mins 0 xs
IsLeftShrunk-none xs mins = IsSideShrunk-still false xs mins 0 (taken-nothing xs mins)

pub IsLeftShrunk-done : (xs mins : List ℕ) (by : ℕ) → ((i : ℕ) → at xs i ≤ at mins i)
    → IsLeftShrunk xs mins by xs
IsLeftShrunk-done xs mins by h = IsSideShrunk-still false xs mins by (taken-none xs mins by h)

pub IsLeftShrunk-step : (xs mins : List ℕ) (i by : ℕ) (new : List ℕ) → IsLeftmost xs mins i
    → IsLeftShrunk (lowered xs i) mins by new → IsLeftShrunk xs mins (by + 1) new
IsLeftShrunk-step = IsSideShrunk-step false

pub IsRightShrunk-none : (xs mins : List ℕ) → IsRightShrunk xs mins 0 xs
IsRightShrunk-none xs mins = IsSideShrunk-still true xs mins 0 (taken-nothing xs mins)

pub IsRightShrunk-done : (xs mins : List ℕ) (by : ℕ) → ((i : ℕ) → at xs i ≤ at mins i)
    → IsRightShrunk xs mins by xs
IsRightShrunk-done xs mins by h = IsSideShrunk-still true xs mins by (taken-none xs mins by h)

pub IsRightShrunk-step : (xs mins : List ℕ) (i by : ℕ) (new : List ℕ) → IsRightmost xs mins i
    → IsRightShrunk (lowered xs i) mins by new → IsRightShrunk xs mins (by + 1) new
IsRightShrunk-step = IsSideShrunk-step true

-- ---- Max
pub at-le-sum : (xs : List ℕ) (i : ℕ) → at xs i ≤ sum xs
at-le-sum xs i = ⊎_elim (λ l. get_or-le-sum_by (λ x. x) xs i 0 l) (λ past. let e = get_or_past xs i 0 past in omega arith) (cases_lt i (length xs))

pub level-le-ceiling : (right : Bool) (level p i : ℕ) → (level ≤ ceiling right level p i) × (ceiling right level p i ≤ level + 1)
level-le-ceiling right level p i = grind (arith, nat_tests)

pub IsMaxShrunk-still : (right : Bool) (xs mins : List ℕ) (by : ℕ) → taken xs mins by ≡ 0 → IsMaxShrunk right xs mins by xs
IsMaxShrunk-still right xs mins by z = record {
  takes = IsTakenFrom-still xs mins by z;
  level = sum xs;
  place = 0;
  cut = λ i. let a = at-le-sum xs i in let b = level-le-ceiling right (sum xs) 0 i in omega arith;
}

pub IsMaxShrunk-none : (right : Bool) (xs mins : List ℕ) → IsMaxShrunk right xs mins 0 xs
IsMaxShrunk-none right xs mins = IsMaxShrunk-still right xs mins 0 (taken-nothing xs mins)

pub IsMaxShrunk-done : (right : Bool) (xs mins : List ℕ) (by : ℕ) → ((i : ℕ) → at xs i ≤ at mins i) → IsMaxShrunk right xs mins by xs
IsMaxShrunk-done right xs mins by h = IsMaxShrunk-still right xs mins by (taken-none xs mins by h)

-- a value with one taken from i first: where the ceiling lowers i further, and where only i has lost one
cut_below : (i j v w m new c : ℕ) → (j ≡ i → (w + 1 ≡ v) × (c < v)) → (j ≢ i → w ≡ v)
    → new ≡ max (min v m) (min w c) → new ≡ max (min v m) (min v c)
cut_below i j v w m new c own other h = grind arith

cut_own : (right : Bool) (level p i j v w m new height : ℕ) → (j ≡ i → (w + 1 ≡ v) × (v ≡ height)) → (j ≢ i → w ≡ v)
    → (m < v → v ≤ height) → (m < v → v ≡ height → (if right then nat_le j i else nat_le i j) ≡ true)
    → height ≤ ceiling right level p i → new ≡ max (min v m) (min w (ceiling right level p j))
    → new ≡ max (min v m) (min v (ceiling right (height - 1) (if right then i else i + 1) j))
cut_own right level p i j v w m new height own other most side high h = grind (arith, nat_tests)

pub IsMaxShrunk-step : (right : Bool) (xs mins : List ℕ) (i by : ℕ) (new : List ℕ) → IsGreatest right xs mins i
    → IsMaxShrunk right (lowered xs i) mins by new → IsMaxShrunk right xs mins (by + 1) new
IsMaxShrunk-step right xs mins i by new g s =
    let h = g.above in
    let l = IsLowered-lowered xs i (at mins i) h in
    let t = IsTakenFrom-step xs mins i by new h s.takes in
    let was = λ (j : ℕ). s.cut j ∙ ap (λ k. max k (min (at (lowered xs i) j) (ceiling right s.level s.place j)))
    (low-lowered xs mins (lowered xs i) i h l j) in
    ⊎_elim
    (λ below. record {
      takes = t;
      level = s.level;
      place = s.place;
      cut = λ j. cut_below i j (at xs j) (at (lowered xs i) j) (at mins j) (at new j) (ceiling right s.level s.place j)
          (λ e. subst (λ k. (at (lowered xs i) k + 1 ≡ at xs k) × (ceiling right s.level s.place k < at xs k)) (sym e) (l.here, below))
          (l.there j) (was j);
    })
    (λ high. record {
      takes = t;
      level = at xs i - 1;
      place = if right then i else i + 1;
      cut = λ j. cut_own right s.level s.place i j (at xs j) (at (lowered xs i) j) (at mins j) (at new j) (at xs i)
          (λ e. subst (λ k. (at (lowered xs i) k + 1 ≡ at xs k) × (at xs k ≡ at xs i)) (sym e) (l.here, refl))
          (l.there j) (g.most j) (g.side j) high (was j);
    })
    (cases_lt (ceiling right s.level s.place i) (at xs i))

-- ---- lists with the same sum
le-sum : (xs ys : List ℕ) → length xs ≡ length ys → ((i : ℕ) → at xs i ≤ at ys i) → sum xs ≤ sum ys
le-sum [] [] e h = omega arith
le-sum [] (y ∷ ys) e h = absurd (omega arith)
le-sum (x ∷ xs) [] e h = absurd (omega arith)
le-sum (x ∷ xs) (y ∷ ys) e h = let a = h 0 in let r = le-sum xs ys (omega arith) (λ i. h (suc i)) in
    omega (arith, sum_by-cons (λ (z : ℕ). z) x xs, sum_by-cons (λ (z : ℕ). z) y ys)

-- a list that is nowhere greater than another one and smaller at an index has a smaller sum
pub lt-sum : (xs ys : List ℕ) (i : ℕ) → length xs ≡ length ys → ((j : ℕ) → at xs j ≤ at ys j) → at xs i < at ys i → sum xs < sum ys
lt-sum [] [] i e h l = absurd (omega arith)
lt-sum [] (y ∷ ys) i e h l = absurd (omega arith)
lt-sum (x ∷ xs) [] i e h l = absurd (omega arith)
lt-sum (x ∷ xs) (y ∷ ys) zero e h l = let r = le-sum xs ys (omega arith) (λ i. h (suc i)) in
    omega (arith, sum_by-cons (λ (z : ℕ). z) x xs, sum_by-cons (λ (z : ℕ). z) y ys)
lt-sum (x ∷ xs) (y ∷ ys) (suc i) e h l = let a = h 0 in let r = lt-sum xs ys i (omega arith) (λ i. h (suc i)) l in
    omega (arith, sum_by-cons (λ (z : ℕ). z) x xs, sum_by-cons (λ (z : ℕ). z) y ys)

-- if nothing is taken, the list is the old one
pub same_where_none : (old mins : List ℕ) (by : ℕ) (new : List ℕ) → IsTakenFrom old mins by new → taken old mins by
    ≡ 0 → (i : ℕ) → at new i ≡ at old i
same_where_none old mins by new t z i = ⊎_elim
    (λ less. let s = lt-sum new old i t.permitted.same_length t.permitted.most less in let e = t.total in absurd (omega arith))
    (λ ge. let m = t.permitted.most i in omega arith) (cases_lt (at new i) (at old i))

pub taken-step : (xs mins : List ℕ) (i by : ℕ) → at mins i < at xs i → taken xs mins (by + 1) ≡ taken (lowered xs i) mins by + 1
taken-step xs mins i by h = let s = spare_total-lowered xs mins i h in omega arith

-- ---- Min
abbrev pub before : Bool → ℕ → ℕ → ℕ → ℕ → Bool
before right x y i j = nat_lt x y || ((x == y) && (if right then nat_lt j i else nat_lt i j))

pub before-asym : (right : Bool) (x y i j : ℕ) → before right x y i j ≡ true → before right y x j i ≡ true → ⊥
before-asym right x y i j a b = grind (arith, nat_tests)

pub before-le : (right : Bool) (x y i j : ℕ) → before right x y i j ≡ true → x ≤ y
before-le right x y i j a = grind (arith, nat_tests)

pub before-lt : (right : Bool) (x y i j : ℕ) → x < y → before right x y i j ≡ true
before-lt right x y i j h = ap (λ b. b || ((x == y) && (if right then nat_lt j i else nat_lt i j))) (lt-ltb x y h)

pub before-irrefl : (right : Bool) (x i : ℕ) → before right x x i i ≡ true → ⊥
before-irrefl right x i h = before-asym right x x i i h h

pub IsMinShrunk-still : (right : Bool) (xs mins : List ℕ) (by : ℕ) → taken xs mins by ≡ 0 → IsMinShrunk right xs mins by xs
IsMinShrunk-still right xs mins by z = record {
  takes = IsTakenFrom-still xs mins by z;
  place = 0;
  above = λ some. absurd (omega arith);
  before = λ i some. absurd (omega arith);
  after = λ i some. absurd (omega arith);
}

pub IsMinShrunk-none : (right : Bool) (xs mins : List ℕ) → IsMinShrunk right xs mins 0 xs
IsMinShrunk-none right xs mins = IsMinShrunk-still right xs mins 0 (taken-nothing xs mins)

pub IsMinShrunk-done : (right : Bool) (xs mins : List ℕ) (by : ℕ) → ((i : ℕ) → at xs i ≤ at mins i) → IsMinShrunk right xs mins by xs
IsMinShrunk-done right xs mins by h = IsMinShrunk-still right xs mins by (taken-none xs mins by h)

pub IsMinShrunk-step : (right : Bool) (xs mins : List ℕ) (i by : ℕ) (new : List ℕ) → IsLeast right xs mins i
    → IsMinShrunk right (lowered xs i) mins by new → IsMinShrunk right xs mins (by + 1) new
IsMinShrunk-step right xs mins i by new g s =
    let h = g.above in
    let l = IsLowered-lowered xs i (at mins i) h in
    let here = l.here in
    let lo = low-lowered xs mins (lowered xs i) i h l in
    let t = IsTakenFrom-step xs mins i by new h s.takes in
    -- no value above its minimum comes before i
    let none_before = λ (j : ℕ) (above : at mins j < at xs j) (b : comes_before right xs j i ≡ true). ⊎_elim
    (λ e. before-irrefl right (at xs i) i (subst (λ k. before right (at xs k) (at xs i) k i ≡ true) e b))
    (λ ne. before-asym right (at xs j) (at xs i) j i b (g.first j ne above)) (cases_eq j i) in
    let not_itself = λ (j : ℕ) (b : comes_before right xs i j ≡ true) (e : j ≡ i). before-irrefl right (at xs i) i
    (subst (λ k. before right (at xs i) (at xs k) i k ≡ true) e b) in
    ⊎_elim
    (λ some. ⊎_elim
    -- the index of the rest is i
    (λ own. record {
      takes = t;
      place = i;
      above = λ _. h;
      before = λ j _ above b. absurd (none_before j above b);
      after = λ j _ above b.
          let ne = not_itself j b in
          let e = l.there j ne in
          let le = before-le right (at xs i) (at xs j) i j b in
          s.after j some (omega arith) (subst (λ k. comes_before right (lowered xs i) k j ≡ true) (sym own)
          (before-lt right (at (lowered xs i) i) (at (lowered xs i) j) i j (omega arith))) ∙ e;
    })
    (λ other.
    let p = s.place in
    let e_p = l.there p other in
    let above_p = s.above some in
    let spare_p : at mins p < at xs p = omega arith in
    let i_first = g.first p other spare_p in
    let le_p = before-le right (at xs i) (at xs p) i p i_first in
    record {
      takes = t;
      place = p;
      above = λ _. spare_p;
      before = λ j _ above b. ⊎_elim
          (λ is. subst (λ k. at new k ≡ low xs mins k) (sym is) (⊎_elim
          (λ more. s.before i some more (before-lt right (at (lowered xs i) i) (at (lowered xs i) p) i p (omega arith)) ∙ lo i)
          (λ no. let least = t.permitted.least i in let most = s.takes.permitted.most i in omega arith)
          (cases_lt (at mins i) (at (lowered xs i) i))))
          (λ ne. let e = l.there j ne in s.before j some (omega arith)
          (subst (λ x. before right x (at (lowered xs i) p) j p ≡ true) (sym e)
          (subst (λ y. before right (at xs j) y j p ≡ true) (sym e_p) b)) ∙ lo j)
          (cases_eq j i);
      after = λ j _ above b.
          let ne = λ (is : j ≡ i). before-asym right (at xs p) (at xs i) p i
          (subst (λ k. before right (at xs p) (at xs k) p k ≡ true) is b) i_first in
          let e = l.there j ne in
          s.after j some (omega arith) (subst (λ x. before right x (at (lowered xs i) j) p j ≡ true) (sym e_p)
          (subst (λ y. before right (at xs p) y p j ≡ true) (sym e) b)) ∙ e;
    })
    (cases_eq s.place i))
    -- nothing more is taken
    (λ nothing.
    let same = same_where_none (lowered xs i) mins by new s.takes (omega arith) in
    record {
      takes = t;
      place = i;
      above = λ _. h;
      before = λ j _ above b. absurd (none_before j above b);
      after = λ j _ above b. same j ∙ l.there j (not_itself j b);
    })
    (cases_lt 0 (taken (lowered xs i) mins by))
