-- What columns take or gain by their shares.
use Rattle.tabled_priority.proofs.Names.{Bool, Depths, Gains, Heights, IsReached, IsSpan, IsTakenFrom, List, Rounds, Schedule, amount, ap}
use Rattle.tabled_priority.proofs.Names.{arith, at, cond, false, first_level, greatest_usize, is_met, is_open, last_level, length, min}
use Rattle.tabled_priority.proofs.Names.{one_if, refl, share, spare, sum-below, sum_below, sum_below-plus, sum_below-same, sym, taken}
use Rattle.tabled_priority.proofs.Names.{total_amount, true, ℕ, ◌&&◌, ◌+◌, ◌-◌, ◌==◌, ◌∙◌, ◌≡◌, ◌≤◌}
use Rattle.std.proofs.Math.Bool.{and-true, and-false}
use Rattle.tabled_priority.proofs.Ramps.{amount-more}

-- the levels of a column depend on its value alone
pub first_level-at : (kind : Schedule) (xs ys mins : List ℕ) (i : ℕ) → at xs i ≡ at ys i → first_level kind xs mins i ≡ first_level kind ys mins i
first_level-at (Depths _) xs ys mins i e = ap (λ x. greatest_usize - x) e
first_level-at (Rounds _) xs ys mins i e = refl
first_level-at (Heights _) xs ys mins i e = e
first_level-at (Gains _) xs ys mins i e = refl

pub last_level-at : (kind : Schedule) (xs ys mins : List ℕ) (i : ℕ) → at xs i ≡ at ys i → last_level kind xs mins i ≡ last_level kind ys mins i
last_level-at (Depths _) xs ys mins i e = refl
last_level-at (Rounds _) xs ys mins i e = ap (λ x. x - at mins i) e
last_level-at (Heights _) xs ys mins i e = ap (λ x. cond (x == 0) 0 greatest_usize) e
last_level-at (Gains _) xs ys mins i e = ap (λ x. cond (x == 0) 0 greatest_usize) e

-- what a column was found to take is its share
pub share-at : (kind : Schedule) (xs ys mins : List ℕ) (i from to level height first last took : ℕ) → at xs i ≡ at ys i
    → from ≡ first_level kind xs mins i → to ≡ last_level kind xs mins i
    → height ≡ level + one_if (is_met first last i) → took ≡ min height to - from → took
    ≡ share (first_level kind ys mins) (last_level kind ys mins) level first last i
share-at kind xs ys mins i from to level height first last took e f t h k =
    k ∙ ap (λ x. min x to - from) h
    ∙ ap (λ x. min (level + one_if (is_met first last i)) x - from) (t ∙ last_level-at kind xs ys mins i e)
    ∙ ap (λ x. min (level + one_if (is_met first last i)) (last_level kind ys mins i) - x) (f ∙ first_level-at kind xs ys mins i e)

share-more : (from to : ℕ → ℕ) (level i : ℕ) (b : Bool) → amount from to (level + one_if b) i
    ≡ amount from to level i + one_if (is_open from to level i && b)
share-more from to level i true = amount-more from to level i ∙ ap (λ t. amount from to level i + one_if t) (sym (and-true (is_open from to level i)))
share-more from to level i false =
    ap (λ x. amount from to x i) (let e : level + 0 ≡ level = omega arith in e)
    ∙ (let n = ap one_if (and-false (is_open from to level i)) in omega arith)

-- all shares together
pub shares : (from to : ℕ → ℕ) (n wanted level rest first last : ℕ) → IsReached from to n wanted level rest
    → IsSpan from to n level rest first last → sum_below (share from to level first last) n ≡ wanted
shares from to n wanted level rest first last r s =
    let a = sum_below-same (share from to level first last)
    (λ i. amount from to level i + one_if (is_open from to level i && is_met first last i)) n
    (λ i _. share-more from to level i (is_met first last i)) in
    let b = sum_below-plus (amount from to level) (λ i. one_if (is_open from to level i && is_met first last i)) n in
    let t = r.total in
    let c = s.count in
    omega arith

-- ---- shrinking
pub taken_by_shares : (from to : ℕ → ℕ) (old mins : List ℕ) (by : ℕ) (new : List ℕ) (level rest first last : ℕ)
    → IsReached from to (length old) (taken old mins by) level rest → IsSpan from to (length old) level rest first last
    → ((i : ℕ) → to i - from i ≤ spare old mins i) → length new ≡ length old
    → ((i : ℕ) → at new i + share from to level first last i ≡ at old i) → IsTakenFrom old mins by new
taken_by_shares from to old mins by new level rest first last r s fits len each = record {
  permitted = record {
    same_length = len;
    least = λ i. let e = each i in let f = fits i in omega arith;
    most = λ i. let e = each i in omega arith;
  };
  total =
      let a = shares from to (length old) (taken old mins by) level rest first last r s in
      let b = sum_below-plus (at new) (share from to level first last) (length old) in
      let c = sum_below-same (λ i. at new i + share from to level first last i) (at old) (length old) (λ i _. each i) in
      let d = sum-below old in
      let e = sum-below new ∙ ap (sum_below (at new)) len in
      omega arith;
}

-- what is wanted, of what columns can give up to the greatest level
pub wanted_taken : (from to : ℕ → ℕ) (old mins : List ℕ) (by most wanted : ℕ) → by ≤ greatest_usize
    → ((i : ℕ) → min greatest_usize (to i) - from i ≡ spare old mins i)
    → most ≡ min (total_amount from to (length old) greatest_usize) greatest_usize → wanted ≡ min by most → wanted ≡ taken old mins by
wanted_taken from to old mins by most wanted b h m w =
    let e = sum_below-same (amount from to greatest_usize) (spare old mins) (length old) (λ i _. h i) in omega arith
