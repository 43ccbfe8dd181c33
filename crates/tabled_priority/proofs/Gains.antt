-- What columns gain by their shares.
use Rattle.tabled_priority.proofs.Names.{Bool, Gains, Heights, IsGrownFrom, IsMinGrown, IsReached, IsSpan, IsSpanBy, List, added}
use Rattle.tabled_priority.proofs.Names.{added-none, added-some, amount, ap, arith, at, at-le-sum, cases_lt, ceiling, cond, false}
use Rattle.tabled_priority.proofs.Names.{first_level, get_or_past, greatest_usize, if◌then◌else◌, in_range, is_met, is_open, last_level}
use Rattle.tabled_priority.proofs.Names.{length, max, min, nat_le, nat_lt, nat_tests, one_if, place_after, refl, share, start, subst, suc}
use Rattle.tabled_priority.proofs.Names.{sum, sum-below, sum_below, sum_below-plus, sum_below-same, sum_below-zero, total_amount, true}
use Rattle.tabled_priority.proofs.Names.{zero, ℕ, ⊎_elim, ◌&&◌, ◌+◌, ◌-◌, ◌<◌, ◌==◌, ◌∙◌, ◌≡◌, ◌≤◌}
use Rattle.std.proofs.Common.{◌^◌}
use Rattle.std.proofs.lemmas.Bool.{ne_eqb}
use Rattle.tabled_priority.specs.Laws.Sums.{sum_below-term}
use Rattle.tabled_priority.specs.Grown.{IsRoundGrown}
use Rattle.tabled_priority.proofs.Leveled.{one_if-le, start-zero}
use Rattle.tabled_priority.proofs.Shares.{shares}

some_term : (f : ℕ → ℕ) (n : ℕ) → 0 < sum_below f n → (i : ℕ) × (i < n) × (0 < f i)
some_term f zero h = absurd (omega arith)
some_term f (suc n) h = ⊎_elim
    (λ (here : 0 < f n). (n, (let l : n < suc n = omega arith in l), here))
    (λ (none : f n ≤ 0). let r = some_term f n (omega arith) in (r.0, (let a = r.1 in let l : r.0 < suc n = omega arith in l), r.2))
    (cases_lt 0 (f n))

-- what is wanted, of what columns can gain up to the greatest level
pub wanted_added : (from to : ℕ → ℕ) (old : List ℕ) (by most wanted : ℕ) → by ≤ greatest_usize
    → ((i : ℕ) → 0 < at old i → by ≤ min greatest_usize (to i) - from i) → ((i : ℕ) → at old i ≡ 0 → to i ≡ 0)
    → most ≡ min (total_amount from to (length old) greatest_usize) greatest_usize → wanted ≡ min by most → wanted ≡ added old by
wanted_added from to old by most wanted b gain none m w = ⊎_elim
    (λ (some : 0 < sum old).
    let s = sum-below old in
    let i = some_term (at old) (length old) (omega arith) in
    let g = gain i.0 i.2 in
    let t = sum_below-term (amount from to greatest_usize) (length old) i.0 i.1 in
    let a = added-some old by i.0 i.2 in
    omega arith)
    (λ (zero : sum old ≤ 0).
    let z = λ (i : ℕ). at-le-sum old i in
    let f = sum_below-zero (amount from to greatest_usize) (length old) (λ i _. let e = none i (let q = at-le-sum old i in omega arith) in omega arith) in
    let a = added-none old by (λ i. let q = at-le-sum old i in omega arith) in
    omega arith)
    (cases_lt 0 (sum old))

-- a share passes no number
pub share_fits : (from to : ℕ → ℕ) (old : List ℕ) (by wanted level rest first last : ℕ) → sum old + by < 2 ^ 64 → wanted ≤ by
    → IsReached from to (length old) wanted level rest → IsSpan from to (length old) level rest first last
    → (i : ℕ) → i < length old → at old i + share from to level first last i < 2 ^ 64
share_fits from to old by wanted level rest first last room le r s i inside =
    let t = shares from to (length old) wanted level rest first last r s in
    let a = sum_below-term (share from to level first last) (length old) i inside in
    let b = at-le-sum old i in
    omega arith

pub grown_by_shares : (from to : ℕ → ℕ) (old : List ℕ) (by : ℕ) (new : List ℕ) (level rest first last : ℕ)
    → IsReached from to (length old) (added old by) level rest → IsSpan from to (length old) level rest first last
    → ((i : ℕ) → at old i ≡ 0 → to i ≡ 0) → length new ≡ length old
    → ((i : ℕ) → i < length old → at new i ≡ at old i + share from to level first last i) → IsGrownFrom old by new
grown_by_shares from to old by new level rest first last r s none len each = record {
  kept = record {
    same_length = len;
    least = λ i. ⊎_elim (λ inside. let e = each i inside in omega arith) (λ past. let e = get_or_past old i 0 past in
        omega arith) (cases_lt i (length old));
    zeros = λ i z. ⊎_elim (λ inside. let e = each i inside in let n = none i z in omega arith)
        (λ past. get_or_past new i 0 (omega arith)) (cases_lt i (length old));
  };
  total =
      let a = shares from to (length old) (added old by) level rest first last r s in
      let b = sum_below-plus (at old) (share from to level first last) (length old) in
      let c = sum_below-same (at new) (λ i. at old i + share from to level first last i) (length old) each in
      let d = sum-below old in
      let e = sum-below new ∙ ap (sum_below (at new)) len in
      omega arith;
}

-- ---- the least first
pub nonzero_end : (v : ℕ) → 0 < v → (if v == 0 then 0 else greatest_usize) ≡ greatest_usize
nonzero_end v pos = ap (λ k. cond k 0 greatest_usize) (ne_eqb v 0 (λ z. omega arith))

raised_here : (v y new : ℕ) → 0 < v → y ≤ greatest_usize → new ≡ v + (min y (if v == 0 then 0 else greatest_usize) - v) → new ≡ max v y
raised_here v y new pos b e = let t = nonzero_end v pos in omega arith

floor_right : (level first last n i : ℕ) → last + 1 ≡ n → first ≤ last → i < n → level + one_if (is_met first last i) ≡ ceiling false level first i
floor_right level first last n i b c d = grind (arith, nat_tests)

floor_left : (level last i : ℕ) → level + one_if (is_met 0 last i) ≡ ceiling true level (last + 1) i
floor_left level last i = grind (arith, nat_tests)

pub min_grown : (right : Bool) (old mins : List ℕ) (by : ℕ) (new : List ℕ) (level first last : ℕ)
    → level < greatest_usize → IsGrownFrom old by new → first < length old
    → IsSpanBy (Heights right) (first_level (Heights right) old mins)
    (last_level (Heights right) old mins) (length old) level first last
    → ((i : ℕ) → i < length old → at new i ≡ at old i + share (first_level (Heights right) old mins)
    (last_level (Heights right) old mins) level first last i)
    → IsMinGrown right old by new
min_grown true old mins by new level first last l g within side each = record {
  grows = g;
  level = level;
  place = first;
  raised = λ i pos.
      let inside = in_range old i 0 pos in
      raised_here (at old i) (level + one_if (is_met first last i)) (at new i) pos
      (let o = one_if-le (is_met first last i) in omega arith) (each i inside)
      ∙ ap (max (at old i)) (floor_right level first last (length old) i side (omega arith) inside);
}
min_grown false old mins by new level first last l g within side each =
    let e : first ≡ 0 = side.0 ∙ start-zero (length old) in
    record {
      grows = g;
      level = level;
      place = last + 1;
      raised = λ i pos.
          raised_here (at old i) (level + one_if (is_met first last i)) (at new i) pos
          (let o = one_if-le (is_met first last i) in omega arith) (each i (in_range old i 0 pos))
          ∙ ap (λ k. max (at old i) (level + one_if (is_met k last i))) e
          ∙ ap (max (at old i)) (floor_left level last i);
    }

-- ---- in turn
round_gain : (v level new : ℕ) (b : Bool) → 0 < v → level < greatest_usize → new
    ≡ v + (min (level + one_if b) (if v == 0 then 0 else greatest_usize) - 0) → new ≡ v + (if b then level + 1 else level)
round_gain v level new true pos l e = let t = nonzero_end v pos in omega arith
round_gain v level new false pos l e = let t = nonzero_end v pos in omega arith

open_nonzero : (v level : ℕ) → (nat_le 0 level && nat_lt level (if v == 0 then 0 else greatest_usize)) ≡ true → 0 < v
open_nonzero v level o = grind (arith, nat_tests)

pub round_grown : (kept : ℕ) (old mins : List ℕ) (by : ℕ) (new : List ℕ) (level first last : ℕ) → level < greatest_usize
    → 0 < added old by → IsGrownFrom old by new → first ≡ start kept (length old)
    → is_open (first_level (Gains kept) old mins) (last_level (Gains kept) old mins) level last ≡ true
    → ((i : ℕ) → i < length old → at new i ≡ at old i + share (first_level (Gains kept) old mins) (last_level (Gains kept) old mins) level first last i)
    → IsRoundGrown kept old by new (place_after (length old) last)
round_grown kept old mins by new level first last l some g e o each = record {
  grows = g;
  rounds = level;
  last = last;
  stays = λ z. absurd (omega arith);
  moves = λ _. (open_nonzero (at old last) level o, refl);
  gains = λ i inside _ pos. subst (λ k. at new i ≡ at old i + (if is_met k last i then level + 1 else level)) e
      (round_gain (at old i) level (at new i) (is_met first last i) pos l (each i inside));
}

pub zero_end : (v : ℕ) → v ≡ 0 → (if v == 0 then 0 else greatest_usize) ≡ 0
zero_end v z = ap (λ k. cond (k == 0) 0 greatest_usize) z
