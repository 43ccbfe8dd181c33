-- Lists that shrank up to a level are those of the priorities.
use Rattle.tabled_priority.proofs.Names.{Bool, Depths, IsMaxShrunk, IsRoundShrunk, IsSpanBy, IsTakenFrom, List, Rounds, ap, arith, at}
use Rattle.tabled_priority.proofs.Names.{cases_lt, ceiling, false, first_level, get_or_past, greatest_usize, if◌then◌else◌, is_met, is_open}
use Rattle.tabled_priority.proofs.Names.{last_level, length, low, max, min, nat_le, nat_lt, nat_tests, one_if, place_after, refl, share}
use Rattle.tabled_priority.proofs.Names.{spare, start, subst, sym, taken, true, ℕ, ⊎_elim, ◌&&◌, ◌+◌, ◌-◌, ◌<◌, ◌∙◌, ◌≡◌, ◌≤◌}
use Rattle.tabled_priority.specs.Laws.Round.{met_itself}

-- ---- the greatest first
-- a column with a share of depths stands at the ceiling, or at its limits
cut_here : (m v y new : ℕ) → v ≤ greatest_usize → m ≤ greatest_usize → y ≤ greatest_usize
    → new + (min y (greatest_usize - m) - (greatest_usize - v)) ≡ v → new ≡ max (min v m) (min v (greatest_usize - y))
cut_here m v y new a b c e = omega arith

ceiling_right : (level first last n i : ℕ) → level < greatest_usize → last + 1 ≡ n → first ≤ last → i < n
    → greatest_usize - (level + one_if (is_met first last i)) ≡ ceiling true (greatest_usize - level - 1) first i
ceiling_right level first last n i a b c d = grind (arith, nat_tests)

ceiling_left : (level last i : ℕ) → level < greatest_usize
    → greatest_usize - (level + one_if (is_met 0 last i)) ≡ ceiling false (greatest_usize - level - 1) (last + 1) i
ceiling_left level last i a = grind (arith, nat_tests)

pub one_if-le : (b : Bool) → one_if b ≤ 1
one_if-le b = grind arith

-- a span from the left begins at 0
pub start-zero : (n : ℕ) → start 0 n ≡ 0
start-zero n = grind (arith, nat_tests)

past_cut : (m c new : ℕ) → new ≡ 0 → new ≡ max (min 0 m) (min 0 c)
past_cut m c new e = omega arith

pub max_shrunk : (right : Bool) (old mins : List ℕ) (by : ℕ) (new : List ℕ) (level first last : ℕ)
    → ((i : ℕ) → at old i ≤ greatest_usize) → ((i : ℕ) → at mins i ≤ greatest_usize)
    → level < greatest_usize → IsTakenFrom old mins by new → first < length old
    → IsSpanBy (Depths right) (first_level (Depths right) old mins) (last_level (Depths right) old mins)
    (length old) level first last
    → ((i : ℕ) → at new i + share (first_level (Depths right) old mins)
    (last_level (Depths right) old mins) level first last i ≡ at old i)
    → IsMaxShrunk right old mins by new
max_shrunk true old mins by new level first last v m l t within side each = record {
  takes = t;
  level = greatest_usize - level - 1;
  place = first;
  cut = λ i. ⊎_elim
      (λ (inside : i < length old).
      cut_here (at mins i) (at old i) (level + one_if (is_met first last i)) (at new i) (v i) (m i)
      (let o = one_if-le (is_met first last i) in omega arith) (each i)
      ∙ ap (λ k. max (low old mins i) (min (at old i) k))
      (ceiling_right level first last (length old) i l side (omega arith) inside))
      (λ (past : length old ≤ i).
      let e = get_or_past old i 0 past in
      let f = each i in
      subst (λ x. at new i ≡ max (min x (at mins i)) (min x (ceiling true (greatest_usize - level - 1) first i))) (sym e)
      (past_cut (at mins i) (ceiling true (greatest_usize - level - 1) first i) (at new i) (omega arith)))
      (cases_lt i (length old));
}
max_shrunk false old mins by new level first last v m l t within side each =
    let e : first ≡ 0 = side.0 ∙ start-zero (length old) in
    record {
      takes = t;
      level = greatest_usize - level - 1;
      place = last + 1;
      cut = λ i.
          cut_here (at mins i) (at old i) (level + one_if (is_met first last i)) (at new i) (v i) (m i)
          (let o = one_if-le (is_met first last i) in omega arith) (each i)
          ∙ ap (λ k. max (low old mins i) (min (at old i) (greatest_usize - (level + one_if (is_met k last i))))) e
          ∙ ap (λ k. max (low old mins i) (min (at old i) k)) (ceiling_left level last i l);
    }

-- ---- in turn
round_share : (v m level new : ℕ) (b : Bool) → new + (min (level + one_if b) (v - m) - 0) ≡ v → new + min (v - m) (if b then level + 1 else level) ≡ v
round_share v m level new b h = grind arith

last_share : (v m level new : ℕ) (b : Bool) → b ≡ true → (nat_le 0 level && nat_lt level (v - m)) ≡ true
    → new + (min (level + one_if b) (v - m) - 0) ≡ v → new + (level + 1) ≡ v
last_share v m level new true e o h = let l : level < v - m = grind (arith, nat_tests) in omega arith
last_share v m level new false e o h = absurd cc

pub round_shrunk : (kept : ℕ) (old mins : List ℕ) (by : ℕ) (new : List ℕ) (level first last : ℕ)
    → 0 < taken old mins by → IsTakenFrom old mins by new → first ≡ start kept (length old)
    → is_open (first_level (Rounds kept) old mins) (last_level (Rounds kept) old mins) level last ≡ true
    → ((i : ℕ) → at new i + share (first_level (Rounds kept) old mins) (last_level (Rounds kept) old mins) level first last i ≡ at old i)
    → IsRoundShrunk kept old mins by new (place_after (length old) last)
round_shrunk kept old mins by new level first last some t e o each = record {
  takes = t;
  rounds = level;
  last = last;
  stays = λ z. absurd (omega arith);
  moves = λ _. refl;
  reached = λ _. last_share (at old last) (at mins last) level (at new last) (is_met first last last) (met_itself first last) o (each last);
  losses = λ i _ _. subst (λ k. at new i + min (spare old mins i) (if is_met k last i then level + 1 else level) ≡ at old i) e
      (round_share (at old i) (at mins i) level (at new i) (is_met first last i) (each i));
}
