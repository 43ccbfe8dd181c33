-- Lists that were changed up to a level are those of the priorities.
use Rattle.tabled_priority.proofs.Names.{CanChange, Depths, Gains, Heights, IsChanged, IsReached, IsScheduled, IsSpan, IsSpanBy, List}
use Rattle.tabled_priority.proofs.Names.{Rounds, Schedule, arith, at, at-le-sum, cases_lt, first_level, get_or_past, greatest_usize}
use Rattle.tabled_priority.proofs.Names.{last_level, length, min, place_after, share, start_of, subst, total_amount, ℕ, ⊎_elim, ◌+◌, ◌<◌}
use Rattle.tabled_priority.proofs.Names.{◌≡◌, ◌≤◌}
use Rattle.tabled_priority.specs.Laws.Grown.{IsMinGrown-still, IsRoundGrown-still}
use Rattle.tabled_priority.specs.Laws.Round.{IsRoundShrunk-still}
use Rattle.tabled_priority.specs.Laws.Shrunk.{IsMaxShrunk-still}
use Rattle.tabled_priority.specs.Schedule.{StaysInRange, amount_by}
use Rattle.tabled_priority.proofs.Gains.{grown_by_shares, min_grown, nonzero_end, round_grown, share_fits, wanted_added, zero_end}
use Rattle.tabled_priority.proofs.Leveled.{max_shrunk, round_shrunk}
use Rattle.tabled_priority.proofs.Shares.{taken_by_shares, wanted_taken}

-- sizes and minimums are numbers of the type `usize`
pub record AreSizes (old mins : List ℕ) : Type 0 where
  pub values : (i : ℕ) → at old i ≤ greatest_usize
  pub least : (i : ℕ) → at mins i ≤ greatest_usize

-- what is wanted, of what columns take up to the greatest level
pub wanted_by : (k : Schedule) (old mins : List ℕ) (by most wanted : ℕ) → AreSizes old mins
    → by ≤ greatest_usize → StaysInRange k old by
    → most ≡ min (total_amount (first_level k old mins) (last_level k old mins) (length old) greatest_usize) greatest_usize
    → wanted ≡ min by most → wanted ≡ amount_by k old mins by
wanted_by (Depths right) old mins by most wanted s b room m w =
    wanted_taken (first_level (Depths right) old mins) (last_level (Depths right) old mins) old mins by most wanted b
    (λ i. let v = s.values i in let l = s.least i in omega arith) m w
wanted_by (Rounds kept) old mins by most wanted s b room m w =
    wanted_taken (first_level (Rounds kept) old mins) (last_level (Rounds kept) old mins) old mins by most wanted b
    (λ i. let v = s.values i in omega arith) m w
wanted_by (Heights right) old mins by most wanted s b room m w =
    wanted_added (first_level (Heights right) old mins) (last_level (Heights right) old mins) old by most wanted b
    (λ i pos. let t = nonzero_end (at old i) pos in let e = at-le-sum old i in omega arith)
    (λ i z. zero_end (at old i) z) m w
wanted_by (Gains kept) old mins by most wanted s b room m w =
    wanted_added (first_level (Gains kept) old mins) (last_level (Gains kept) old mins) old by most wanted b
    (λ i pos. let t = nonzero_end (at old i) pos in omega arith) (λ i z. zero_end (at old i) z) m w

-- if nothing is wanted, the list may stay
pub still_by : (k : Schedule) (old mins : List ℕ) (by : ℕ) → amount_by k old mins by ≡ 0
    → IsScheduled k old mins by old (start_of k)
still_by (Depths right) old mins by z = IsMaxShrunk-still right old mins by z
still_by (Rounds kept) old mins by z = IsRoundShrunk-still kept old mins by z
still_by (Heights right) old mins by z = IsMinGrown-still right old by z
still_by (Gains kept) old mins by z = IsRoundGrown-still kept old by z

-- the level that was reached, and the columns that take one more
pub record IsPlanned (k : Schedule) (old mins : List ℕ) (by level rest first last : ℕ) : Type 0 where
  pub sizes : AreSizes old mins
  pub room : StaysInRange k old by
  pub some : 0 < amount_by k old mins by
  pub most : amount_by k old mins by ≤ by
  pub below : level < greatest_usize
  pub reached : IsReached (first_level k old mins) (last_level k old mins) (length old) (amount_by k old mins by) level rest
  pub span : IsSpan (first_level k old mins) (last_level k old mins) (length old) level rest first last
  pub side : IsSpanBy k (first_level k old mins) (last_level k old mins) (length old) level first last

pub planned : (k : Schedule) (old mins : List ℕ) (by amount level rest first last : ℕ) → StaysInRange k old by
    → ((i : ℕ) → at old i ≤ greatest_usize) → ((i : ℕ) → at mins i ≤ greatest_usize)
    → amount ≡ amount_by k old mins by → 0 < amount → amount ≤ by → level < greatest_usize
    → IsReached (first_level k old mins) (last_level k old mins) (length old) amount level rest
    → IsSpan (first_level k old mins) (last_level k old mins) (length old) level rest first last
    → IsSpanBy k (first_level k old mins) (last_level k old mins) (length old) level first last
    → IsPlanned k old mins by level rest first last
planned k old mins by amount level rest first last room values least is some most below reached span side = record {
  sizes = record { values = values; least = least };
  room = room;
  some = omega arith;
  most = omega arith;
  below = below;
  reached = subst (λ x. IsReached (first_level k old mins) (last_level k old mins) (length old) x level rest) is reached;
  span = span;
  side = side;
}

abbrev share_by : Schedule → List ℕ → List ℕ → ℕ → ℕ → ℕ → ℕ → ℕ
share_by k old mins = share (first_level k old mins) (last_level k old mins)

-- no size falls below 0 or passes the greatest number
pub fits_by : (k : Schedule) (old mins : List ℕ) (by level rest first last : ℕ)
    → IsPlanned k old mins by level rest first last → (i : ℕ) → i < length old
    → CanChange k (at old i) (share (first_level k old mins) (last_level k old mins) level first last i)
fits_by (Depths right) old mins by level rest first last p i inside = let v = p.sizes.values i in omega arith
fits_by (Rounds kept) old mins by level rest first last p i inside = omega arith
fits_by (Heights right) old mins by level rest first last p i inside =
    share_fits _ _ old by _ level rest first last p.room p.most p.reached p.span i inside
fits_by (Gains kept) old mins by level rest first last p i inside =
    share_fits _ _ old by _ level rest first last p.room p.most p.reached p.span i inside

-- past the end sizes stay 0
given_all : (k : Schedule) (old mins new : List ℕ) (level first last : ℕ) → length new ≡ length old
    → ((i : ℕ) → i < length old → at new i + share_by k old mins level first last i ≡ at old i)
    → ((i : ℕ) → length old ≤ i → at old i ≡ 0 → share_by k old mins level first last i ≡ 0)
    → (i : ℕ) → at new i + share_by k old mins level first last i ≡ at old i
given_all k old mins new level first last len each past i = ⊎_elim
    (λ inside. each i inside)
    (λ out. let e = get_or_past old i 0 out in let f = get_or_past new i 0 (omega arith) in
    let z = past i out e in omega arith)
    (cases_lt i (length old))

pub scheduled_by : (k : Schedule) (old mins : List ℕ) (by level rest first last : ℕ) (new : List ℕ)
    → IsPlanned k old mins by level rest first last → length new ≡ length old
    → ((i : ℕ) → i < length old → IsChanged k (at old i)
    (share (first_level k old mins) (last_level k old mins) level first last i) (at new i))
    → IsScheduled k old mins by new (place_after (length old) last)
scheduled_by (Depths right) old mins by level rest first last new p len each =
    let all = given_all (Depths right) old mins new level first last len each (λ i _ e. omega arith) in
    max_shrunk right old mins by new level first last p.sizes.values p.sizes.least p.below
    (taken_by_shares _ _ old mins by new level rest first last p.reached p.span
    (λ i. let v = p.sizes.values i in let l = p.sizes.least i in omega arith) len all)
    p.span.first_in p.side all
scheduled_by (Rounds kept) old mins by level rest first last new p len each =
    let all = given_all (Rounds kept) old mins new level first last len each (λ i _ e. omega arith) in
    round_shrunk kept old mins by new level first last p.some
    (taken_by_shares _ _ old mins by new level rest first last p.reached p.span
    (λ i. omega arith) len all)
    p.side.0 p.side.1 all
scheduled_by (Heights right) old mins by level rest first last new p len each =
    min_grown right old mins by new level first last p.below
    (grown_by_shares _ _ old by new level rest first last p.reached p.span
    (λ i z. zero_end (at old i) z) len each)
    p.span.first_in p.side each
scheduled_by (Gains kept) old mins by level rest first last new p len each =
    round_grown kept old mins by new level first last p.below p.some
    (grown_by_shares _ _ old by new level rest first last p.reached p.span
    (λ i z. zero_end (at old i) z) len each)
    p.side.0 p.side.1 each
