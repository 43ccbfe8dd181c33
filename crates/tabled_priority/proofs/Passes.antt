-- Taking from columns of some sizes, turn by turn.
use Rattle.tabled_priority.proofs.Names.{Bool, IsBefore, IsMinShrunk, IsPermitted, IsSideShrunk, IsTakenFrom, List, arith, at, cases_eq}
use Rattle.tabled_priority.proofs.Names.{cases_lt, false, get_or-set_other, get_or-set_same, get_or_past, in_range, inl, inr}
use Rattle.tabled_priority.proofs.Names.{length, length-set, low, min, nat_tests, place_at, refl, slice_set, spare}
use Rattle.tabled_priority.proofs.Names.{spare_if_up_to, spare_up_to, spare_within, subst, sum, sum_below, sum_below-le, sum_below-same}
use Rattle.tabled_priority.proofs.Names.{sum_by-set, sym, taken, true, ℕ, ⊎_elim, ◌+◌, ◌-◌, ◌<◌, ◌∙◌, ◌≡◌, ◌≢◌, ◌≤◌, ◌⊎◌}
use Rattle.tabled_priority.specs.declared.schedule.Bracket.{Bracket}
use Rattle.tabled_priority.specs.Laws.Shrunk.{before}
use Rattle.tabled_priority.specs.Spares.{IsTakenInOrder, IsWithin}
use Rattle.tabled_priority.proofs.Givers.{all_up_to, none_up_to, spare_up_to-le, sum-each}
use Rattle.tabled_priority.proofs.Turns.{IsAhead, IsPassed, ahead-after, ahead-more, ahead-place, before-other, passed-all, passed-before}
use Rattle.tabled_priority.proofs.Turns.{passed-more, passed-none, place_at-lt}

-- what holds before a turn
pub record Midway (right : Bool) (sizes : Bracket) (old mins : List ℕ) (by turn : ℕ) (values : List ℕ) (left : ℕ) : Type 0 where
  pub permitted : IsPermitted old mins values
  pub total : sum values + (by - left) ≡ sum old
  pub some : left ≤ by
  pub last : ℕ
  pub above : left < by → IsWithin sizes old last × (at mins last < at old last)
  pub before : (i : ℕ) → IsBefore right i last → IsWithin sizes old i → at values i ≡ low old mins i
  pub after : (i : ℕ) → IsBefore right last i → at values i ≡ at old i
  pub passed : 0 < left → (i : ℕ) → IsPassed right (length old) turn i → IsWithin sizes old i → at values i ≡ low old mins i
  pub ahead : (i : ℕ) → IsAhead right (length old) turn i → at values i ≡ at old i
  pub others : (i : ℕ) → (at old i ≤ sizes.base) ⊎ (sizes.ceiling < at old i) → at values i ≡ at old i

split : (sizes : Bracket) (old : List ℕ) (i : ℕ) → IsWithin sizes old i ⊎ ((at old i ≤ sizes.base) ⊎ (sizes.ceiling < at old i))
split sizes old i = ⊎_elim
    (λ more. ⊎_elim (λ high. inr (inr high)) (λ le. inl (more, le)) (cases_lt sizes.ceiling (at old i)))
    (λ le. inr (inl le)) (cases_lt sizes.base (at old i))

within-gives : (sizes : Bracket) (old mins : List ℕ) (i : ℕ) → IsWithin sizes old i → spare_within sizes old mins i ≡ spare old mins i
within-gives sizes old mins i w = let low = w.0 in let high = w.1 in grind (arith, nat_tests)

out-gives : (sizes : Bracket) (old mins : List ℕ) (i : ℕ) → (at old i ≤ sizes.base) ⊎ (sizes.ceiling < at old i)
    → spare_within sizes old mins i ≡ 0
out-gives sizes old mins i o = ⊎_elim (λ low. grind (arith, nat_tests)) (λ high. grind (arith, nat_tests)) o

module _ (right : Bool) (sizes : Bracket) (old mins : List ℕ) (by : ℕ) where
  -- the first index from the side
  first : Bool → ℕ
  first true = length old
  first false = 0

  none_before : (r : Bool) (i : ℕ) → IsBefore r i (first r) → at old i ≡ 0
  unfolding first
  none_before true i b = get_or_past old i 0 (omega arith)
  none_before false i b = absurd (omega arith)

  pub midway-start : Midway right sizes old mins by 0 old by
  midway-start = record {
    permitted = record { same_length = refl; least = λ i. omega arith; most = λ i. omega arith };
    total = omega arith;
    some = omega arith;
    last = first right;
    above = λ less. absurd (omega arith);
    before = λ i b w. let e = none_before right i b in absurd (omega (arith, e, w.0));
    after = λ i b. refl;
    passed = λ _ i p w. let e = get_or_past old i 0 (passed-none right (length old) i p) in absurd (omega (arith, e, w.0));
    ahead = λ i a. refl;
    others = λ i o. refl;
  }

  pub midway-take : (turn : ℕ) (values : List ℕ) (left d : ℕ) → Midway right sizes old mins by turn values left → turn < length old
      → d ≡ min (spare_within sizes old mins (place_at right (length old) turn)) left
      → Midway right sizes old mins by (turn + 1)
      (slice_set values (place_at right (length old) turn) (at values (place_at right (length old) turn) - d)) (left - d)
  midway-take turn values left d m inside amount =
      let i = place_at right (length old) turn in
      let now = slice_set values i (at values i - d) in
      let was = m.ahead i (ahead-place right (length old) turn inside) in
      let len = m.permitted.same_length in
      let within : i < length values = (let b = place_at-lt right (length old) turn inside in omega arith) in
      let here : at now i ≡ at values i - d = get_or-set_same values i (at values i - d) 0 within in
      let there = λ (j : ℕ) (ne : j ≢ i). get_or-set_other values i j (at values i - d) 0 ne in
      let fits : d ≤ spare old mins i = ⊎_elim (λ w. let g = within-gives sizes old mins i w in omega arith)
      (λ o. let g = out-gives sizes old mins i o in omega arith) (split sizes old i) in
      let sums = sum_by-set (λ (x : ℕ). x) values i (at values i - d) 0 within in
      let total = m.total in
      let some = m.some in
      let permitted : IsPermitted old mins now = record {
        same_length = length-set values i (at values i - d) ∙ len;
        least = λ j. ⊎_elim (λ q. subst (λ k. low old mins k ≤ at now k) (sym q) (omega arith))
            (λ ne. let a = there j ne in let b = m.permitted.least j in omega arith) (cases_eq j i);
        most = λ j. ⊎_elim (λ q. subst (λ k. at now k ≤ at old k) (sym q) (omega arith))
            (λ ne. let a = there j ne in let b = m.permitted.most j in omega arith) (cases_eq j i);
      } in
      let passed = λ (pos : 0 < left - d) (j : ℕ) (p : IsPassed right (length old) (turn + 1) j) (v : IsWithin sizes old j). ⊎_elim
      (λ q. let g = within-gives sizes old mins i (subst (λ k. IsWithin sizes old k) q v) in
      subst (λ k. at now k ≡ low old mins k) (sym q) (omega arith))
      (λ more. there j more.1 ∙ m.passed (omega arith) j more.0 v)
      (passed-more right (length old) turn j inside p) in
      let ahead = λ (j : ℕ) (a : IsAhead right (length old) (turn + 1) j).
      let b = ahead-more right (length old) turn j inside a in there j b.1 ∙ m.ahead j b.0 in
      let others = λ (j : ℕ) (o : (at old j ≤ sizes.base) ⊎ (sizes.ceiling < at old j)).
      ⊎_elim
      (λ q. let g = out-gives sizes old mins i (subst (λ k. (at old k ≤ sizes.base) ⊎ (sizes.ceiling < at old k)) q o) in
      subst (λ k. at now k ≡ at old k) (sym q) (omega arith))
      (λ ne. there j ne ∙ m.others j o) (cases_eq j i) in
      ⊎_elim
      (λ pos. record {
        permitted = permitted;
        total = omega arith;
        some = omega arith;
        last = i;
        above = λ _. ⊎_elim
            (λ w. let g = within-gives sizes old mins i w in (w, let a : at mins i < at old i = omega arith in a))
            (λ o. let g = out-gives sizes old mins i o in absurd (omega arith)) (split sizes old i);
        before = λ j b v. there j (before-other right j i b) ∙ m.passed (omega arith) j (passed-before right (length old) turn j inside b) v;
        after = λ j b. ahead j (ahead-after right (length old) turn j inside b);
        passed = passed;
        ahead = ahead;
        others = others;
      })
      (λ none.
      let same = λ (j : ℕ). ⊎_elim (λ q. subst (λ k. at now k ≡ at values k) (sym q) (omega arith)) (λ ne. there j ne) (cases_eq j i) in
      record {
        permitted = permitted;
        total = omega arith;
        some = omega arith;
        last = m.last;
        above = λ less. m.above (omega arith);
        before = λ j b v. same j ∙ m.before j b v;
        after = λ j b. same j ∙ m.after j b;
        passed = passed;
        ahead = ahead;
        others = others;
      })
      (cases_lt 0 d)

  pub midway-end : (turn : ℕ) (values : List ℕ) (left : ℕ) → Midway right sizes old mins by turn values left → turn ≡ length old
      → IsTakenInOrder right sizes old mins by values (by - left)
  midway-end turn values left m end =
      let total = m.total in
      record {
        permitted = m.permitted;
        total = omega arith;
        at_most = omega arith;
        last = m.last;
        above = λ some. m.above (omega arith);
        before = m.before;
        after = m.after;
        all = λ less i w. m.passed (omega arith) i (subst (λ k. IsPassed right (length old) k i) (sym end)
            (passed-all right (length old) i (in_range old i sizes.base w.0))) w;
        others = m.others;
      }

-- ---- what it gives
module _ (right : Bool) (sizes : Bracket) (old mins : List ℕ) (by : ℕ) (new : List ℕ) (taken : ℕ) (t : IsTakenInOrder right sizes old mins by new taken) where
  lost : sum_below (λ i. at old i - at new i) (length old) ≡ taken
  lost = let s = sum-each (λ i. at old i - at new i) old new t.permitted.same_length (λ i. let m = t.permitted.most i in omega arith) in
      let total = t.total in omega arith

  -- if all columns have one of the sizes, it takes what can be taken
  pub takes-all : ((i : ℕ) → (0 < at old i → IsWithin sizes old i)) → IsTakenFrom old mins by new
  takes-all every =
      let most = sum_below-le (λ i. at old i - at new i) (spare old mins) (length old) (λ i _. let l = t.permitted.least i in omega arith) in
      let at_most = t.at_most in
      let total = t.total in
      record {
        permitted = t.permitted;
        total = ⊎_elim
            (λ less. let same = sum_below-same (λ i. at old i - at new i) (spare old mins) (length old) (λ i _. ⊎_elim
            (λ pos. let e = t.all less i (every i pos) in omega arith)
            (λ zero. let m = t.permitted.most i in omega arith) (cases_lt 0 (at old i))) in
            omega (arith, lost))
            (λ all. omega (arith, lost))
            (cases_lt taken by);
      }

pub side-shrunk : (right : Bool) (sizes : Bracket) (old mins : List ℕ) (by : ℕ) (new : List ℕ) (taken : ℕ)
    → IsTakenInOrder right sizes old mins by new taken → ((i : ℕ) → (0 < at old i → IsWithin sizes old i))
    → IsSideShrunk right old mins by new
side-shrunk right sizes old mins by new taken t every = record {
  takes = takes-all right sizes old mins by new taken t every;
  place = t.last;
  before = λ i b. ⊎_elim
      (λ pos. t.before i b (every i pos))
      (λ zero. let m = t.permitted.most i in omega arith) (cases_lt 0 (at old i));
  after = t.after;
}

-- ---- the smallest first: all from the columns up to a base, and the rest from those of the next size
decode : (right : Bool) (x y i j : ℕ) → before right x y i j ≡ true → (x < y) ⊎ ((x ≡ y) × IsBefore right i j)
decode true x y i j h = ⊎_elim (λ l. inl l) (λ ge. inr (grind (arith, nat_tests), grind (arith, nat_tests))) (cases_lt x y)
decode false x y i j h = ⊎_elim (λ l. inl l) (λ ge. inr (grind (arith, nat_tests), grind (arith, nat_tests))) (cases_lt x y)

pub record Smallest (right : Bool) (sizes : Bracket) (old mins : List ℕ) (by : ℕ) (mid new : List ℕ) (wanted first second : ℕ) : Type 0 where
  pub is : wanted ≡ taken old mins by
  pub less : spare_up_to old mins sizes.base < wanted
  pub enough : wanted ≤ spare_up_to old mins sizes.ceiling
  pub outside : (i : ℕ) → i < length old → sizes.base < at old i → sizes.ceiling ≤ at old i
  pub smaller : IsTakenInOrder right (record { base = 0; ceiling = sizes.base }) old mins wanted mid first
  pub next : IsTakenInOrder right sizes mid mins (wanted - first) new second

module _ (right : Bool) (sizes : Bracket) (old mins : List ℕ) (by : ℕ) (mid new : List ℕ) (wanted first second : ℕ)
    (s : Smallest right sizes old mins by mid new wanted first second) where
  some_left : first < wanted
  some_left =
      let le = sum_below-le (λ i. at old i - at mid i) (spare_if_up_to old mins sizes.base) (length old) (λ i _. ⊎_elim
      (λ high. let e = s.smaller.others i (inr high) in omega arith)
      (λ up. let e = all_up_to (at old i) (spare old mins i) sizes.base up in let l = s.smaller.permitted.least i in omega arith)
      (cases_lt sizes.base (at old i))) in
      omega (arith, le, lost right _ old mins wanted mid first s.smaller, s.less)

  low_mid : (i : ℕ) → at old i ≤ sizes.base → at mid i ≡ low old mins i
  low_mid i up = ⊎_elim (λ pos. s.smaller.all some_left i (pos, up))
      (λ zero. let m = s.smaller.permitted.most i in omega arith) (cases_lt 0 (at old i))

  high_mid : (i : ℕ) → sizes.base < at old i → at mid i ≡ at old i
  high_mid i h = s.smaller.others i (inr h)

  same_mid : (i : ℕ) → sizes.base < at mid i → at mid i ≡ at old i
  same_mid i h = high_mid i (let m = s.smaller.permitted.most i in omega arith)

  low_new : (i : ℕ) → at old i ≤ sizes.base → at new i ≡ low old mins i
  low_new i up = let m = s.next.permitted.most i in let l = s.next.permitted.least i in let e = low_mid i up in omega arith

  rest_taken : first + second ≡ wanted
  rest_taken = ⊎_elim
      (λ less.
      let order : sizes.base < sizes.ceiling = ⊎_elim (λ l. l)
      (λ ge. let m = spare_up_to-le old mins sizes.ceiling sizes.base ge in absurd (omega (arith, m, s.less, s.enough)))
      (cases_lt sizes.base sizes.ceiling) in
      let each = λ (i : ℕ). ⊎_elim
      (λ high. let e = none_up_to (at old i) (spare old mins i) sizes.ceiling high in let h = high_mid i (omega arith) in
      let o = s.next.others i (inr (omega arith)) in let q : at new i + spare_if_up_to old mins sizes.ceiling i ≡ at old i = omega arith in q)
      (λ up. let e = all_up_to (at old i) (spare old mins i) sizes.ceiling up in
      let n : at new i ≡ low old mins i = ⊎_elim
      (λ more. let h = high_mid i more in let a = s.next.all less i (omega arith, omega arith) in omega arith)
      (λ le. low_new i le) (cases_lt sizes.base (at old i)) in omega arith)
      (cases_lt sizes.ceiling (at old i)) in
      let sums = sum-each (spare_if_up_to old mins sizes.ceiling) old new (s.next.permitted.same_length ∙ s.smaller.permitted.same_length) each in
      omega (arith, sums, s.enough, s.next.total, s.smaller.total, some_left))
      (λ ge. let m = s.next.at_most in let l = some_left in omega arith)
      (cases_lt second (wanted - first))

  pub min-shrunk : IsMinShrunk right old mins by new
  min-shrunk =
      let at_last = s.next.above (let a = rest_taken in let b = some_left in omega arith) in
      let place = s.next.last in
      let more : sizes.base < at mid place = at_last.0.0 in
      let same : at mid place ≡ at old place = same_mid place more in
      let size : at old place ≡ sizes.ceiling = (let a = at_last.0.1 in
      let b = s.outside place (in_range old place sizes.base (omega arith)) (omega arith) in omega arith) in
      record {
        takes = record {
          permitted = record {
            same_length = s.next.permitted.same_length ∙ s.smaller.permitted.same_length;
            least = λ i. let a = s.next.permitted.least i in let b = s.smaller.permitted.least i in omega arith;
            most = λ i. let a = s.next.permitted.most i in let b = s.smaller.permitted.most i in omega arith;
          };
          total = omega (arith, s.next.total, s.smaller.total, rest_taken, s.is);
        };
        place = place;
        above = λ _. let a = at_last.1 in omega arith;
        before = λ i _ above b. ⊎_elim
            (λ less. low_new i (⊎_elim
            (λ (h : sizes.base < at old i). let o = s.outside i (in_range old i sizes.base h) h in absurd (omega arith))
            (λ le. le) (cases_lt sizes.base (at old i))))
            (λ equal. let e = equal.0 in let h = high_mid i (omega arith) in
            let n = s.next.before i equal.1 (omega arith, omega arith) in omega arith)
            (decode right (at old i) (at old place) i place b);
        after = λ i _ above b. ⊎_elim
            (λ less. let h = high_mid i (omega arith) in s.next.others i (inr (omega arith)) ∙ h)
            (λ equal. let e = equal.0 in s.next.after i equal.1 ∙ high_mid i (omega arith))
            (decode right (at old place) (at old i) place i b);
      }
