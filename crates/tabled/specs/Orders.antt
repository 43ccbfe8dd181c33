-- How sizes shrink in an order that is chosen at run time.
use Rattle.std.specs.Prelude.{◌≡◌, ℕ, List, [], false, true, Option, MatchOption, length}
use Rattle.tabled_priority.specs.Grown.{IsMaxGrown, IsMinGrown, IsRoundGrown, IsSideGrown, added}
use Rattle.tabled_priority.specs.Peak.{IsGreatest, IsLeast, IsLeftmost, IsNext, IsOutermost, IsRightmost, NoneAbove}
use Rattle.tabled_priority.specs.Shrunk.{IsLeftShrunk, IsMaxShrunk, IsMinShrunk, IsRightShrunk, IsRoundShrunk, place_after}
use Rattle.tabled.specs.declared.arguments.OrderPriority.{OrderPriority}
use Rattle.tabled.specs.declared.arguments.Order.{Order}
use Rattle.tabled.specs.declared.arguments.Order.TheVariants.{Round, Least, Greatest, Leftmost, Rightmost}
use Rattle.std.proofs.Common.{◌∙◌, ◌+◌, ℕ, List, None, Some, refl, subst, sym, true}
use Rattle.tabled_priority.specs.Permitted.{IsTakenFrom, lowered, raised}
use Rattle.tabled_priority.specs.Laws.Grown.{IsGrownAt-still, IsMaxGrown-step, IsMinGrown-step, IsMinGrown-still, IsRoundGrown-step}
use Rattle.tabled_priority.specs.Laws.Grown.{IsRoundGrown-still, IsSideGrown-step, added-none, added-nothing}
use Rattle.tabled_priority.specs.Laws.Round.{IsRoundShrunk-done, IsRoundShrunk-none, IsRoundShrunk-step}
use Rattle.tabled_priority.specs.Laws.Shrunk.{IsLeftShrunk-done, IsLeftShrunk-none, IsLeftShrunk-step, IsMaxShrunk-done, IsMaxShrunk-none}
use Rattle.tabled_priority.specs.Laws.Shrunk.{IsMaxShrunk-step, IsMinShrunk-done, IsMinShrunk-none, IsMinShrunk-step, IsRightShrunk-done}
use Rattle.tabled_priority.specs.Laws.Shrunk.{IsRightShrunk-none, IsRightShrunk-step}

-- the index that a priority names, and the stored index after that, which only `Round` reads
abbrev pub IsNamed : Order → ℕ → List ℕ → List ℕ → Option ℕ → ℕ → Type 0
IsNamed Round kept values mins answer kept' = MatchOption answer (NoneAbove values mins × (kept' ≡ kept))
    (λ i. IsNext kept values mins i × (kept' ≡ place_after (length values) i))
IsNamed Least kept values mins answer kept' = MatchOption answer (NoneAbove values mins) (IsLeast true values mins)
IsNamed Greatest kept values mins answer kept' = MatchOption answer (NoneAbove values mins) (IsGreatest true values mins)
IsNamed Leftmost kept values mins answer kept' = MatchOption answer (NoneAbove values mins) (IsLeftmost values mins)
IsNamed Rightmost kept values mins answer kept' = MatchOption answer (NoneAbove values mins) (IsRightmost values mins)

-- sizes that shrink: the old ones, their minimums, by how much they shrink in all, and the new ones
pub record Shrinking : Type 0 where
  pub old : List ℕ
  pub mins : List ℕ
  pub by : ℕ
  pub new : List ℕ

-- how sizes shrink in an order, and the stored index before and after that
abbrev pub IsShrunk : Order → ℕ → Shrinking → ℕ → Type 0
IsShrunk Round kept sizes kept' = IsRoundShrunk kept sizes.old sizes.mins sizes.by sizes.new kept'
IsShrunk Least kept sizes kept' = IsMinShrunk true sizes.old sizes.mins sizes.by sizes.new
IsShrunk Greatest kept sizes kept' = IsMaxShrunk true sizes.old sizes.mins sizes.by sizes.new
IsShrunk Leftmost kept sizes kept' = IsLeftShrunk sizes.old sizes.mins sizes.by sizes.new
IsShrunk Rightmost kept sizes kept' = IsRightShrunk sizes.old sizes.mins sizes.by sizes.new

-- the sizes that grew, and the stored index after that
abbrev pub IsGrown : Order → ℕ → List ℕ → ℕ → List ℕ → ℕ → Type 0
IsGrown Round kept old by new kept' = IsRoundGrown kept old by new kept'
IsGrown Least kept old by new kept' = IsMinGrown true old by new
IsGrown Greatest kept old by new kept' = IsMaxGrown true old by new
IsGrown Leftmost kept old by new kept' = IsSideGrown false old by new
IsGrown Rightmost kept old by new kept' = IsSideGrown true old by new

abbrev pub Names : OrderPriority → List ℕ → List ℕ → Option ℕ → OrderPriority → Type 0
Names s values mins answer t = IsNamed s.order s.round.kept values mins answer t.round.kept × (t.order ≡ s.order)

abbrev pub Shrinks : OrderPriority → List ℕ → List ℕ → ℕ → List ℕ → OrderPriority → Type 0
Shrinks s old mins by new t =
    IsShrunk s.order s.round.kept (record { old = old; mins = mins; by = by; new = new }) t.round.kept × (t.order ≡ s.order)

abbrev pub Grows : OrderPriority → List ℕ → ℕ → List ℕ → OrderPriority → Type 0
Grows s old by new t = IsGrown s.order s.round.kept old by new t.round.kept × (t.order ≡ s.order)

-- ---- laws of `OrderPriority`, from those of the five priorities

none : (o : Order) (kept : ℕ) (xs mins : List ℕ) → IsShrunk o kept (record { old = xs; mins = mins; by = 0; new = xs }) kept
none Round = IsRoundShrunk-none
none Least = λ kept. IsMinShrunk-none true
none Greatest = λ kept. IsMaxShrunk-none true
none Leftmost = λ kept. IsLeftShrunk-none
none Rightmost = λ kept. IsRightShrunk-none

pub Shrinks-none : (s : OrderPriority) (xs mins : List ℕ) → Shrinks s xs mins 0 xs s
Shrinks-none s xs mins = (none s.order s.round.kept xs mins, refl)

done : (o : Order) (kept kept' : ℕ) (xs mins : List ℕ) (by : ℕ) → IsNamed o kept xs mins None kept'
    → IsShrunk o kept (record { old = xs; mins = mins; by = by; new = xs }) kept'
done Round kept kept' xs mins by h = subst (λ k. IsRoundShrunk kept xs mins by xs k) (sym h.1) (IsRoundShrunk-done kept xs mins by h.0)
done Least kept kept' xs mins by h = IsMinShrunk-done true xs mins by h
done Greatest kept kept' xs mins by h = IsMaxShrunk-done true xs mins by h
done Leftmost kept kept' xs mins by h = IsLeftShrunk-done xs mins by h
done Rightmost kept kept' xs mins by h = IsRightShrunk-done xs mins by h

pub Shrinks-done : (s t : OrderPriority) (xs mins : List ℕ) (by : ℕ) → Names s xs mins None t → Shrinks s xs mins by xs t
Shrinks-done s t xs mins by h = (done s.order s.round.kept t.round.kept xs mins by h.0, h.1)

step : (o : Order) (kept next last : ℕ) (xs mins new : List ℕ) (by i : ℕ) → IsNamed o kept xs mins (Some i) next
    → IsShrunk o next (record { old = lowered xs i; mins = mins; by = by; new = new }) last
    → IsShrunk o kept (record { old = xs; mins = mins; by = by + 1; new = new }) last
step Round kept next last xs mins new by i h rest =
    IsRoundShrunk-step kept xs mins i by new last h.0 (subst (λ k. IsRoundShrunk k (lowered xs i) mins by new last) h.1 rest)
step Least kept next last xs mins new by i h rest = IsMinShrunk-step true xs mins i by new h rest
step Greatest kept next last xs mins new by i h rest = IsMaxShrunk-step true xs mins i by new h rest
step Leftmost kept next last xs mins new by i h rest = IsLeftShrunk-step xs mins i by new h rest
step Rightmost kept next last xs mins new by i h rest = IsRightShrunk-step xs mins i by new h rest

pub Shrinks-step : (s t u : OrderPriority) (xs mins new : List ℕ) (by i : ℕ) → Names s xs mins (Some i) t → Shrinks t (lowered xs i) mins by new u
    → Shrinks s xs mins (by + 1) new u
Shrinks-step s t u xs mins new by i h rest = (
  step s.order s.round.kept t.round.kept u.round.kept xs mins new by i h.0
      (subst (λ o. IsShrunk o t.round.kept (record { old = lowered xs i; mins = mins; by = by; new = new }) u.round.kept) h.1 rest.0),
  rest.1 ∙ h.1,
)

takes : (o : Order) (kept last : ℕ) (old mins new : List ℕ) (by : ℕ) → IsShrunk o kept (record { old = old; mins = mins; by = by; new = new }) last
    → IsTakenFrom old mins by new
takes Round kept last old mins new by h = h.takes
takes Least kept last old mins new by h = h.takes
takes Greatest kept last old mins new by h = h.takes
takes Leftmost kept last old mins new by h = h.takes
takes Rightmost kept last old mins new by h = h.takes

pub Shrinks-takes : (s t : OrderPriority) (old mins new : List ℕ) (by : ℕ) → Shrinks s old mins by new t → IsTakenFrom old mins by new
Shrinks-takes s t old mins new by h = takes s.order s.round.kept t.round.kept old mins new by h.0

grown_still : (o : Order) (kept : ℕ) (xs : List ℕ) (by : ℕ) → added xs by ≡ 0 → IsGrown o kept xs by xs kept
grown_still Round = IsRoundGrown-still
grown_still Least = λ kept. IsMinGrown-still true
grown_still Greatest = λ kept. IsGrownAt-still (λ v. IsGreatest true v [])
grown_still Leftmost = λ kept. IsGrownAt-still (λ v. IsOutermost false v [])
grown_still Rightmost = λ kept. IsGrownAt-still (λ v. IsOutermost true v [])

pub Grows-nothing : (s : OrderPriority) (xs : List ℕ) → Grows s xs 0 xs s
Grows-nothing s xs = (grown_still s.order s.round.kept xs 0 (added-nothing xs), refl)

grown_done : (o : Order) (kept kept' : ℕ) (xs : List ℕ) (by : ℕ) → IsNamed o kept xs [] None kept' → IsGrown o kept xs by xs kept'
grown_done Round kept kept' xs by h =
    subst (λ k. IsRoundGrown kept xs by xs k) (sym h.1) (IsRoundGrown-still kept xs by (added-none xs by h.0))
grown_done Least kept kept' xs by h = IsMinGrown-still true xs by (added-none xs by h)
grown_done Greatest kept kept' xs by h = IsGrownAt-still (λ v. IsGreatest true v []) xs by (added-none xs by h)
grown_done Leftmost kept kept' xs by h = IsGrownAt-still (λ v. IsOutermost false v []) xs by (added-none xs by h)
grown_done Rightmost kept kept' xs by h = IsGrownAt-still (λ v. IsOutermost true v []) xs by (added-none xs by h)

pub Grows-done : (s t : OrderPriority) (xs : List ℕ) (by : ℕ) → Names s xs [] None t → Grows s xs by xs t
Grows-done s t xs by h = (grown_done s.order s.round.kept t.round.kept xs by h.0, h.1)

grown_step : (o : Order) (kept next last : ℕ) (xs new : List ℕ) (by i : ℕ) → IsNamed o kept xs [] (Some i) next
    → IsGrown o next (raised xs i) by new last → IsGrown o kept xs (by + 1) new last
grown_step Round kept next last xs new by i h rest =
    IsRoundGrown-step kept xs i by new last h.0 (subst (λ k. IsRoundGrown k (raised xs i) by new last) h.1 rest)
grown_step Least kept next last xs new by i h rest = IsMinGrown-step true xs i by new h rest
grown_step Greatest kept next last xs new by i h rest = IsMaxGrown-step true xs i by new h rest
grown_step Leftmost kept next last xs new by i h rest = IsSideGrown-step false xs i by new h rest
grown_step Rightmost kept next last xs new by i h rest = IsSideGrown-step true xs i by new h rest

pub Grows-step : (s t u : OrderPriority) (xs new : List ℕ) (by i : ℕ) → Names s xs [] (Some i) t → Grows t (raised xs i) by new u
    → Grows s xs (by + 1) new u
Grows-step s t u xs new by i h rest = (
  grown_step s.order s.round.kept t.round.kept u.round.kept xs new by i h.0
      (subst (λ o. IsGrown o t.round.kept (raised xs i) by new u.round.kept) h.1 rest.0),
  rest.1 ∙ h.1,
)
