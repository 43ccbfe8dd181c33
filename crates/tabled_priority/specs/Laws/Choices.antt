-- The laws of the priorities that have no state.
use Rattle.std.proofs.Common.{◌≡◌, ℕ, ◌+◌, List, [], Some, None, refl, subst, ◌∙◌}
use Rattle.tabled_priority.specs.declared.choice.Choice.{Choice}
use Rattle.tabled_priority.specs.declared.choice.Choice.TheVariants.{Outermost, Greatest, Least}
use Rattle.tabled_priority.specs.Choices.{IsChosen, IsShrunkBy, IsGrownBy, peaks_by, shrinks_by, grows_by}
use Rattle.tabled_priority.specs.Grown.{added}
use Rattle.tabled_priority.specs.Laws.Grown.{IsGrownAt-still, IsMaxGrown-step, IsMinGrown-step}
use Rattle.tabled_priority.specs.Laws.Grown.{IsMinGrown-still, IsSideGrown-step, added-none, added-nothing}
use Rattle.tabled_priority.specs.Laws.Permitted.{taken-none, taken-nothing}
use Rattle.tabled_priority.specs.Laws.Shrunk.{IsMaxShrunk-step, IsMaxShrunk-still, IsMinShrunk-step}
use Rattle.tabled_priority.specs.Laws.Shrunk.{IsMinShrunk-still, IsSideShrunk-step, IsSideShrunk-still}
use Rattle.tabled_priority.specs.Peak.{IsGreatest, IsOutermost}
use Rattle.tabled_priority.specs.Permitted.{FitsMinimums, IsAbove, IsTakenFrom, lowered, raised, taken}

pub IsShrunkBy-takes : (k : Choice) (old mins : List ℕ) (by : ℕ) (new : List ℕ)
    → IsShrunkBy k old mins by new → IsTakenFrom old mins by new
IsShrunkBy-takes (Outermost right) old mins by new h = h.takes
IsShrunkBy-takes (Greatest right) old mins by new h = h.takes
IsShrunkBy-takes (Least right) old mins by new h = h.takes

IsShrunkBy-still : (k : Choice) (xs mins : List ℕ) (by : ℕ) → taken xs mins by ≡ 0 → IsShrunkBy k xs mins by xs
IsShrunkBy-still (Outermost right) = IsSideShrunk-still right
IsShrunkBy-still (Greatest right) = IsMaxShrunk-still right
IsShrunkBy-still (Least right) = IsMinShrunk-still right

step : (k : Choice) (xs mins : List ℕ) (i by : ℕ) (new : List ℕ) → IsChosen k xs mins i
    → IsShrunkBy k (lowered xs i) mins by new → IsShrunkBy k xs mins (by + 1) new
step (Outermost right) = IsSideShrunk-step right
step (Greatest right) = IsMaxShrunk-step right
step (Least right) = IsMinShrunk-step right

IsGrownBy-still : (k : Choice) (xs : List ℕ) (by : ℕ) → added xs by ≡ 0 → IsGrownBy k xs by xs
IsGrownBy-still (Outermost right) = IsGrownAt-still (λ v. IsOutermost right v [])
IsGrownBy-still (Greatest right) = IsGrownAt-still (λ v. IsGreatest right v [])
IsGrownBy-still (Least right) = IsMinGrown-still right

grown_step : (k : Choice) (xs : List ℕ) (i by : ℕ) (new : List ℕ) → IsChosen k xs [] i
    → IsGrownBy k (raised xs i) by new → IsGrownBy k xs (by + 1) new
grown_step (Outermost right) = IsSideGrown-step right
grown_step (Greatest right) = IsMaxGrown-step right
grown_step (Least right) = IsMinGrown-step right

module _ {S : Type 0} (choice : S → Choice) where
  pub shrinks_by-none : (s : S) (xs mins : List ℕ) → shrinks_by choice s xs mins 0 xs s
  shrinks_by-none s xs mins = (IsShrunkBy-still (choice s) xs mins 0 (taken-nothing xs mins), refl)

  pub shrinks_by-done : (s t : S) (xs mins : List ℕ) (by : ℕ) → FitsMinimums xs mins
      → peaks_by choice s xs mins None t → shrinks_by choice s xs mins by xs t
  shrinks_by-done s t xs mins by fits named =
      (IsShrunkBy-still (choice s) xs mins by (taken-none xs mins by named.0), named.1)

  pub shrinks_by-step : (s t u : S) (xs mins new : List ℕ) (by i : ℕ)
      → FitsMinimums xs mins → IsAbove xs mins i
      → peaks_by choice s xs mins (Some i) t → shrinks_by choice t (lowered xs i) mins by new u
      → shrinks_by choice s xs mins (by + 1) new u
  shrinks_by-step s t u xs mins new by i fits above named rest = (
    step (choice s) xs mins i by new named.0
        (subst (λ k. IsShrunkBy (choice k) (lowered xs i) mins by new) named.1 rest.0),
    rest.1 ∙ named.1,
  )

  pub shrinks_by-takes : (s t : S) (old mins new : List ℕ) (by : ℕ)
      → shrinks_by choice s old mins by new t → IsTakenFrom old mins by new
  shrinks_by-takes s t old mins new by h = IsShrunkBy-takes (choice s) old mins by new h.0

  pub grows_by-nothing : (s : S) (xs : List ℕ) → grows_by choice s xs 0 xs s
  grows_by-nothing s xs = (IsGrownBy-still (choice s) xs 0 (added-nothing xs), refl)

  pub grows_by-none : (s t : S) (xs : List ℕ) (by : ℕ) → peaks_by choice s xs [] None t
      → grows_by choice s xs by xs t
  grows_by-none s t xs by named = (IsGrownBy-still (choice s) xs by (added-none xs by named.0), named.1)

  pub grows_by-step : (s t u : S) (xs new : List ℕ) (by i : ℕ) → IsAbove xs [] i
      → peaks_by choice s xs [] (Some i) t → grows_by choice t (raised xs i) by new u
      → grows_by choice s xs (by + 1) new u
  grows_by-step s t u xs new by i above named rest = (
    grown_step (choice s) xs i by new named.0
        (subst (λ k. IsGrownBy (choice k) (raised xs i) by new) named.1 rest.0),
    rest.1 ∙ named.1,
  )
