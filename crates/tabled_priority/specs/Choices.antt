-- The priorities that have no state: they choose an index by the values alone.
use Rattle.std.specs.Prelude.{◌≡◌, ◌==◌, ◌&&◌, ◌||◌, ℕ, Bool, List, [], Option, MatchOption, nat_lt}
use Rattle.tabled_priority.specs.declared.choice.Choice.{Choice}
use Rattle.tabled_priority.specs.declared.choice.Choice.TheVariants.{Outermost, Greatest, Least}
use Rattle.tabled_priority.specs.Grown.{IsGrownAt, IsMinGrown}
use Rattle.tabled_priority.specs.Peak.{IsGreatest, IsLeast, IsOutermost, NoneAbove}
use Rattle.tabled_priority.specs.Shrunk.{IsMaxShrunk, IsMinShrunk, IsSideShrunk}

-- the value above its minimum that comes first
abbrev pub IsChosen : Choice → List ℕ → List ℕ → ℕ → Type 0
IsChosen (Outermost right) = IsOutermost right
IsChosen (Greatest right) = IsGreatest right
IsChosen (Least right) = IsLeast right

-- a value comes before another one that is further left
abbrev pub is_ahead : Choice → ℕ → ℕ → Bool
is_ahead (Outermost right) value other = right
is_ahead (Greatest right) value other = nat_lt other value || (right && (other == value))
is_ahead (Least right) value other = nat_lt value other || (right && (other == value))

-- the list that shrank
abbrev pub IsShrunkBy : Choice → List ℕ → List ℕ → ℕ → List ℕ → Type 0
IsShrunkBy (Outermost right) = IsSideShrunk right
IsShrunkBy (Greatest right) = IsMaxShrunk right
IsShrunkBy (Least right) = IsMinShrunk right

-- the list that grew
abbrev pub IsGrownBy : Choice → List ℕ → ℕ → List ℕ → Type 0
IsGrownBy (Outermost right) = IsGrownAt (λ values. IsOutermost right values [])
IsGrownBy (Greatest right) = IsGrownAt (λ values. IsGreatest right values [])
IsGrownBy (Least right) = IsMinGrown right

-- what `peak`, `shrink` and `grow` do, and that the state stays
abbrev pub peaks_by : {S : Type 0} → (S → Choice) → S → List ℕ → List ℕ → Option ℕ → S → Type 0
peaks_by choice s values mins answer t =
    MatchOption answer (NoneAbove values mins) (IsChosen (choice s) values mins) × (t ≡ s)

abbrev pub shrinks_by : {S : Type 0} → (S → Choice) → S → List ℕ → List ℕ → ℕ → List ℕ → S → Type 0
shrinks_by choice s old mins by new t = IsShrunkBy (choice s) old mins by new × (t ≡ s)

abbrev pub grows_by : {S : Type 0} → (S → Choice) → S → List ℕ → ℕ → List ℕ → S → Type 0
grows_by choice s old by new t = IsGrownBy (choice s) old by new × (t ≡ s)
