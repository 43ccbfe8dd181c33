-- Lines below each other: there is a line feed before each one except the first.
use Rattle.std.specs.Prelude.{◌≡◌, ℕ, Bool, true, false, List, [], ◌∷◌, ◌++◌, Result, Ok, Err}
use Rattle.tabled_base.specs.declared.error.TableError.{TableError}
use Rattle.tabled_line.specs.Sent.{Sent, Sends, Stops}

-- the line feed before a line, if a line was written before
abbrev pub break : Bool → List ℕ
break true = 10 ∷ []
break false = []

-- the text of lines; `begun` says whether a line was written before
abbrev pub lines_after : Bool → List (List ℕ) → List ℕ
lines_after begun [] = []
lines_after begun (l ∷ ls) = break begun ++ (l ++ lines_after true ls)

-- whether a line was written, after these lines
abbrev pub begun_after : Bool → List (List ℕ) → Bool
begun_after begun [] = begun
begun_after begun (l ∷ ls) = true

pub record LineSends (old : Sent) (begun : Bool) (new : Sent) (begun' : Bool) (lines : List (List ℕ)) : Type 0 where
  pub sends : Sends old new (lines_after begun lines)
  pub after : begun' ≡ begun_after begun lines

pub record LineStops (old : Sent) (begun : Bool) (e : TableError) (new : Sent) (lines : List (List ℕ)) : Type 0 where
  pub stops : Stops old e new (lines_after begun lines)

-- what a call that writes lines leaves, by its result
abbrev pub WritesLines : {T : Type 0} → Sent → Bool → Result T TableError → Sent → Bool → List (List ℕ) → Type 0
WritesLines old begun (Ok _) new begun' lines = LineSends old begun new begun' lines
WritesLines old begun (Err e) new begun' lines = LineStops old begun e new lines
