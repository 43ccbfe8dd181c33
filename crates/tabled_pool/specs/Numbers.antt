-- Of private steps: no public call promises this.
-- Pieces by their numbers in the list of a drawing.
use Rattle.std.specs.Prelude.{◌≡◌, ℕ, ◌<◌, ◌≤◌, ◌+◌, false, true, List, map, drop, slice_get, length, Option, Some, None}
use Rattle.tabled_pool.specs.declared.color_marks.First.{First}
use Rattle.tabled_pool.specs.declared.piece.Piece.{Piece}
use Rattle.tabled_pool.specs.Around.{around_at, around_part}
use Rattle.tabled_pool.specs.Boxes.{Part, is_line_kind, contains, owner, drawn_part}
use Rattle.tabled_pool.specs.Plan.{DrawingPlan, around_of}

-- the number of the piece at a position
abbrev pub IsNumber : List Piece → ℕ → ℕ → Option ℕ → Type 0
IsNumber ps x y None = owner (map drawn_part ps) x y ≡ None
IsNumber ps x y (Some k) = (k < length ps) × (slice_get (map drawn_part ps) k ≡ owner (map drawn_part ps) x y)

-- a text with at least one column and one line
pub record IsSized (p : Part) : Type 0 where
  pub wide : 0 < p.place.width
  pub tall : 0 < p.place.height

abbrev pub AreSized : List Part → Type 0
AreSized ps = (k : ℕ) (p : Part) → slice_get ps k ≡ Some p → is_line_kind p.kind ≡ false → IsSized p

-- no part before number `n` that is at (u, v) draws the border at (x, y)
abbrev pub Skips : DrawingPlan → ℕ → ℕ → ℕ → ℕ → ℕ → Type 0
Skips t x y n u v =
    (k : ℕ) (p : Part) → k < n → slice_get t.parts k ≡ Some p → contains p.place u v ≡ true → around_part t p x y ≡ None

abbrev pub SkipsBeside : DrawingPlan → ℕ → First → First → ℕ → Type 0
SkipsBeside t y old new v = (u : ℕ) → u ≤ old.x + 1 → old.x ≤ u + 1 → Skips t old.x y new.number u v

-- the marks are those of the parts from a number on
pub record IsFirst (t : DrawingPlan) (y : ℕ) (f : First) : Type 0 where
  pub inside : f.x < t.width
  pub marks : around_of f.marks ≡ around_at t (drop f.number t.parts) f.x y

-- an earlier part was found, or none
pub record IsEarlier (t : DrawingPlan) (y : ℕ) (old new : First) : Type 0 where
  pub first : IsFirst t y new
  pub column : new.x ≡ old.x
  pub fewer : new.number ≤ old.number
