-- Plans whose lines are put together piece by piece, each of known columns.
use Rattle.tabled_pool.proofs.Names.{DrawingPlan, Kind, Leaf, List, Part, Some, [], around_at, border_char, covering, encode_utf8}
use Rattle.tabled_pool.proofs.Names.{leaf_line, line_columns, nothing_around, owner, suc, whole, within, ℕ, ◌++◌, ◌+◌, ◌-◌, ◌≡◌}

-- what is known of a text that is out on the line y before the place x, and takes n columns: nothing is out at first,
-- and each piece that may stand at x adds its columns; a leaf that goes on adds nothing
pub record IsDrawable (t : DrawingPlan) (Out : ℕ → ℕ → List ℕ → ℕ → Type 0) : Type 0 where
  pub once : (x y : ℕ) → covering t.parts x y ≡ within (whole t) x y
  pub bare : (x y : ℕ) → around_at t t.parts x y ≡ nothing_around
  pub columns : (y x : ℕ) (out : List ℕ) (n : ℕ) → Out y x out n → line_columns out ≡ n
  pub none : (y : ℕ) → Out y 0 [] 0
  pub border : (y x : ℕ) (k : Kind) (p : Part) (out : List ℕ) (n : ℕ) → owner t.parts x y ≡ Some p
      → Out y x out n → Out y (suc x) (out ++ encode_utf8 (border_char t k p.place x y)) (n + 1)
  pub leaf : (y x : ℕ) (p : Part) (out : List ℕ) (n : ℕ) → owner t.parts x y ≡ Some p → p.kind ≡ Leaf → p.place.x ≡ x
      → Out y x out n → Out y (suc x) (out ++ leaf_line t p (y - p.place.y)) (n + p.place.width)
  pub goes : (y x : ℕ) (p : Part) (out : List ℕ) (n : ℕ) → owner t.parts x y ≡ Some p → p.kind ≡ Leaf
      → Out y x out n → Out y (suc x) out n
