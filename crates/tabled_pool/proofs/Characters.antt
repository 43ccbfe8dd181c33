-- The characters of lines are all of a kind if those of the borders are.
use Rattle.tabled_pool.proofs.Names.{Bar, Bool, Borders, DrawingPlan, EachCharacter, Kind, Leaf, Option, Rectangle, Rule, border_char}
use Rattle.tabled_pool.proofs.Names.{false, is_border, is_border_above, is_border_before, true, unwrap_or, ℕ, ◌&&◌, ◌+◌, ◌==◌, ◌||◌}
use Rattle.std.proofs.lemmas.Bool.{cond_both}
use Rattle.tabled_config.specs.Frame.{has_right}
use Rattle.tabled_config.specs.Junction.{junction}
use Rattle.tabled_pool.specs.Plan.{has_bottom}
use Rattle.tabled_pool.specs.Drawn.{main_of}

-- a missing character is a space
abbrev Of : (ℕ → Type 0) → Option ℕ → Type 0
Of IsKind c = IsKind (unwrap_or c 32)

junction-kind : (IsKind : ℕ → Type 0) (b : Borders ℕ) → IsKind 32 → EachCharacter IsKind b → (l r u d : Bool) → Of IsKind (junction b l r u d)
junction-kind IsKind b s h false true false true = h.top_left
junction-kind IsKind b s h true false false true = h.top_right
junction-kind IsKind b s h false true true false = h.bottom_left
junction-kind IsKind b s h true false true false = h.bottom_right
junction-kind IsKind b s h true true false true = h.top_intersection
junction-kind IsKind b s h true true true false = h.bottom_intersection
junction-kind IsKind b s h false true true true = h.left_intersection
junction-kind IsKind b s h true false true true = h.right_intersection
junction-kind IsKind b s h true true true true = h.intersection
junction-kind IsKind b s h false false false false = s
junction-kind IsKind b s h false false false true = s
junction-kind IsKind b s h false false true false = s
junction-kind IsKind b s h false false true true = s
junction-kind IsKind b s h false true false false = s
junction-kind IsKind b s h true false false false = s
junction-kind IsKind b s h true true false false = s

main-kind : (IsKind : ℕ → Type 0) (t : DrawingPlan) → IsKind 32 → EachCharacter IsKind t.borders → (k : Kind) (r : Rectangle) → Of IsKind (main_of t k r)
main-kind IsKind t s h Leaf r = s
main-kind IsKind t s h Bar r =
    cond_both (has_right t.borders && (r.x + r.width == t.width)) t.borders.right t.borders.left (Of IsKind) (λ _. h.right) (λ _. h.left)
main-kind IsKind t s h Rule r =
    cond_both (has_bottom t.borders && (r.y + r.height == t.height)) t.borders.bottom t.borders.top (Of IsKind) (λ _. h.bottom) (λ _. h.top)

pub char-kind : (IsKind : ℕ → Type 0) (t : DrawingPlan) → IsKind 32 → EachCharacter IsKind t.borders → (k : Kind) (r : Rectangle) (x y : ℕ)
    → IsKind (border_char t k r x y)
unfolding border_char
char-kind IsKind t s h k r x y =
    let left = is_border_before t.parts x y in
    let right = is_border t.parts (x + 1) y in
    let up = is_border_above t.parts x y in
    let down = is_border t.parts x (y + 1) in
    cond_both ((left || right) && (up || down)) (junction t.borders left right up down) (main_of t k r) (Of IsKind)
    (λ _. junction-kind IsKind t.borders s h left right up down) (λ _. main-kind IsKind t s h k r)
