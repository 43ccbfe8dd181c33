-- What is drawn tiles its parts.
use Rattle.tabled_pool.proofs.Names.{DrawingPlan, Leaf, List, Part, Some, Tiled, ap, arith, drawn_line, flat_map, inl, inr, leaf_line}
use Rattle.tabled_pool.proofs.Names.{owner, part_text, place_text, range_with_len, refl, whole, within, ℕ, ◌++◌, ◌+◌, ◌-◌, ◌<◌, ◌∙◌, ◌≡◌}
use Rattle.tabled_pool.proofs.Names.{◌≤◌, ◌⊎◌}
use Rattle.tabled_line.proofs.Each.{each-rest}
use Rattle.tabled_pool.specs.Drawn.{StandsAt}
use Rattle.tabled_pool.proofs.Owners.{inside-within, within-inside, within-le, owner-inside, counted}
use Rattle.tabled_pool.proofs.Runs.{part-border, place-owned}
use Rattle.tabled_pool.proofs.UpcomingCells.{ahead, whole-inside, unique, Begins, Goes, before, leaf-begins, out-line}
use Rattle.tabled_pool.proofs.Columns.{border-bare, out, prefix}
use Rattle.tabled_pool.proofs.Drawable.{IsDrawable}

stands : {Out : ℕ → ℕ → List ℕ → ℕ → Type 0} (t : DrawingPlan) (d : IsDrawable t Out) (x y : ℕ) (piece : List ℕ) → x < t.width → y < t.height → ahead t y x ≡ x
    → place_text t y x ≡ piece → StandsAt (drawn_line t y) x piece
unfolding drawn_line
stands t d x y piece h v e0 e = record {
  front = flat_map (place_text t y) (range_with_len 0 x);
  rest = flat_map (place_text t y) (range_with_len (x + 1) (t.width - x - 1));
  whole = each-rest (place_text t y) x t.width h ∙ ap
      (λ u. flat_map (place_text t y) (range_with_len 0 x) ++ (u ++ flat_map (place_text t y) (range_with_len (x + 1) (t.width - x - 1)))) e;
  columns = d.columns y x (out t y x) (ahead t y x) (prefix t d y x (omega arith) v) ∙ e0;
}

begins-leaf : (t : DrawingPlan) (y : ℕ) (p : Part) → Begins t y p.place.x p ⊎ Goes t y p.place.x p → ahead t y p.place.x ≡ p.place.x
begins-leaf t y p (inl b) = b.out
begins-leaf t y p (inr g) = absurd (omega (arith, g.started))

leaf-stands : {Out : ℕ → ℕ → List ℕ → ℕ → Type 0} (t : DrawingPlan) (d : IsDrawable t Out) (u v y : ℕ) (p : Part) → owner t.parts u v ≡ Some p → p.kind ≡ Leaf
    → p.place.y ≤ y → y < p.place.y + p.place.height → StandsAt (drawn_line t y) p.place.x (leaf_line t p (y - p.place.y))
leaf-stands t d u v y p o e a b =
    let i = within-inside p.place u v (owner-inside t.parts u v p o) in
    let w : within p.place p.place.x y ≡ 1 = inside-within p.place p.place.x y
    (record { left = omega arith; right = omega (arith, i.left, i.right); top = a; bottom = b }) in
    let here = unique t d.once u v p.place.x y p o w in
    let c = counted t.parts u v p.place.x y p o w in
    let inner = within-inside (whole t) p.place.x y (omega (arith, c, d.once p.place.x y, within-le (whole t) p.place.x y)) in
    let wide : p.place.x < t.width = omega (arith, inner.right) in
    let tall : y < t.height = omega (arith, inner.bottom) in
    stands t d p.place.x y (leaf_line t p (y - p.place.y)) wide tall
    (begins-leaf t y p (before t d.once y p.place.x p wide tall here))
    (place-owned t p.place.x y p here ∙ ap (λ k. part_text t k p p.place.x y) e ∙ leaf-begins t p p.place.x y refl)

pub drawn_tiles : {Out : ℕ → ℕ → List ℕ → ℕ → Type 0} (t : DrawingPlan) → IsDrawable t Out → Tiled t
drawn_tiles t d = record {
  once = λ x y h v. d.once x y ∙ whole-inside t x y h v;
  leaf = λ u v y p o e a b. leaf-stands t d u v y p o e a b;
  border = λ x y p h v o l. stands t d x y _ h v (out-line t y x p p.kind refl l (before t d.once y x p h v o))
      (place-owned t x y p o ∙ part-border t p.kind p x y l ∙ border-bare t d p.kind p.place x y);
}
