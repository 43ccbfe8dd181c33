-- The lines of the block of a text with the borders that it draws.
use Rattle.tabled_pool.proofs.Names.{Bool, Borders, DrawingPlan, InheritedSheet, List, [], ap, arith, false, get_or, get_or-map-range_with_len, inner_text, length}
use Rattle.tabled_pool.proofs.Names.{length-map-range_with_len, map, range_with_len, refl, true, zero, suc, ℕ, ◌++◌, ◌+◌, ◌-◌, ◌<◌, ◌∙◌, ◌≡◌, ◌≤◌}
use Rattle.std.proofs.lemmas.List.{get_or-append_right, get_or_append_left, length-append}
use Rattle.tabled_priority.specs.Sums.{one_if}
use Rattle.tabled_pool.specs.Inherited.{bottom_text, is_bottom, is_left, is_right, is_top, line_if, top_text}
unfoldable use Rattle.tabled_pool.specs.Inherited.{bordered_block}

count-if : (x : Bool) (l : List ℕ) → length (line_if x l) ≡ one_if x
count-if true l = refl
count-if false l = refl

-- a line, then others, then a line
between : Bool → Bool → List ℕ → List (List ℕ) → List ℕ → List (List ℕ)
between x z first lines last = line_if x first ++ (lines ++ line_if z last)

count-between : (x z : Bool) (first : List ℕ) (lines : List (List ℕ)) (last : List ℕ)
    → length (between x z first lines last) ≡ length lines + (one_if x + one_if z)
unfolding between
count-between x z first lines last = omega (
  arith,
  length-append (line_if x first) (lines ++ line_if z last),
  length-append lines (line_if z last),
  count-if x first,
  count-if z last,
)

the-first : (x z : Bool) (first : List ℕ) (lines : List (List ℕ)) (last : List ℕ) (y : ℕ) → y < one_if x
    → get_or (between x z first lines last) y [] ≡ first
unfolding between
the-first true z first lines last zero h = refl
the-first true z first lines last (suc y) h = absurd (omega (arith, h))
the-first false z first lines last y h = absurd (omega (arith, h))

behind-first : (x z : Bool) (first : List ℕ) (lines : List (List ℕ)) (last : List ℕ) (y : ℕ) → one_if x ≤ y
    → get_or (between x z first lines last) y [] ≡ get_or (lines ++ line_if z last) (y - one_if x) []
unfolding between
behind-first x z first lines last y h =
    get_or-append_right (line_if x first) (lines ++ line_if z last) (one_if x) y [] (count-if x first) h

the-last : (z : Bool) (last : List ℕ) (y : ℕ) → y < one_if z → get_or (line_if z last) y [] ≡ last
the-last true last zero h = refl
the-last true last (suc y) h = absurd (omega (arith, h))
the-last false last y h = absurd (omega (arith, h))

module _ (t : DrawingPlan) (b : Borders ℕ) (h : InheritedSheet) (text : List ℕ) where
  pub block_count : length (bordered_block t b h text).lines ≡ h.place.height + (one_if (is_top b) + one_if (is_bottom b))
  unfolding bordered_block between
  block_count =
      count-between (is_top b) (is_bottom b) (top_text t b h) (map (inner_text t b h text) (range_with_len 0 h.place.height)) (bottom_text t b h)
      ∙ ap (λ n. n + (one_if (is_top b) + one_if (is_bottom b))) (length-map-range_with_len (inner_text t b h text) 0 h.place.height)

  pub block_width : (bordered_block t b h text).width ≡ h.place.width + (one_if (is_left b) + one_if (is_right b))
  unfolding bordered_block
  block_width = omega arith

  pub top_line : (y : ℕ) → y < one_if (is_top b) → get_or (bordered_block t b h text).lines y [] ≡ top_text t b h
  unfolding bordered_block between
  top_line y l = the-first (is_top b) (is_bottom b) (top_text t b h) _ (bottom_text t b h) y l

  pub inner_line : (y : ℕ) → one_if (is_top b) ≤ y → y - one_if (is_top b) < h.place.height
      → get_or (bordered_block t b h text).lines y [] ≡ inner_text t b h text (y - one_if (is_top b))
  unfolding bordered_block between
  inner_line y l m =
      let lines = map (inner_text t b h text) (range_with_len 0 h.place.height) in
      let n = length-map-range_with_len (inner_text t b h text) 0 h.place.height in
      behind-first (is_top b) (is_bottom b) (top_text t b h) lines (bottom_text t b h) y l
      ∙ get_or_append_left lines (line_if (is_bottom b) (bottom_text t b h)) [] (y - one_if (is_top b)) (omega (arith, m, n))
      ∙ get_or-map-range_with_len (inner_text t b h text) 0 h.place.height _ _ [] m (omega arith)

  pub bottom_line : (y : ℕ) → one_if (is_top b) ≤ y → h.place.height ≤ y - one_if (is_top b)
      → y < length (bordered_block t b h text).lines → get_or (bordered_block t b h text).lines y [] ≡ bottom_text t b h
  unfolding bordered_block between
  bottom_line y l m k =
      let lines = map (inner_text t b h text) (range_with_len 0 h.place.height) in
      let n = length-map-range_with_len (inner_text t b h text) 0 h.place.height in
      behind-first (is_top b) (is_bottom b) (top_text t b h) lines (bottom_text t b h) y l
      ∙ get_or-append_right lines (line_if (is_bottom b) (bottom_text t b h)) h.place.height (y - one_if (is_top b)) [] n m
      ∙ the-last (is_bottom b) (bottom_text t b h) _ (omega (arith, m, n, k, block_count))
