-- A text with padding at a side is given a column, and each text a line.
use Rattle.tabled_pool.proofs.Names.{AreSized, Bar, Bool, BoxSpacing, HasColumns, IsSized, IsUtf8, IsUtf8-nil, Kind, Leaf, List, Part}
use Rattle.tabled_pool.proofs.Names.{PoolTable, Rule, Some, [], arith, borders_of, common_steps, false, frame_of, frame_place}
use Rattle.tabled_pool.proofs.Names.{has_zero_width, is_line_kind, nat_tests, plan, refl, slice_get, spacing_of, subst, suc, sym, true}
use Rattle.tabled_pool.proofs.Names.{zero, ℕ, ◌&&◌, ◌+◌, ◌<◌, ◌==◌, ◌||◌, ◌∷◌, ◌≡◌}
use Rattle.std.proofs.Common.{not}
use Rattle.tabled_text.proofs.Bridge.{some_line}
use Rattle.tabled_pool.proofs.Tiling.{EachPart, IsHeld, framed-held}
use Rattle.tabled_pool.proofs.Trees.{tree-utf8}
use Rattle.tabled_pool.specs.Inherited.{is_zero_width}
use Rattle.tabled_pool.specs.Pool.{IsPadded}

not-zero : (n : ℕ) → 0 < n → (n == 0) ≡ false
not-zero n h = grind (arith, common_steps)

not-bare : (k : Kind) (width : ℕ) → (k ≡ Leaf → 0 < width) → (not (is_line_kind k) && width == 0) ≡ false
not-bare Leaf width h = not-zero width (h refl)
not-bare Bar width h = refl
not-bare Rule width h = refl

abbrev Held : BoxSpacing → Part → Type 0
Held g = IsHeld g IsUtf8

held_parts : (t : PoolTable) → EachPart (Held (spacing_of t)) (plan t).parts
unfolding plan
held_parts t =
    framed-held (spacing_of t) IsUtf8 IsUtf8-nil t.value (tree-utf8 t.value) (frame_of (borders_of t)) (frame_place t) (omega arith) (omega arith)

fits-columns : (g : BoxSpacing) (ps : List Part) → 0 < g.padding.left.size + g.padding.right.size → EachPart (Held g) ps → has_zero_width ps ≡ false
fits-columns g [] z held = refl
fits-columns g (p ∷ ps) z (own, held) =
    let here : is_zero_width p ≡ false = not-bare p.kind p.place.width (λ k. omega (arith, own.wide k)) in
    rw here (fits-columns g ps z held)

pub padded_columns : (t : PoolTable) → IsPadded t → HasColumns t
padded_columns t z = fits-columns (spacing_of t) _ z (held_parts t)

-- ---- where each text has a column

zero-free : (n : ℕ) → (n == 0) ≡ false → 0 < n
zero-free n h = grind (arith, nat_tests)

sized-leaf : (g : BoxSpacing) (p : Part) (k : Kind) → p.kind ≡ k → is_line_kind k ≡ false → Held g p
    → (not (is_line_kind k) && p.place.width == 0) ≡ false → IsSized p
sized-leaf g p Leaf e l f z =
    record { wide = zero-free p.place.width z; tall = omega (arith, f.tall e, some_line p.text) }
sized-leaf g p Bar e l f z = cc
sized-leaf g p Rule e l f z = cc

neither : (a b : Bool) → (a || b) ≡ false → (a ≡ false) × (b ≡ false)
neither true b h = cc
neither false b h = (refl, h)

sized-at : (g : BoxSpacing) (ps : List Part) (k : ℕ) (p : Part) → EachPart (Held g) ps → has_zero_width ps ≡ false → slice_get ps k ≡ Some p
    → is_line_kind p.kind ≡ false → IsSized p
sized-at g [] k p f z h l = cc
sized-at g (q ∷ ps) zero p (f, fs) z h l =
    let e : q ≡ p = cc in
    let n = neither (is_zero_width q) (has_zero_width ps) z in
    subst IsSized e (sized-leaf g q q.kind refl (subst (λ (r : Part). is_line_kind r.kind ≡ false) (sym e) l) f n.0)
sized-at g (q ∷ ps) (suc k) p (f, fs) z h l =
    sized-at g ps k p fs (neither (is_zero_width q) (has_zero_width ps) z).1 h l

pub sized_parts : (t : PoolTable) → HasColumns t → AreSized (plan t).parts
sized_parts t h = λ k p e l. sized-at (spacing_of t) _ k p (held_parts t) h e l
