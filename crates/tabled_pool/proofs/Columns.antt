-- Each drawn line takes the columns of the whole.
use Rattle.tabled_pool.proofs.Names.{All, Bar, DrawingPlan, EachLineTakes, Kind, Leaf, List, Part, Rectangle, Rule, Some, ap, append-nil}
use Rattle.tabled_pool.proofs.Names.{arith, border_char, border_text, drawn, drawn_line, each-more, encode_utf8, flat_map}
use Rattle.tabled_pool.proofs.Names.{get_or-map-range_with_len, inl, inr, length-map-range_with_len, line_columns, owned_text, owner}
use Rattle.tabled_pool.proofs.Names.{part_text, place_text, range_with_len, refl, subst, suc, sym, within_marks, zero, ℕ, ◌++◌, ◌+◌, ◌<◌}
use Rattle.tabled_pool.proofs.Names.{◌∙◌, ◌≡◌, ◌≤◌, ◌⊎◌}
use Rattle.tabled_pool.proofs.UpcomingCells.{ahead, ahead_of, ahead_kind, before, ends, leaf-begins, leaf-goes, out-leaf, out-line, owned}
use Rattle.tabled_pool.proofs.UpcomingCells.{Begins, Goes}
use Rattle.tabled_pool.proofs.Drawable.{IsDrawable}

-- without colours a character stands by itself
pub border-bare : {Out : ℕ → ℕ → List ℕ → ℕ → Type 0} (t : DrawingPlan) (d : IsDrawable t Out) (k : Kind) (r : Rectangle) (x y : ℕ)
    → border_text t k r x y ≡ encode_utf8 (border_char t k r x y)
unfolding border_text
border-bare t d k r x y =
    ap (λ a. within_marks a (encode_utf8 (border_char t k r x y))) (d.bare x y) ∙ append-nil (encode_utf8 (border_char t k r x y))

-- what is out on the line y before the place n
abbrev pub out : DrawingPlan → ℕ → ℕ → List ℕ
out t y n = flat_map (place_text t y) (range_with_len 0 n)

-- behind what stands at the place n
pub record Behind (t : DrawingPlan) (Out : ℕ → ℕ → List ℕ → ℕ → Type 0) (y n : ℕ) (k : Kind) (p : Part) : Type 0 where
  pub out : Out y (suc n) (out t y n ++ part_text t k p n y) (ahead_kind k p.place n)

behind-border : {Out : ℕ → ℕ → List ℕ → ℕ → Type 0} (t : DrawingPlan) (d : IsDrawable t Out) (y n : ℕ) (k : Kind) (p : Part)
    → owner t.parts n y ≡ Some p → ahead t y n ≡ n → Out y n (out t y n) (ahead t y n)
    → Out y (suc n) (out t y n ++ border_text t k p.place n y) (suc n)
behind-border {Out} t d y n k p o e h =
    let f : ahead t y n + 1 ≡ suc n = omega (arith, e) in
    subst (λ m. Out y (suc n) (out t y n ++ border_text t k p.place n y) m) f
    (subst (λ bs. Out y (suc n) (out t y n ++ bs) (ahead t y n + 1)) (sym (border-bare t d k p.place n y))
    (d.border y n k p (out t y n) (ahead t y n) o h))

behind-leaf : {Out : ℕ → ℕ → List ℕ → ℕ → Type 0} (t : DrawingPlan) (d : IsDrawable t Out) (y n : ℕ) (p : Part) → p.kind ≡ Leaf
    → owner t.parts n y ≡ Some p → Begins t y n p ⊎ Goes t y n p → Out y n (out t y n) (ahead t y n)
    → Out y (suc n) (out t y n ++ part_text t Leaf p n y) (p.place.x + p.place.width)
behind-leaf {Out} t d y n p e o (inl b) h =
    let f : ahead t y n + p.place.width ≡ p.place.x + p.place.width = omega (arith, b.out, b.start) in
    subst (λ m. Out y (suc n) (out t y n ++ part_text t Leaf p n y) m) f
    (subst (λ bs. Out y (suc n) (out t y n ++ bs) (ahead t y n + p.place.width)) (sym (leaf-begins t p n y b.start))
    (d.leaf y n p (out t y n) (ahead t y n) o e b.start h))
behind-leaf {Out} t d y n p e o (inr g) h =
    subst (λ bs. Out y (suc n) bs (p.place.x + p.place.width))
    (sym (ap (λ bs. out t y n ++ bs) (leaf-goes t p n y g.started) ∙ append-nil (out t y n)))
    (subst (Out y (suc n) (out t y n)) (out-leaf t y n p e g) (d.goes y n p (out t y n) (ahead t y n) o e h))

behind : {Out : ℕ → ℕ → List ℕ → ℕ → Type 0} (t : DrawingPlan) (d : IsDrawable t Out) (y n : ℕ) (p : Part) (k : Kind) → p.kind ≡ k
    → owner t.parts n y ≡ Some p → Begins t y n p ⊎ Goes t y n p → Out y n (out t y n) (ahead t y n) → Behind t Out y n k p
behind t d y n p Bar e o b h = record { out = behind-border t d y n Bar p o (out-line t y n p Bar e refl b) h }
behind t d y n p Rule e o b h = record { out = behind-border t d y n Rule p o (out-line t y n p Rule e refl b) h }
behind t d y n p Leaf e o b h = record { out = behind-leaf t d y n p e o b h }

placed : {Out : ℕ → ℕ → List ℕ → ℕ → Type 0} (t : DrawingPlan) (d : IsDrawable t Out) (y n : ℕ) → n < t.width → y < t.height
    → Out y n (out t y n) (ahead t y n) → Out y (suc n) (out t y n ++ place_text t y n) (ahead t y (suc n))
unfolding place_text
placed {Out} t d y n h v i =
    let q = owned t d.once n y h v in
    let b = behind t d y n q.0 q.0.kind refl q.1 (before t d.once y n q.0 h v q.1) i in
    subst (λ z. Out y (suc n) (out t y n ++ owned_text t z n y) (ahead_of z n)) (sym q.1) b.out

pub prefix : {Out : ℕ → ℕ → List ℕ → ℕ → Type 0} (t : DrawingPlan) (d : IsDrawable t Out) (y n : ℕ) → n ≤ t.width → y < t.height
    → Out y n (out t y n) (ahead t y n)
prefix t d y zero h v = d.none y
prefix {Out} t d y (suc n) h v =
    let e : n + 1 ≡ suc n = omega arith in
    let more = sym (each-more (place_text t y) n) ∙ ap (λ k. flat_map (place_text t y) (range_with_len 0 k)) e in
    subst (λ bs. Out y (suc n) bs (ahead t y (suc n))) more (placed t d y n (omega arith) v (prefix t d y n (omega arith) v))

pub line-measured : {Out : ℕ → ℕ → List ℕ → ℕ → Type 0} (t : DrawingPlan) (d : IsDrawable t Out) (y : ℕ) → y < t.height
    → Out y t.width (drawn_line t y) t.width
unfolding drawn_line
line-measured {Out} t d y v = subst (Out y t.width (out t y t.width)) (ends t d.once y t.width refl v) (prefix t d y t.width (omega arith) v)

pub drawn-each : (t : DrawingPlan) (P : List ℕ → Type 0) → ((y : ℕ) → y < t.height → P (drawn_line t y)) → All P (drawn t)
unfolding drawn
drawn-each t P each k line l =
    let h : k < t.height = subst (λ n. k < n) (length-map-range_with_len (drawn_line t) 0 t.height) l in
    let e = get_or-map-range_with_len (drawn_line t) 0 t.height k k line h (omega arith) in
    subst P (sym e) (each k h)

pub drawn_takes : {Out : ℕ → ℕ → List ℕ → ℕ → Type 0} (t : DrawingPlan) → IsDrawable t Out → EachLineTakes t.width (drawn t)
drawn_takes t d = drawn-each t (λ l. line_columns l ≡ t.width) (λ y v. d.columns y t.width (drawn_line t y) t.width (line-measured t d y v))
