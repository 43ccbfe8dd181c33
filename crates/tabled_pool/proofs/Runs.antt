-- Runs of columns of a line: of one part, with the same parts above and below.
use Rattle.tabled_pool.proofs.Names.{AreTiles, Bar, Bool, DrawingPlan, IsAt, Kind, Leaf, List, None, Part, Rectangle, Rule, Some, [], ap}
use Rattle.tabled_pool.proofs.Names.{append-nil, append_assoc, arith, around_at, border_char, border_text, encode_utf8, false, fill}
use Rattle.tabled_pool.proofs.Names.{flat_map, inr, is_border, is_border_above, is_border_before, is_line, is_line_kind, nothing_around}
use Rattle.tabled_pool.proofs.Names.{owned_text, owner, part_text, place_text, range_with_len, refl, suc, sym, true, whole}
use Rattle.tabled_pool.proofs.Names.{within_marks, zero, ℕ, ⊎_elim, ◌++◌, ◌+◌, ◌-◌, ◌<◌, ◌∙◌, ◌≡◌, ◌≤◌, ◌⊎◌}
use Rattle.tabled_pool.specs.declared.line_runs.Cursor.{Cursor}
use Rattle.std.specs.Prelude.{MatchOption, Option, option_map, unwrap_or}
use Rattle.tabled_pool.specs.Drawn.{armed_char, IsRun, main_of}
use Rattle.tabled_pool.proofs.Owners.{Inside, inside-within, within-inside, within-le, owner-inside, counted, le-or}
use Rattle.tabled_pool.proofs.Listed.{outside}
use Rattle.tabled_pool.proofs.UpcomingCells.{leaf-goes, owned, unique}

-- the columns of the owner of a place
pub record Owns (t : DrawingPlan) (x y : ℕ) (p : Part) : Type 0 where
  pub from : p.place.x ≤ x
  pub to : x < p.place.x + p.place.width
  pub fits : p.place.x + p.place.width ≤ t.width
  pub top : p.place.y ≤ y
  pub bottom : y < p.place.y + p.place.height
  pub more : (v : ℕ) → x ≤ v → v < p.place.x + p.place.width → owner t.parts v y ≡ Some p

same-owner : (t : DrawingPlan) (x y v : ℕ) (p : Part) → AreTiles t.parts (whole t) → owner t.parts x y ≡ Some p → p.place.x ≤ v
    → v < p.place.x + p.place.width → owner t.parts v y ≡ Some p
same-owner t x y v p d o a b =
    let i = within-inside p.place x y (owner-inside t.parts x y p o) in
    unique t d x y v y p o (inside-within p.place v y (record { left = a; right = b; top = i.top; bottom = i.bottom }))

pub owns : (t : DrawingPlan) (x y : ℕ) (p : Part) → AreTiles t.parts (whole t) → owner t.parts x y ≡ Some p → Owns t x y p
owns t x y p d o =
    let i = within-inside p.place x y (owner-inside t.parts x y p o) in
    let v = p.place.x + p.place.width - 1 in
    let w = inside-within p.place v y (record { left = omega (arith, i.left, i.right); right = omega (arith, i.left, i.right); top = i.top; bottom = i.bottom }) in
    let c = counted t.parts x y v y p o w in
    let e = within-inside (whole t) v y (omega (arith, c, d v y, within-le (whole t) v y)) in
    record {
      from = i.left;
      to = i.right;
      fits = omega (arith, e.right);
      top = i.top;
      bottom = i.bottom;
      more = λ k a b. same-owner t x y k p d o (omega (arith, i.left)) b;
    }

-- whether a border is there stays the same along the owner
pub along : (t : DrawingPlan) (x y : ℕ) (p : Part) → Owns t x y p → (v : ℕ) → x ≤ v → v < p.place.x + p.place.width
    → is_border t.parts v y ≡ is_line_kind p.kind
along t x y p o v a b = ap is_line (o.more v a b)

-- and before each column behind one of its own
pub kind_before : (t : DrawingPlan) (x y n : ℕ) (p : Part) → Owns t x y p → x < n → n ≤ p.place.x + p.place.width
    → is_border_before t.parts n y ≡ is_line_kind p.kind
kind_before t x y zero p o a b = absurd (omega (arith, a))
kind_before t x y (suc m) p o a b = along t x y p o m (omega (arith, a)) (omega (arith, b))

-- a line of no owners is outside
pub nothing : (t : DrawingPlan) (x y : ℕ) → AreTiles t.parts (whole t) → x < t.width → owner t.parts x y ≡ None → (v : ℕ) → is_border t.parts v y ≡ false
nothing t x y d h o v =
    ap is_line (outside t.parts (whole t) v y d (inr (⊎_elim
    (λ a. omega arith)
    (λ a. absurd (let p = owned t d x y h a in cc (p.1, o)))
    (le-or t.height y))))

-- a line ends where no piece is
pub at_end : (t : DrawingPlan) (y : ℕ) (at : Cursor) → AreTiles t.parts (whole t) → y < t.height → IsAt t y at → at.piece ≡ None → at.x ≡ t.width
at_end t y at d v i e = ⊎_elim
    (λ h. omega (arith, h, i.within))
    (λ h.
    let o : owner t.parts at.x y ≡ None = sym (rw e at i.piece) in
    absurd (let p = owned t d at.x y h v in cc (p.1, o)))
    (le-or t.width at.x)

-- ---- the characters of a run

pub record Arms (t : DrawingPlan) (p : Part) (x y end : ℕ) (left behind up down : Bool) : Type 0 where
  pub some : x < end
  pub own : (v : ℕ) → x ≤ v → v < end → owner t.parts v y ≡ Some p
  pub above : (v : ℕ) → x ≤ v → v < end → is_border_above t.parts v y ≡ up
  pub below : (v : ℕ) → x ≤ v → v < end → is_border t.parts v (y + 1) ≡ down
  pub before : is_border_before t.parts x y ≡ left
  pub after : is_border t.parts end y ≡ behind

-- where a run may end
pub record Ends (x end last : ℕ) (left behind right : Bool) : Type 0 where
  pub some : x < last
  pub within : last ≤ end
  pub begun : (left ≡ true) ⊎ (last ≡ x + 1)
  pub ended : (last < end) ⊎ ((behind ≡ true) ⊎ (last ≡ x + 1))
  pub more : last < end → right ≡ true
  pub all : end ≤ last → right ≡ behind

inner : (t : DrawingPlan) (p : Part) (x y end : ℕ) (left behind up down : Bool) → Arms t p x y end left behind up down → is_line_kind p.kind ≡ true
    → (v : ℕ) → x ≤ v → v < end → is_border t.parts v y ≡ true
inner t p x y end left behind up down a k v l m = ap is_line (a.own v l m) ∙ k

left-arm : (t : DrawingPlan) (p : Part) (x y end last : ℕ) (left behind up down right : Bool) → Arms t p x y end left behind up down
    → Ends x end last left behind right → is_line_kind p.kind ≡ true → (v : ℕ) → x ≤ v → v < last → is_border_before t.parts v y ≡ left
left-arm t p x y end last left behind up down right a e k zero l m =
    let z : x ≡ zero = omega arith in ap (λ u. is_border_before t.parts u y) (sym z) ∙ a.before
left-arm t p x y end last left behind up down right a e k (suc n) l m = ⊎_elim
    (λ h.
    inner t p x y end left behind up down a k n h (omega (arith, e.within))
    ∙ sym (⊎_elim (λ b. b) (λ b. absurd (omega (arith, b))) e.begun))
    (λ h. let z : suc n ≡ x = omega arith in ap (λ u. is_border_before t.parts u y) z ∙ a.before)
    (le-or x n)

right-arm : (t : DrawingPlan) (p : Part) (x y end last : ℕ) (left behind up down right : Bool) → Arms t p x y end left behind up down
    → Ends x end last left behind right → is_line_kind p.kind ≡ true → (v : ℕ) → x ≤ v → v < last → is_border t.parts (v + 1) y ≡ right
right-arm t p x y end last left behind up down right a e k v l m = ⊎_elim
    (λ h.
    let z : v + 1 ≡ end = omega (arith, e.within) in
    ap (λ u. is_border t.parts u y) z ∙ a.after ∙ sym (e.all (omega arith)))
    (λ h.
    inner t p x y end left behind up down a k (v + 1) (omega arith) h
    ∙ sym (⊎_elim
    (λ b. e.more b)
    (λ b. ⊎_elim
    (λ c. ⊎_elim (λ f. e.all f ∙ c) (λ f. e.more f) (le-or end last))
    (λ c. e.more (omega (arith, c)))
    b)
    e.ended))
    (le-or end (v + 1))

pub run_chars : (t : DrawingPlan) (p : Part) (x y end last : ℕ) (left behind up down right : Bool) → Arms t p x y end left behind up down
    → Ends x end last left behind right → is_line_kind p.kind ≡ true → (v : ℕ) → x ≤ v → v < last
    → border_char t p.kind p.place v y ≡ armed_char t p.kind p.place left right up down
unfolding border_char
run_chars t p x y end last left behind up down right a e k v l m =
    rw (
      left-arm t p x y end last left behind up down right a e k v l m,
      right-arm t p x y end last left behind up down right a e k v l m,
      a.above v l (omega (arith, e.within)),
      a.below v l (omega (arith, e.within)),
    ) refl

-- the characters of a border with none at its sides
pub lone_chars : (t : DrawingPlan) (p : Part) (x y : ℕ) → is_border_before t.parts x y ≡ false → is_border t.parts (x + 1) y ≡ false → (v : ℕ)
    → x ≤ v → v < x + 1 → border_char t p.kind p.place v y ≡ unwrap_or (main_of t p.kind p.place) 32
unfolding border_char
lone_chars t p x y l b v m n =
    let e : v ≡ x = omega arith in
    ap (λ u. border_char t p.kind p.place u y) e ∙ rw (l, b) refl

-- whether a border is there, of a piece that may be there
pub line_some : {P : Type 0} (f : P → Part) (o : Option P) (r : Bool) → MatchOption o (r ≡ false) (λ x. r ≡ is_line_kind (f x).kind) → r ≡ is_line (option_map f o)
line_some f None r h = h
line_some f (Some x) r h = h

-- ---- the text of a run

-- equal texts of one character, one after another
pub copies : (f : ℕ → List ℕ) (c x n : ℕ) → ((v : ℕ) → x ≤ v → v < x + n → f v ≡ encode_utf8 c) → flat_map f (range_with_len x n) ≡ fill c n
copies f c x zero h = refl
copies f c x (suc n) h =
    rw (h x (omega arith) (omega arith), copies f c (x + 1) n (λ v a b. h v (omega arith) (omega arith))) refl

nothing_from : (f : ℕ → List ℕ) (x n : ℕ) → ((v : ℕ) → x ≤ v → v < x + n → f v ≡ []) → flat_map f (range_with_len x n) ≡ []
nothing_from f x zero h = refl
nothing_from f x (suc n) h =
    rw (h x (omega arith) (omega arith), nothing_from f (x + 1) n (λ v a b. h v (omega arith) (omega arith))) refl

-- a text, and nothing after it
pub first_only : (f : ℕ → List ℕ) (x n : ℕ) → 0 < n → ((v : ℕ) → x < v → v < x + n → f v ≡ []) → flat_map f (range_with_len x n) ≡ f x
first_only f x zero l h = absurd (omega arith)
first_only f x (suc n) l h = rw (nothing_from f (x + 1) n (λ v a b. h v (omega arith) (omega arith)), append-nil (f x)) refl

pub part-border : (t : DrawingPlan) (k : Kind) (p : Part) (x y : ℕ) → is_line_kind k ≡ true → part_text t k p x y ≡ border_text t k p.place x y
part-border t Leaf p x y h = cc
part-border t Bar p x y h = refl
part-border t Rule p x y h = refl

border-marked : (t : DrawingPlan) (k : Kind) (r : Rectangle) (x y c : ℕ) → border_char t k r x y ≡ c
    → border_text t k r x y ≡ within_marks (around_at t t.parts x y) (encode_utf8 c)
unfolding border_text
border-marked t k r x y c e = ap (λ d. within_marks (around_at t t.parts x y) (encode_utf8 d)) e

pub place-owned : (t : DrawingPlan) (x y : ℕ) (p : Part) → owner t.parts x y ≡ Some p → place_text t y x ≡ part_text t p.kind p x y
unfolding place_text
place-owned t x y p o = ap (λ z. owned_text t z x y) o

-- a place of a run of a border
pub run_place : (t : DrawingPlan) (x y n c : ℕ) (p : Part) → IsRun t x y n c p → is_line_kind p.kind ≡ true → (v : ℕ) → x ≤ v → v < x + n
    → place_text t y v ≡ within_marks (around_at t t.parts v y) (encode_utf8 c)
run_place t x y n c p r k v a b =
    place-owned t v y p (r.owned v a b) ∙ part-border t p.kind p v y k ∙ border-marked t p.kind p.place v y c (r.alike k v a b)

-- a run of a border that nothing colours
pub run_copies : (t : DrawingPlan) (x y n c : ℕ) (p : Part) → IsRun t x y n c p → is_line_kind p.kind ≡ true
    → ((v : ℕ) → nothing_around ≡ around_at t t.parts v y) → flat_map (place_text t y) (range_with_len x n) ≡ fill c n
run_copies t x y n c p r k h =
    copies (place_text t y) c x n (λ v a b.
    run_place t x y n c p r k v a b ∙ ap (λ z. within_marks z (encode_utf8 c)) (sym (h v)) ∙ append-nil (encode_utf8 c))

-- a run of a text
pub run_text : (t : DrawingPlan) (x y n c : ℕ) (p : Part) → IsRun t x y n c p → p.kind ≡ Leaf
    → flat_map (place_text t y) (range_with_len x n) ≡ part_text t Leaf p x y
run_text t x y n c p r k =
    let i = within-inside p.place x y (owner-inside t.parts x y p (r.owned x (omega arith) (omega (arith, r.some)))) in
    first_only (place_text t y) x n r.some (λ v a b.
    place-owned t v y p (r.owned v (omega arith) b) ∙ ap (λ z. part_text t z p v y) k ∙ leaf-goes t p v y (omega (arith, i.left)))
    ∙ place-owned t x y p (r.owned x (omega arith) (omega (arith, r.some))) ∙ ap (λ z. part_text t z p x y) k

pub run_inside : (t : DrawingPlan) (x y n c : ℕ) (p : Part) → IsRun t x y n c p → Inside p.place x y
run_inside t x y n c p r =
    within-inside p.place x y (owner-inside t.parts x y p (r.owned x (omega arith) (omega (arith, r.some))))

each-append : (f : ℕ → List ℕ) (x m k : ℕ)
    → flat_map f (range_with_len x (m + k)) ≡ flat_map f (range_with_len x m) ++ flat_map f (range_with_len (x + m) k)
each-append f x zero k = let e : zero + k ≡ k = omega arith in let h : x + zero ≡ x = omega arith in rw (e, h) refl
each-append f x (suc m) k =
    let e : suc m + k ≡ suc (m + k) = omega arith in
    let h : x + suc m ≡ x + 1 + m = omega arith in
    rw (e, h) (ap (λ u. f x ++ u) (each-append f (x + 1) m k) ∙ sym (append_assoc (f x) (flat_map f (range_with_len (x + 1) m)) _))

-- n more places
pub places_more : (f : ℕ → List ℕ) (x n : ℕ) → flat_map f (range_with_len 0 (x + n)) ≡ flat_map f (range_with_len 0 x) ++ flat_map f (range_with_len x n)
places_more f x n =
    let e : 0 + x ≡ x = omega arith in
    each-append f 0 x n ∙ ap (λ u. flat_map f (range_with_len 0 x) ++ flat_map f (range_with_len u n)) e

-- the places of a line: those before x, n more, and the rest
pub places_rest : (f : ℕ → List ℕ) (x n w : ℕ) → x + n ≤ w → flat_map f (range_with_len 0 w)
    ≡ flat_map f (range_with_len 0 x) ++ (flat_map f (range_with_len x n) ++ flat_map f (range_with_len (x + n) (w - x - n)))
places_rest f x n w h =
    let e : w ≡ x + (n + (w - x - n)) = omega arith in
    ap (λ u. flat_map f (range_with_len 0 u)) e ∙ places_more f x (n + (w - x - n))
    ∙ ap (λ u. flat_map f (range_with_len 0 x) ++ u) (each-append f x n (w - x - n))

-- one more place, with the text s
pub places_next : (f : ℕ → List ℕ) (x n : ℕ) (s : List ℕ) → f (x + n) ≡ s
    → flat_map f (range_with_len x (n + 1)) ≡ flat_map f (range_with_len x n) ++ s
places_next f x n s e =
    each-append f x n 1 ∙ ap (λ u. flat_map f (range_with_len x n) ++ u) (append-nil (f (x + n)) ∙ e)

-- the places of a run: those before, one with the text s, and the rest
pub run_rest : (f : ℕ → List ℕ) (x i n : ℕ) (s : List ℕ) → i < n → f (x + i) ≡ s → flat_map f (range_with_len x n)
    ≡ flat_map f (range_with_len x i) ++ (s ++ flat_map f (range_with_len (x + i + 1) (n - i - 1)))
run_rest f x i n s h d =
    let e : n ≡ i + suc (n - i - 1) = omega arith in
    ap (λ u. flat_map f (range_with_len x u)) e ∙ each-append f x i (suc (n - i - 1))
    ∙ ap (λ u. flat_map f (range_with_len x i) ++ (u ++ flat_map f (range_with_len (x + i + 1) (n - i - 1)))) d
