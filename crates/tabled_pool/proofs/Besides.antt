-- Blocks beside each other.
use Rattle.tabled_pool.proofs.Names.{BlockSheet, DrawingPlan, InheritedSheet, List, [], ap, append-nil, append_assoc, arith, block_sheet_of, drawn_block_line, drop, fill, flat_map}
use Rattle.tabled_pool.proofs.Names.{get_or, get_or-map-range_with_len, inl, inr, length, length-map-range_with_len, map, max}
use Rattle.tabled_pool.proofs.Names.{nat_tests, range_with_len, refl, string_bytes, sym, zero, suc, ℕ, ⊎_elim, ◌++◌, ◌+◌, ◌-◌, ◌<◌, ◌∙◌, ◌∷◌, ◌≡◌, ◌≤◌, ◌⊎◌}
use Rattle.std.proofs.Common.{slice_set}
use Rattle.std.proofs.lemmas.Bool.{cases_order}
use Rattle.std.proofs.lemmas.List.{length-append, length-drop, length-map, drop_all, get_or-map, map-set, drop_more, ext_get_or, get_or_past}
use Rattle.std.proofs.lemmas.List.FromFn.{map-range_with_len_more}
use Rattle.tabled_line.proofs.Fills.{fill-add}
use Rattle.tabled_pool.specs.declared.drawn_block.DrawnBlock.{DrawnBlock}
use Rattle.tabled_pool.specs.Inherited.{all_columns, beside, most_lines, no_block, side_by_side, text_block, with_line}

order : (m n : ℕ) → (m < n) ⊎ (n ≤ m)
order m n = ⊎_elim (λ e. inr (omega (arith, e))) (λ h. ⊎_elim (λ l. inl l) (λ l. inr (omega (arith, l))) h) (cases_order m n)

-- ---- the lines of blocks

-- below its last line, a block is spaces
pub below : (p : BlockSheet) (y : ℕ) → length p.lines ≤ y → drawn_block_line y p ≡ fill 32 p.width
below p y h = get_or_past p.lines y (fill 32 p.width) h

pub same_block : (p q : BlockSheet) → p.width ≡ q.width → length p.lines ≡ length q.lines
    → ((y : ℕ) → y < length p.lines → drawn_block_line y p ≡ drawn_block_line y q) → p ≡ q
same_block p q w n h =
    let lines : p.lines ≡ q.lines = ext_get_or (fill 32 p.width) p.lines q.lines n (λ y l.
    h y l ∙ ap (λ k. get_or q.lines y (fill 32 k)) (sym w)) in
    ap (λ k. record p { width = k }) w ∙ ap (λ ls. record q { lines = ls }) lines

count : (p q : BlockSheet) → length (beside p q).lines ≡ max (length p.lines) (length q.lines)
count p q = length-map-range_with_len (λ y. drawn_block_line y p ++ drawn_block_line y q) 0 (max (length p.lines) (length q.lines))

pub beside_line : (p q : BlockSheet) (y : ℕ) → drawn_block_line y (beside p q) ≡ drawn_block_line y p ++ drawn_block_line y q
beside_line p q y = ⊎_elim
    (λ l. get_or-map-range_with_len (λ v. drawn_block_line v p ++ drawn_block_line v q) 0 (max (length p.lines) (length q.lines)) y y _ l (omega arith))
    (λ l. below (beside p q) y (omega (arith, l, count p q)) ∙ fill-add 32 p.width q.width (p.width + q.width) refl
    ∙ ap (λ u. u ++ fill 32 q.width) (sym (below p y (omega (arith, l)))) ∙ ap (λ u. drawn_block_line y p ++ u) (sym (below q y (omega (arith, l)))))
    (order y (max (length p.lines) (length q.lines)))

-- ---- blocks one after another

spaces : (ps : List BlockSheet) (y : ℕ) → most_lines ps ≤ y → flat_map (drawn_block_line y) ps ≡ fill 32 (all_columns ps)
spaces [] y h = refl
spaces (p ∷ ps) y h =
    ap (λ u. u ++ flat_map (drawn_block_line y) ps) (below p y (omega (arith, h))) ∙ ap (λ u. fill 32 p.width ++ u) (spaces ps y (omega (arith, h)))
    ∙ sym (fill-add 32 p.width (all_columns ps) (p.width + all_columns ps) refl)

pub side_line : (ps : List BlockSheet) (y : ℕ) → drawn_block_line y (side_by_side ps) ≡ flat_map (drawn_block_line y) ps
side_line ps y = ⊎_elim
    (λ l. get_or-map-range_with_len (λ v. flat_map (drawn_block_line v) ps) 0 (most_lines ps) y y _ l (omega arith))
    (λ l. below (side_by_side ps) y (omega (arith, l, length-map-range_with_len (λ v. flat_map (drawn_block_line v) ps) 0 (most_lines ps)))
    ∙ sym (spaces ps y l))
    (order y (most_lines ps))

side-first : (p : BlockSheet) (ps : List BlockSheet) → side_by_side (p ∷ ps) ≡ beside p (side_by_side ps)
side-first p ps =
    let all = length-map-range_with_len (λ v. flat_map (drawn_block_line v) (p ∷ ps)) 0 (most_lines (p ∷ ps)) in
    let rest = length-map-range_with_len (λ v. flat_map (drawn_block_line v) ps) 0 (most_lines ps) in
    same_block (side_by_side (p ∷ ps)) (beside p (side_by_side ps)) refl (omega (arith, all, rest, count p (side_by_side ps)))
    (λ y l. side_line (p ∷ ps) y ∙ ap (λ u. drawn_block_line y p ++ u) (sym (side_line ps y)) ∙ sym (beside_line p (side_by_side ps) y))

besides-assoc : (p q r : BlockSheet) → beside (beside p q) r ≡ beside p (beside q r)
besides-assoc p q r = same_block (beside (beside p q) r) (beside p (beside q r)) (omega arith)
    (omega (arith, count (beside p q) r, count p q, count p (beside q r), count q r))
    (λ y l. beside_line (beside p q) r y ∙ ap (λ u. u ++ drawn_block_line y r) (beside_line p q y)
    ∙ append_assoc (drawn_block_line y p) (drawn_block_line y q) (drawn_block_line y r)
    ∙ ap (λ u. drawn_block_line y p ++ u) (sym (beside_line q r y)) ∙ sym (beside_line p (beside q r) y))

pub beside_nothing : (p : BlockSheet) → beside no_block p ≡ p
beside_nothing p = same_block (beside no_block p) p (omega arith) (omega (arith, count no_block p))
    (λ y l. beside_line no_block p y)

nothing-behind : (p : BlockSheet) → beside p no_block ≡ p
nothing-behind p = same_block (beside p no_block) p (omega arith) (omega (arith, count p no_block))
    (λ y l. beside_line p no_block y ∙ append-nil (drawn_block_line y p))

side-last : (ps : List BlockSheet) (q : BlockSheet) → side_by_side (ps ++ (q ∷ [])) ≡ beside (side_by_side ps) q
side-last [] q = side-first q [] ∙ nothing-behind q ∙ sym (beside_nothing q)
side-last (p ∷ ps) q =
    side-first p (ps ++ (q ∷ [])) ∙ ap (beside p) (side-last ps q) ∙ sym (besides-assoc p (side_by_side ps) q)
    ∙ ap (λ b. beside b q) (sym (side-first p ps))

-- one more block behind those that a block has at its right
pub one_more_beside : (p : BlockSheet) (ps : List BlockSheet) (q : BlockSheet)
    → beside (beside p (side_by_side ps)) q ≡ beside p (side_by_side (ps ++ (q ∷ [])))
one_more_beside p ps q = besides-assoc p (side_by_side ps) q ∙ ap (beside p) (sym (side-last ps q))

pub none_beside : (p : BlockSheet) → p ≡ beside p (side_by_side [])
none_beside p = sym (nothing-behind p)

-- ---- a block at whose right lines are added

-- the first y lines have what f gives at their right
abbrev pub added : (ℕ → List ℕ) → ℕ → BlockSheet → List (List ℕ)
added f y p = map (λ v. drawn_block_line v p ++ f v) (range_with_len 0 y) ++ drop y p.lines

get-in : {A : Type 0} (xs ys : List A) (a d : A) → get_or (xs ++ (a ∷ ys)) (length xs) d ≡ a
get-in [] ys a d = refl
get-in (x ∷ xs) ys a d = get-in xs ys a d

set-in : {A : Type 0} (xs ys : List A) (a b : A) → slice_set (xs ++ (a ∷ ys)) (length xs) b ≡ xs ++ (b ∷ ys)
set-in [] ys a b = refl
set-in (x ∷ xs) ys a b = ap (λ u. x ∷ u) (set-in xs ys a b)

-- a line gets a text at its end
pub set_line : {A : Type 0} (g : A → List ℕ) (items : List A) (y : ℕ) (line new : A) (text : List ℕ) → line ≡ get_or items y line
    → y < length items → g new ≡ g line ++ text
    → map g (slice_set items y new) ≡ slice_set (map g items) y (get_or (map g items) y [] ++ text)
set_line g items y line new text here h e =
    map-set g items y new ∙ ap (slice_set (map g items) y)
    (e ∙ ap (λ u. u ++ text) (ap g here ∙ sym (get_or-map g items y line [] h)))

with-kept : (y : ℕ) (p : BlockSheet) → y < length p.lines → with_line y p ≡ p.lines
with-kept y p h = grind (arith, nat_tests, h)

with-new : (y : ℕ) (p : BlockSheet) → length p.lines ≤ y → with_line y p ≡ p.lines ++ (fill 32 p.width ∷ [])
with-new y p h = grind (arith, nat_tests, h)

module _ (f : ℕ → List ℕ) (p : BlockSheet) where
  abbrev line : ℕ → List ℕ
  line v = drawn_block_line v p ++ f v

  abbrev first : ℕ → List (List ℕ)
  first y = map line (range_with_len 0 y)

  lines-of : (y : ℕ) (ls : List (List ℕ)) → ls ≡ added f y p → length ls ≡ y + (length p.lines - y)
  lines-of y ls e = ap length e ∙ length-append (first y) (drop y p.lines)
      ∙ omega (arith, length-map-range_with_len line 0 y, length-drop y p.lines)

  -- a line is there, as it was or as spaces
  begun : (y : ℕ) (now : BlockSheet) → now.width ≡ p.width → now.lines ≡ added f y p
      → with_line y now ≡ first y ++ (drawn_block_line y p ∷ drop (y + 1) p.lines)
  begun y now w e = ⊎_elim
      (λ l.
      let within : y < length p.lines = omega (arith, l, lines-of y now.lines e) in
      with-kept y now l ∙ e ∙ ap (λ u. first y ++ u) (drop_more p.lines y (fill 32 p.width) within))
      (λ l.
      let past : length p.lines ≤ y = omega (arith, l, lines-of y now.lines e) in
      let past-it : length p.lines ≤ y + 1 = omega (arith, past) in
      with-new y now l ∙ ap (λ u. u ++ (fill 32 now.width ∷ [])) (e ∙ ap (λ u. first y ++ u) (drop_all y p.lines past) ∙ append-nil (first y))
      ∙ ap (λ k. first y ++ (fill 32 k ∷ [])) w ∙ ap (λ u. first y ++ (u ∷ [])) (sym (below p y past))
      ∙ ap (λ u. first y ++ (drawn_block_line y p ∷ u)) (sym (drop_all (y + 1) p.lines past-it)))
      (order y (length now.lines))

  -- the line is there
  pub line_there : {A : Type 0} (g : A → List ℕ) (items : List A) (y : ℕ) (now : BlockSheet) → now.width ≡ p.width
      → now.lines ≡ added f y p → map g items ≡ with_line y now → y < length items
  line_there g items y now w e h =
      let n = ap length (h ∙ begun y now w e) in
      omega (arith, n, length-map items g, length-append (first y) (drawn_block_line y p ∷ drop (y + 1) p.lines), length-map-range_with_len line 0 y)

  -- one line more
  pub added_more : (y : ℕ) (now : BlockSheet) (ls : List (List ℕ)) → now.width ≡ p.width → now.lines ≡ added f y p
      → ls ≡ slice_set (with_line y now) y (get_or (with_line y now) y [] ++ f y) → ls ≡ added f (y + 1) p
  added_more y now ls w e h =
      let xs = first y in
      let ys = drop (y + 1) p.lines in
      let a = drawn_block_line y p in
      let n : length xs ≡ y = length-map-range_with_len line 0 y in
      h ∙ ap (λ u. slice_set u y (get_or u y [] ++ f y)) (begun y now w e)
      ∙ ap (λ k. slice_set (xs ++ (a ∷ ys)) k (get_or (xs ++ (a ∷ ys)) k [] ++ f y)) (sym n)
      ∙ ap (λ u. slice_set (xs ++ (a ∷ ys)) (length xs) (u ++ f y)) (get-in xs ys a []) ∙ set-in xs ys a (a ++ f y)
      ∙ sym (ap (λ u. u ++ ys) (map-range_with_len_more line 0 y y (omega arith)) ∙ append_assoc xs (line y ∷ []) ys)

  -- all lines
  pub all_added : (q now : BlockSheet) (n : ℕ) → n ≡ max (length q.lines) (length p.lines) → now.lines ≡ added f n p
      → ((y : ℕ) → y < n → f y ≡ drawn_block_line y q) → now.width ≡ p.width + q.width → now ≡ beside p q
  all_added q now n e h same w =
      let all : now.lines ≡ first n = h ∙ ap (λ u. first n ++ u) (drop_all n p.lines (omega (arith, e))) ∙ append-nil (first n) in
      let many : length now.lines ≡ n = ap length all ∙ length-map-range_with_len line 0 n in
      same_block now (beside p q) w (omega (arith, many, e, count p q)) (λ y l.
      let inside : y < n = omega (arith, l, many) in
      ap (λ ls. get_or ls y (fill 32 now.width)) all ∙ get_or-map-range_with_len line 0 n y y _ inside (omega arith)
      ∙ ap (λ u. drawn_block_line y p ++ u) (same y inside) ∙ sym (beside_line p q y))

pub none_of : {A : Type 0} (xs : List A) → length xs ≡ 0 → xs ≡ []
none_of [] h = refl
none_of (x ∷ xs) h = absurd (omega (arith, h))

-- ---- drawn blocks

-- lines of q are at the right of the first y lines of p
abbrev pub IsAdded : BlockSheet → BlockSheet → ℕ → DrawnBlock → Type 0
IsAdded p q y block = (block.width ≡ p.width) × (map string_bytes block.lines.items ≡ added (λ v. drawn_block_line v q) y p)

-- line y begins, and gets its text
pub line_added : (p q : BlockSheet) (y : ℕ) (now begun new : DrawnBlock) (text : List ℕ) → IsAdded p q y now → begun.width ≡ now.width
    → map string_bytes begun.lines.items ≡ with_line y (block_sheet_of now) → new.width ≡ begun.width
    → map string_bytes new.lines.items
    ≡ slice_set (map string_bytes begun.lines.items) y (get_or (map string_bytes begun.lines.items) y [] ++ text)
    → text ≡ drawn_block_line y q → IsAdded p q (y + 1) new
line_added p q y now begun new text i w b w2 l e = (
  w2 ∙ w ∙ i.0,
  added_more (λ v. drawn_block_line v q) p y (block_sheet_of now) _ i.0 i.1
      (l ∙ ap (λ u. slice_set u y (get_or u y [] ++ text)) b
      ∙ ap (λ t. slice_set (with_line y (block_sheet_of now)) y (get_or (with_line y (block_sheet_of now)) y [] ++ t)) e),
)

pub added_there : (p q : BlockSheet) (y : ℕ) (now begun : DrawnBlock) → IsAdded p q y now
    → map string_bytes begun.lines.items ≡ with_line y (block_sheet_of now) → y < length begun.lines.items
added_there p q y now begun i b =
    line_there (λ v. drawn_block_line v q) p string_bytes begun.lines.items y (block_sheet_of now) i.0 i.1 b

pub whole_added : (p q : BlockSheet) (now new : DrawnBlock) (n : ℕ) → n ≡ max (length q.lines) (length p.lines) → IsAdded p q n now
    → new.lines.items ≡ now.lines.items → new.width ≡ now.width + q.width → block_sheet_of new ≡ beside p q
whole_added p q now new n e i l w =
    all_added (λ v. drawn_block_line v q) p q (block_sheet_of new) n e (ap (map string_bytes) l ∙ i.1) (λ y h. refl)
    (w ∙ ap (λ k. k + q.width) i.0)

pub any_default : {A : Type 0} (xs : List A) (i : ℕ) (d e : A) → i < length xs → get_or xs i d ≡ get_or xs i e
any_default [] i d e h = absurd (omega (arith, h))
any_default (x ∷ xs) zero d e h = refl
any_default (x ∷ xs) (suc i) d e h = any_default xs i d e (omega (arith, h))

-- ---- a text of no columns

blank-line : (y : ℕ) → drawn_block_line y (record { width = 0; lines = [] ∷ [] }) ≡ []
blank-line zero = refl
blank-line (suc y) = refl

-- it is one empty line
pub blank_added : (p new : BlockSheet) → new.width ≡ p.width → new.lines ≡ with_line 0 p
    → new ≡ beside p (record { width = 0; lines = [] ∷ [] })
blank_added p new w e =
    let q : BlockSheet = record { width = 0; lines = [] ∷ [] } in
    let kept = λ (l : 0 < length p.lines). e ∙ with-kept 0 p l in
    let made = λ (l : length p.lines ≤ 0). e ∙ with-new 0 p l ∙ ap (λ ls. ls ++ (fill 32 p.width ∷ [])) (none_of p.lines (omega (arith, l))) in
    let many : length new.lines ≡ length (beside p q).lines = ⊎_elim
    (λ l. ap length (kept l) ∙ omega (arith, l, count p q)) (λ l. ap length (made l) ∙ omega (arith, l, count p q)) (order 0 (length p.lines)) in
    same_block new (beside p q) (w ∙ omega arith) many (λ y h. ⊎_elim
    (λ l. ap (λ ls. get_or ls y (fill 32 new.width)) (kept l) ∙ ap (λ k. get_or p.lines y (fill 32 k)) w)
    (λ l. ap (λ ls. get_or ls y (fill 32 new.width)) (made l) ∙ ap (λ k. get_or (fill 32 p.width ∷ []) y (fill 32 k)) w
    ∙ single (fill 32 p.width) y ∙ sym (below p y (omega (arith, l))))
    (order 0 (length p.lines))
    ∙ sym (beside_line p q y ∙ ap (λ u. drawn_block_line y p ++ u) (blank-line y) ∙ append-nil (drawn_block_line y p)))
  where
    single : (l : List ℕ) (y : ℕ) → get_or (l ∷ []) y l ≡ l
    single l zero = refl
    single l (suc y) = refl

pub blank_text : (t : DrawingPlan) (h : InheritedSheet) (text : List ℕ) → h.place.width ≡ 0
    → text_block t h text ≡ record { width = 0; lines = [] ∷ [] }
blank_text t h text e = rw e refl
