-- The lines of a block, by their index.
use Rattle.tabled_line.proofs.Names.{CellStyle, List, None, Some, [], above_text, ap, arith, block, cell_line, fill, fill_above, free_lines}
use Rattle.tabled_line.proofs.Names.{get_or, get_or_append_left, get_or_from_slice_get, length, lines_of, map, replicate, slice_get}
use Rattle.tabled_line.proofs.Names.{slice_get_cases, sym, take, ℕ, ⊎_elim, ◌++◌, ◌+◌, ◌-◌, ◌<◌, ◌∙◌, ◌≡◌, ◌≤◌}
use Rattle.std.proofs.lemmas.List.{get_or-append_right, get_or-map, get_or-replicate, get_or-take, length-map, length-replicate}
use Rattle.std.proofs.lemmas.Option.{slice_get_within}
use Rattle.tabled_line.specs.Block.{fill_below}

pub past_from_none : {X : Type 0} (xs : List X) (k : ℕ) → None ≡ slice_get xs k → length xs ≤ k
past_from_none xs k e =
    ⊎_elim (λ h. absurd (let f : Some h.0 ≡ None = sym h.2 ∙ sym e in cc)) (λ h. h.0) (slice_get_cases xs k).1

-- p many x, the lines, q many y; of these the first h
front : {L X : Type 0} (f : L → X) (ls : List L) (x y d : X) (p q h k : ℕ) → k < h → k < p → get_or (take h (replicate p x ++ (map f ls ++ replicate q y))) k d ≡ x
front f ls x y d p q h k l m =
    get_or-take h _ k d l ∙ get_or_append_left (replicate p x) _ d k (omega (arith, length-replicate p x)) ∙ get_or-replicate p k x d m

behind : {L X : Type 0} (f : L → X) (ls : List L) (x y d : X) (p q h k : ℕ) → k < h → p ≤ k → get_or (take h (replicate p x ++ (map f ls ++ replicate q y))) k d ≡ get_or (map f ls ++ replicate q y) (k - p) d
behind f ls x y d p q h k l m = get_or-take h _ k d l ∙ get_or-append_right (replicate p x) _ p k d (length-replicate p x) m

middle : {L X : Type 0} (f : L → X) (ls : List L) (x y d : X) (p q h k : ℕ) (line : L) → k < h → p ≤ k → Some line ≡ slice_get ls (k - p) → get_or (take h (replicate p x ++ (map f ls ++ replicate q y))) k d ≡ f line
middle f ls x y d p q h k line l m e =
    let within = slice_get_within ls (k - p) line (sym e) in
    behind f ls x y d p q h k l m ∙ get_or_append_left (map f ls) _ d (k - p) (omega (arith, length-map ls f))
    ∙ get_or-map f ls (k - p) line d within ∙ ap f (get_or_from_slice_get ls (k - p) line line (sym e))

back : {L X : Type 0} (f : L → X) (ls : List L) (x y d : X) (p q h k : ℕ) → k < h → p ≤ k → k < p + length ls + q → None ≡ slice_get ls (k - p) → get_or (take h (replicate p x ++ (map f ls ++ replicate q y))) k d ≡ y
back f ls x y d p q h k l m n e =
    let past = past_from_none ls (k - p) e in
    behind f ls x y d p q h k l m ∙ get_or-append_right (map f ls) _ (length ls) (k - p) d (length-map ls f) past
    ∙ get_or-replicate q (k - p - length ls) y d (omega arith)

pub block-above : (s : CellStyle) (w h : ℕ) (t : List ℕ) (k : ℕ) → k < h → k < fill_above s h t → get_or (block s w h t) k [] ≡ fill s.padding.top.fill w
unfolding block
block-above s w h t k l m = front _ (lines_of t) _ _ [] _ _ h k l m

pub block-text : (s : CellStyle) (w h : ℕ) (t : List ℕ) (k : ℕ) (line : List ℕ) → k < h → fill_above s h t ≤ k → Some line ≡ slice_get (lines_of t) (k - fill_above s h t) → get_or (block s w h t) k [] ≡ cell_line s w t line
unfolding block
block-text s w h t k line l m e = middle _ (lines_of t) _ _ [] _ _ h k line l m e

pub block-below : (s : CellStyle) (w h : ℕ) (t : List ℕ) (k : ℕ) → k < h → fill_above s h t ≤ k → None ≡ slice_get (lines_of t) (k - fill_above s h t) → get_or (block s w h t) k [] ≡ fill s.padding.bottom.fill w
unfolding block
block-below s w h t k l m e =
    back _ (lines_of t) _ _ [] _ (fill_below s h t) h k l m
    (let n = length (lines_of t) in
    let free = free_lines s h t in
    let a = above_text s.vertical free in
    omega arith)
    e
