-- The lines of a block, by their index.
use Rattle.tabled_pool.proofs.Names.{CellStyle, List, Mark, None, Sides, Some, [], ap, arith, coloured, cond, false, fill, get_or}
use Rattle.tabled_pool.proofs.Names.{if◌then◌else◌, length, length-map, length-replicate, lines_of, ltb, map, nat_tests, pool_block}
use Rattle.tabled_pool.proofs.Names.{replicate, slice_get, slice_get-get_or, subst, sym, text_line, true, ℕ, ⊎_elim, ◌++◌, ◌+◌, ◌-◌, ◌<◌}
use Rattle.tabled_pool.proofs.Names.{◌∙◌, ◌≡◌, ◌≤◌}
use Rattle.std.proofs.lemmas.List.{get_or-append_right, get_or_append_left, get_or-map, get_or-replicate}
use Rattle.std.proofs.lemmas.Option.{get_or_from_slice_get, slice_get_within, slice_get_cases}
use Rattle.std.proofs.lemmas.Bool.{cases_lt}
use Rattle.tabled_line.specs.Block.{free_lines}
use Rattle.tabled_pool.specs.Block.{lines_above, line_below}

pub past_from_none : {X : Type 0} (xs : List X) (k : ℕ) → None ≡ slice_get xs k → length xs ≤ k
past_from_none xs k e =
    ⊎_elim (λ h. absurd (let f : Some h.0 ≡ None = sym h.2 ∙ sym e in cc)) (λ h. h.0) (slice_get_cases xs k).1

front : {X : Type 0} (x d : X) (p k : ℕ) (rest : List X) → k < p → get_or (replicate p x ++ rest) k d ≡ x
front x d p k rest l = get_or_append_left (replicate p x) _ d k (omega (arith, length-replicate p x)) ∙ get_or-replicate p k x d l

behind : {X : Type 0} (x d : X) (p k : ℕ) (rest : List X) → p ≤ k → get_or (replicate p x ++ rest) k d ≡ get_or rest (k - p) d
behind x d p k rest l = get_or-append_right (replicate p x) _ p k d (length-replicate p x) l

within_text : {L X : Type 0} (f : L → X) (ls : List L) (d : X) (k : ℕ) (rest : List X) (line : L) → Some line
    ≡ slice_get ls k → get_or (map f ls ++ rest) k d ≡ f line
within_text f ls d k rest line e =
    let within = slice_get_within ls k line (sym e) in
    get_or_append_left (map f ls) _ d k (omega (arith, length-map ls f))
    ∙ get_or-map f ls k line d within ∙ ap f (get_or_from_slice_get ls k line line (sym e))

below_text : {L X : Type 0} (f : L → X) (ls : List L) (d : X) (k : ℕ) (rest : List X) → length ls ≤ k
    → get_or (map f ls ++ rest) k d ≡ get_or rest (k - length ls) d
below_text f ls d k rest l = get_or-append_right (map f ls) _ (length ls) k d (length-map ls f) l

last_lines : {X : Type 0} (x y d : X) (p q k : ℕ) → k < p + q → get_or (replicate p x ++ replicate q y) k d ≡ (if ltb k p then x else y)
last_lines x y d p q k l =
    ⊎_elim
    (λ h. front x d p k (replicate q y) h ∙ (grind (arith, nat_tests)))
    (λ h. behind x d p k (replicate q y) h ∙ get_or-replicate q (k - p) y d (omega arith) ∙ (grind (arith, nat_tests)))
    (cases_lt k p)

pub block-above : (s : CellStyle) (ms : Sides Mark) (w h : ℕ) (t : List ℕ) (k : ℕ) → k < lines_above s h t → get_or (pool_block s ms w h t) k [] ≡ fill 32 w
unfolding pool_block
block-above s ms w h t k l = front _ [] _ k _ l

pub block-top : (s : CellStyle) (ms : Sides Mark) (w h : ℕ) (t : List ℕ) (k : ℕ) → lines_above s h t ≤ k
    → k - lines_above s h t < s.padding.top.size → get_or (pool_block s ms w h t) k [] ≡ coloured ms.top (fill s.padding.top.fill w)
unfolding pool_block
block-top s ms w h t k l m = behind _ [] _ k _ l ∙ front _ [] _ _ _ m

padded : (s : CellStyle) (ms : Sides Mark) (w h : ℕ) (t : List ℕ) (k : ℕ) → lines_above s h t ≤ k → s.padding.top.size ≤ k - lines_above s h t
    → get_or (pool_block s ms w h t) k [] ≡ get_or (map (text_line s ms w t) (lines_of t) ++
    (replicate s.padding.bottom.size (coloured ms.bottom (fill s.padding.bottom.fill w)) ++ replicate
    (free_lines s h t - lines_above s h t) (fill 32 w))) (k - lines_above s h t - s.padding.top.size) []
unfolding pool_block
padded s ms w h t k l m = behind _ [] _ k _ l ∙ behind _ [] _ _ _ m

pub block-text : (s : CellStyle) (ms : Sides Mark) (w h : ℕ) (t : List ℕ) (k : ℕ) (line : List ℕ) → lines_above s h t ≤ k
    → s.padding.top.size ≤ k - lines_above s h t
    → Some line ≡ slice_get (lines_of t) (k - lines_above s h t - s.padding.top.size) → get_or (pool_block s ms w h t) k [] ≡ text_line s ms w t line
block-text s ms w h t k line l m e = padded s ms w h t k l m ∙ within_text (text_line s ms w t) (lines_of t) [] _ _ line e

pub block-below : (s : CellStyle) (ms : Sides Mark) (w h : ℕ) (t : List ℕ) (k : ℕ) → k < h → lines_above s h t ≤ k → s.padding.top.size ≤ k - lines_above s h t
    → length (lines_of t) ≤ k - lines_above s h t - s.padding.top.size
    → get_or (pool_block s ms w h t) k [] ≡ line_below s ms w (k - lines_above s h t - s.padding.top.size - length (lines_of t))
block-below s ms w h t k n l m e =
    padded s ms w h t k l m ∙ below_text (text_line s ms w t) (lines_of t) [] _ _ e
    ∙ last_lines _ _ [] s.padding.bottom.size (free_lines s h t - lines_above s h t) _
    (let lines = length (lines_of t) in
    let above = lines_above s h t in
    omega arith)

-- what holds of blank lines, of padding and of the lines of the text holds of each line
pub each_line : (P : List ℕ → Type 0) (s : CellStyle) (ms : Sides Mark) (w h : ℕ) (t : List ℕ) (k : ℕ) → P (fill 32 w)
    → P (coloured ms.top (fill s.padding.top.fill w)) → P (coloured ms.bottom (fill s.padding.bottom.fill w))
    → ((j : ℕ) → j < length (lines_of t) → P (text_line s ms w t (get_or (lines_of t) j []))) → k < h → P (get_or (pool_block s ms w h t) k [])
each_line P s ms w h t k blank top bottom texts n =
    let j = k - lines_above s h t - s.padding.top.size in
    ⊎_elim
    (λ l. subst P (sym (block-above s ms w h t k l)) blank)
    (λ l. ⊎_elim
    (λ m. subst P (sym (block-top s ms w h t k l m)) top)
    (λ m. ⊎_elim
    (λ x. subst P (sym (block-text s ms w h t k (get_or (lines_of t) j []) l m (sym (slice_get-get_or (lines_of t) j [] x.1)))) (texts j x.1))
    (λ x. subst P (sym (block-below s ms w h t k n l m (past_from_none (lines_of t) _ (sym x.1))))
    (elim (ltb (j - length (lines_of t)) s.padding.bottom.size) as (λ b. P (cond b (coloured ms.bottom (fill s.padding.bottom.fill w)) (fill 32 w))) [
      | true ↦ bottom
      | false ↦ blank
    ]))
    (slice_get_cases (lines_of t) j).1)
    (cases_lt (k - lines_above s h t) s.padding.top.size))
    (cases_lt k (lines_above s h t))
