-- What stands in the further columns of a stream where nothing is taken there.
use Rattle.tabled_table.proofs.Names.{AlignmentHorizontal, Bool, CellStyle, Layout, List, [], ap, arith, false, fill, get_or_past}
use Rattle.tabled_table.proofs.Names.{layout_row, length, lengthened, refl, replicate, suc, take, width_at, zero, ℕ, ◌++◌, ◌+◌, ◌-◌, ◌<◌}
use Rattle.tabled_table.proofs.Names.{◌∙◌, ◌∷◌, ◌≡◌, ◌≤◌}
use Rattle.std.proofs.Common.{slice_index_or}
use Rattle.tabled_config.specs.Frame.{has_bar}
use Rattle.tabled_config.specs.declared.alignment.AlignmentHorizontal.TheVariants as horizontal
use Rattle.tabled_line.specs.Block.{before_text, block, cell_line, fill_above, fill_below}
use Rattle.tabled_line.specs.Row.{cell_piece, piece}
use Rattle.tabled_line.proofs.Bars.{no-bar}
use Rattle.tabled_table.specs.Stream.Row.{TakesNoMore}
use Rattle.tabled_table.proofs.Stream.Widths.{listed}

-- each of some texts is empty
abbrev Blank : List (List ℕ) → Type 0
Blank xs = (k : ℕ) → slice_index_or xs k [] ≡ []

blank-copies : (n : ℕ) → Blank (replicate n [])
blank-copies zero k = refl
blank-copies (suc n) zero = refl
blank-copies (suc n) (suc k) = blank-copies n k

blank-append : (xs ys : List (List ℕ)) → Blank xs → Blank ys → Blank (xs ++ ys)
blank-append [] ys p q k = q k
blank-append (x ∷ xs) ys p q zero = p 0
blank-append (x ∷ xs) ys p q (suc k) = blank-append xs ys (λ i. p (suc i)) q k

blank-take : (n : ℕ) (xs : List (List ℕ)) → Blank xs → Blank (take n xs)
blank-take zero xs p k = refl
blank-take (suc n) [] p k = refl
blank-take (suc n) (x ∷ xs) p zero = p 0
blank-take (suc n) (x ∷ xs) p (suc k) = blank-take n xs (λ i. p (suc i)) k

blank-one : (x : List ℕ) → x ≡ [] → Blank (x ∷ [])
blank-one x h zero = h
blank-one x h (suc k) = refl

none-before : (alignment : AlignmentHorizontal) → before_text alignment 0 ≡ 0
none-before horizontal.Left = refl
none-before horizontal.Center = refl
none-before horizontal.Right = refl

-- a line of no text between nothing
no-line : (a b : ℕ) (l r n k : ℕ) → l ≡ 0 → r ≡ 0 → n ≡ 0 → fill a l ++ (fill 32 n ++ ([] ++ (fill 32 (0 - l - r - n - k) ++ fill b r))) ≡ []
no-line a b l r n k h i j =
    let e : 0 - l - r - n - k ≡ 0 = omega arith in
    rw (e, h, i, j) refl

line-none : (style : CellStyle) → style.padding.left.size ≡ 0 → style.padding.right.size ≡ 0 → cell_line style 0 [] [] ≡ []
unfolding cell_line
line-none style l r =
    let before : (n : ℕ) → n ≡ 0 → before_text style.horizontal n ≡ 0 = λ n h. ap (before_text style.horizontal) h ∙ none-before style.horizontal in
    no-line _ _ style.padding.left.size style.padding.right.size _ _ l r (before _ (omega arith))

block-none : (style : CellStyle) (height : ℕ) → style.padding.left.size ≡ 0 → style.padding.right.size ≡ 0 → Blank (block style 0 height [])
unfolding block
block-none style height l r =
    let a = fill_above style height [] in
    let b = fill_below style height [] in
    let line = cell_line style 0 [] [] in
    let below = (line ∷ []) ++ replicate b [] in
    blank-take height (replicate a [] ++ below)
    (blank-append (replicate a []) below (blank-copies a)
    (blank-append (line ∷ []) (replicate b []) (blank-one line (line-none style l r)) (blank-copies b)))

-- filling up adds nothing to read
pub filled-at : (cells : List (List ℕ)) (n k : ℕ) → slice_index_or (cells ++ replicate n []) k [] ≡ slice_index_or cells k []
filled-at [] n k = blank-copies n k
filled-at (x ∷ cells) n zero = refl
filled-at (x ∷ cells) n (suc k) = filled-at cells n k

-- nothing stands in a line of a row in a further column, behind the cells that came
pub nothing-further : (layout : Layout) (height : ℕ) (cells : List (List ℕ)) (column index : ℕ) → TakesNoMore layout
    → length layout.contents.items ≤ column → length cells ≤ column → column < layout.count
    → cell_piece (layout_row layout height (lengthened layout.count cells)) index column ≡ []
unfolding cell_piece
nothing-further layout height cells column index none known came within =
    let f = layout.frame in
    let bar : has_bar f column ≡ false = no-bar f column none.bar in
    let width : (layout_row layout height (lengthened layout.count cells)).columns.width column ≡ 0 =
    listed (width_at layout) layout.count column within
    ∙ ap (λ w. w + layout.side) (get_or_past layout.contents.items column layout.rest known)
    ∙ (let a = none.rest in let b = none.side in omega arith) in
    let text = filled-at cells (layout.count - length cells) column ∙ get_or_past cells column [] came in
    let F : Bool → ℕ → List ℕ → List ℕ = λ b w t. piece b f.inner.main ++ slice_index_or (block layout.style w height t) index [] in
    let w = (layout_row layout height (lengthened layout.count cells)).columns.width column in
    let t = slice_index_or (lengthened layout.count cells) column [] in
    ap (λ b. F b w t) bar ∙ ap (λ n. F false n t) width ∙ ap (F false 0) text ∙ block-none layout.style height none.left none.right index
