-- Texts that stand between spaces.
use Rattle.tabled_line.proofs.Names.{AlignmentHorizontal, Bool, CellStyle, IsTop, List, None, RowSheet, [], above_text, ap, append_assoc}
use Rattle.tabled_line.proofs.Names.{arith, before_text, block_line, cell_line, columns_before, cond, false, fill, fill_above}
use Rattle.tabled_line.proofs.Names.{free_lines, get_or_from_slice_get, indent, inl, inner_width, inr, line_columns, line_columns-le}
use Rattle.tabled_line.proofs.Names.{lines_of, refl, slice_get, subst}
use Rattle.tabled_line.proofs.Names.{sym, text_columns, true, ℕ, ◌++◌, ◌+◌, ◌-◌, ◌<◌, ◌∙◌, ◌≡◌, ◌≤◌}
use Rattle.std.proofs.lemmas.Option.{slice_get_within}
use Rattle.tabled_text.proofs.Bridge.{some_line}
use Rattle.tabled_config.specs.declared.sides.Indent.{Indent}
use Rattle.tabled_config.specs.declared.alignment.AlignmentHorizontal.TheVariants as horizontal
use Rattle.tabled_config.specs.declared.alignment.AlignmentVertical.{AlignmentVertical}
use Rattle.tabled_config.specs.declared.alignment.AlignmentVertical.TheVariants as vertical
use Rattle.tabled_line.specs.Placements.{IsSpaced}
use Rattle.tabled_line.specs.Cursors.{IsTextLine}
use Rattle.tabled_line.specs.RowLines.{IsCellText}
use Rattle.tabled_line.specs.declared.cell_lines.TextLine.{TextLine}
use Rattle.tabled_line.proofs.Blocks.{block-below, block-text}
use Rattle.tabled_line.proofs.Fills.{fill-add}

above-none : (v : AlignmentVertical) (n : ℕ) → n ≡ 0 → above_text v n ≡ 0
above-none vertical.Top n h = refl
above-none vertical.Center n h = rw h refl
above-none vertical.Bottom n h = h

pub before-within : (h : AlignmentHorizontal) (n : ℕ) → before_text h n ≤ n
before-within horizontal.Left n = omega arith
before-within horizontal.Center n = omega arith
before-within horizontal.Right n = omega arith

either-way : (b : Bool) (x y : ℕ) → y ≡ x → cond b x y ≡ x
either-way true x y e = refl
either-way false x y e = e

indent-spaces : (side : Indent) → side.fill ≡ 32 → indent side ≡ fill 32 side.size
indent-spaces side e = ap (λ f. fill f side.size) e

-- a line of a text stands between spaces, where its side padding is spaces
pub cell_line-between : (s : CellStyle) (w : ℕ) (text line : List ℕ) (shift before behind : ℕ)
    → s.padding.left.fill ≡ 32 → s.padding.right.fill ≡ 32 → shift ≡ columns_before s (inner_width s w) text line
    → before ≡ s.padding.left.size + shift → behind ≡ inner_width s w - shift - line_columns line + s.padding.right.size
    → cell_line s w text line ≡ fill 32 before ++ (line ++ fill 32 behind)
unfolding cell_line
cell_line-between s w text line shift before behind spaced_left spaced_right own front back =
    let room = inner_width s w in
    let cols = line_columns line in
    let left = s.padding.left in
    let right = s.padding.right in
    ap (λ k. indent left ++ (fill 32 k ++ (line ++ (fill 32 (room - k - cols) ++ indent right)))) (sym own)
    ∙ ap (λ u. u ++ (fill 32 shift ++ (line ++ (fill 32 (room - shift - cols) ++ indent right)))) (indent-spaces left spaced_left)
    ∙ ap (λ u. fill 32 left.size ++ (fill 32 shift ++ (line ++ (fill 32 (room - shift - cols) ++ u)))) (indent-spaces right spaced_right)
    ∙ ap (λ u. fill 32 left.size ++ (fill 32 shift ++ (line ++ u))) (sym (fill-add 32 (room - shift - cols) right.size behind (sym back)))
    ∙ sym (append_assoc (fill 32 left.size) (fill 32 shift) (line ++ fill 32 behind))
    ∙ ap (λ u. u ++ (line ++ fill 32 behind)) (sym (fill-add 32 left.size shift before (sym front)))

-- ---- the line of a cell's text

-- a text with spaces below it begins in the first line of its cell
pub top-above : (s : CellStyle) (h : ℕ) (text : List ℕ) → IsTop s → fill_above s h text ≡ 0
top-above s h text top = omega (arith, top.above, ap (λ v. above_text v (free_lines s h text)) top.vertical_is)

-- likewise one whose only line in a row is the first
pub only-above : (s : CellStyle) (text : List ℕ) → s.padding.top.size ≡ 0 → fill_above s 1 text ≡ 0
only-above s text top =
    let some = some_line text in
    let none = above-none s.vertical (free_lines s 1 text) (omega arith) in
    omega arith

-- a line of a text is no wider than the text
pub line-within : {text : List ℕ} {index : ℕ} {line : TextLine} → IsTextLine text index line → line.columns ≤ line.widest
line-within {text} {index} {line} h =
    let within = slice_get_within (lines_of text) index line.text.now (sym h.text_is) in
    let columns = h.columns_are ∙ ap line_columns (sym (get_or_from_slice_get (lines_of text) index line.text.now [] (sym h.text_is))) in
    omega (arith, columns, h.widest_is, line_columns-le text index within)

-- the columns before a line, if all lines are aligned alike or the line is as wide as its text
pub shift-is : {row : RowSheet} {index column : ℕ} {line : TextLine} (w : ℕ) → IsCellText row index column line
    → before_text (row.style column).horizontal (inner_width (row.style column) w - line.widest)
    ≡ columns_before (row.style column) (inner_width (row.style column) w) (row.text column) line.text.now
shift-is {row} {index} {column} {line} w h =
    let s = row.style column in
    let room = inner_width s w in
    let at : ℕ → ℕ = λ n. before_text s.horizontal (room - n) in
    let cols = line_columns line.text.now in
    let all = text_columns (row.text column) in
    let wide : line.widest ≡ line.columns → all ≡ cols = λ e. sym h.line_is.widest_is ∙ e ∙ h.line_is.columns_are in
    let P : ℕ → Type 0 = λ n. at n ≡ columns_before s room (row.text column) line.text.now in
    subst P (sym h.line_is.widest_is)
    (elim h.alone as (λ _. P all) [
      | inl top ↦ sym (ap (λ b. at (cond b cols all)) top.alike)
      | inr only ↦ sym (ap at (either-way s.line_alignment cols all (wide only.1) ∙ sym (wide only.1)))
    ])

above-is : {row : RowSheet} {index column : ℕ} {line : TextLine} → IsCellText row index column line → (row.style column).padding.top.size ≡ 0
    → fill_above (row.style column) row.height (row.text column) ≡ 0
above-is {row} {index} {column} h top =
    let s = row.style column in
    elim h.alone [
      | inl is ↦ top-above s row.height (row.text column) is
      | inr only ↦ ap (λ n. fill_above s n (row.text column)) only.0 ∙ only-above s (row.text column) top
    ]

-- a line of a cell is the line of its text between spaces
pub cell-spaced : {row : RowSheet} {index column : ℕ} {line : TextLine} (shift before behind : ℕ) → index < row.height
    → IsCellText row index column line → IsSpaced (row.style column).padding
    → shift ≡ before_text (row.style column).horizontal (inner_width (row.style column) (row.columns.width column) - line.widest)
    → before ≡ (row.style column).padding.left.size + shift
    → behind ≡ inner_width (row.style column) (row.columns.width column) - shift - line.columns + (row.style column).padding.right.size
    → before + (line.columns + behind) ≡ row.columns.width column
    → block_line row index column ≡ fill 32 before ++ (line.text.now ++ fill 32 behind)
cell-spaced {row} {index} {column} {line} shift before behind inside h spaced own front back whole =
    let s = row.style column in
    let w = row.columns.width column in
    let text = row.text column in
    let above = above-is h spaced.top in
    let first : index ≡ index - fill_above s row.height text = omega (arith, above) in
    block-text s w row.height text index line.text.now inside (omega (arith, above))
    (h.line_is.text_is ∙ ap (slice_get (lines_of text)) first)
    ∙ cell_line-between s w text line.text.now shift before behind spaced.left spaced.right (own ∙ shift-is w h) front
    (omega (arith, back, h.line_is.columns_are))

-- a cell is blank past its text, if spaces are below that
pub cell-blank : (row : RowSheet) (index column : ℕ) → index < row.height → IsTop (row.style column)
    → None ≡ slice_get (lines_of (row.text column)) index → block_line row index column ≡ fill 32 (row.columns.width column)
cell-blank row index column inside top past =
    let s = row.style column in
    let text = row.text column in
    let above = top-above s row.height text top in
    let first : index ≡ index - fill_above s row.height text = omega (arith, above) in
    block-below s (row.columns.width column) row.height text index inside (omega (arith, above))
    (past ∙ ap (slice_get (lines_of text)) first)
    ∙ ap (λ c. fill c (row.columns.width column)) top.below
