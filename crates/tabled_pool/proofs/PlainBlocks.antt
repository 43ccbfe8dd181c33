-- The lines of a block without colours.
use Rattle.tabled_pool.proofs.Names.{CellStyle, List, Mark, Sides, [], ap, append-nil, append_assoc, arith, cell_line, columns_before, cond}
use Rattle.tabled_pool.proofs.Names.{each_side, false, fill, indent, inner_width, line_columns, no_mark, refl, text_columns, text_line, true}
use Rattle.tabled_pool.proofs.Names.{without_sides, ℕ, ◌++◌, ◌+◌, ◌-◌, ◌∙◌, ◌≡◌, ◌≤◌}
use Rattle.tabled_config.specs.declared.alignment.AlignmentHorizontal.{AlignmentHorizontal}
use Rattle.tabled_config.specs.declared.alignment.AlignmentHorizontal.TheVariants as horizontal
use Rattle.tabled_config.specs.Compact.{no_indent}
use Rattle.tabled_line.specs.Block.{before_text}
use Rattle.tabled_line.specs.Fill.{padded_text}

before-le : (a : AlignmentHorizontal) (n : ℕ) → before_text a n ≤ n
before-le horizontal.Left n = omega arith
before-le horizontal.Center n = omega arith
before-le horizontal.Right n = omega arith

pub columns_before-fits : (s : CellStyle) (room : ℕ) (text line : List ℕ) → line_columns line ≤ text_columns text
    → text_columns text ≤ room → columns_before s room text line + line_columns line ≤ room
columns_before-fits s room text line l m =
    elim s.line_alignment as (λ b. before_text s.horizontal (room - (cond b (line_columns line) (text_columns text))) + line_columns line ≤ room) [
      | true ↦ let h = before-le s.horizontal (room - line_columns line) in omega arith
      | false ↦ let h = before-le s.horizontal (room - text_columns text) in omega arith
    ]

abbrev pub bare : Sides Mark
bare = each_side no_mark

-- without colours a line of a text is a line of its cell
pub bare-text_line : (s : CellStyle) (marks : Sides Mark) (w : ℕ) (text line : List ℕ) → marks ≡ bare
    → text_line s marks w text line ≡ cell_line s w text line
unfolding cell_line
bare-text_line s marks w text line e =
    let inner = inner_width s w in
    let same : inner_width (without_sides s) inner ≡ inner = omega arith in
    ap (λ m. text_line s m w text line) e
    ∙ ap (λ n. (indent s.padding.left ++ []) ++ ((fill 32 (columns_before s n text line)
    ++ (line ++ (fill 32 (n - columns_before s n text line - line_columns line) ++ []))) ++ (indent s.padding.right ++ []))) same
    ∙ simp (append_assoc, append-nil)

-- ---- a line of a text, from the spaces around it

pub bare_line : (s : CellStyle) (marks : Sides Mark) (w : ℕ) (text line : List ℕ) (before behind : ℕ) → marks ≡ bare
    → before ≡ columns_before s (inner_width s w) text line → behind ≡ inner_width s w - before - line_columns line
    → text_line s marks w text line ≡ padded_text s.padding before line behind
unfolding cell_line
bare_line s marks w text line before behind e b h = bare-text_line s marks w text line e ∙ rw (h, b) refl

-- the part between the padding
pub inner_line : (s : CellStyle) (w : ℕ) (text line : List ℕ) (before behind : ℕ) → before ≡ columns_before s (inner_width s w) text line
    → behind ≡ inner_width s w - before - line_columns line
    → cell_line (without_sides s) (inner_width s w) text line ≡ padded_text (each_side no_indent) before line behind
unfolding cell_line
inner_line s w text line before behind b h =
    let inner = inner_width s w in
    let same : inner_width (without_sides s) inner ≡ inner = omega arith in
    ap (λ n. fill 32 (columns_before s n text line) ++ (line ++ (fill 32 (n - columns_before s n text line - line_columns line) ++ []))) same
    ∙ rw (h, b) refl
