-- Pool tables as plans.
use Rattle.tabled_pool.proofs.Names.{AreTiles, BlockSheet, Borders, CellStyle, DrawingPlan, HasColumns, Indent, List, Mark, Part, PoolTable}
use Rattle.tabled_pool.proofs.Names.{Sides, ap, arith, borders_of, covering, drawn, frame_of, frame_place, framed_width, has_zero_width}
use Rattle.tabled_pool.proofs.Names.{line_marks_of, margin_marks, margin_of, marks_for, marks_of, plan, pool_lines, refl, spacing_of, sym}
use Rattle.tabled_pool.proofs.Names.{true, with_margin, within, ℕ, ◌∙◌, ◌≡◌}
use Rattle.std.specs.List.{join_with_byte}
use Rattle.tabled_pool.proofs.Tiling.{framed-tiles}
use Rattle.tabled_pool.specs.Colours.{LineMarks}
use Rattle.tabled_pool.specs.Inherited.{inherited_block}
use Rattle.tabled_pool.specs.Pool.{framed_height, margin_around, margined, pool_text, style_of}

-- the lines of a table whose texts have columns, and of another one
pub lined : (t : PoolTable) → HasColumns t
    → pool_lines t ≡ with_margin (margin_of t) (margin_marks t) (framed_width t) (drawn (plan t))
unfolding pool_lines
lined t h = rw h refl

pub inherited_lines : (t : PoolTable) → has_zero_width (plan t).parts ≡ true
    → pool_lines t ≡ margined t (inherited_block (plan t) (spacing_of t) t.value)
unfolding pool_lines
inherited_lines t h = rw h refl

drawn-text : (t : PoolTable) (p : DrawingPlan) (m : Sides Indent) (ms : Sides Mark) → p ≡ plan t → m ≡ margin_of t → ms ≡ margin_marks t
    → with_margin (margin_of t) (margin_marks t) (framed_width t) (drawn (plan t)) ≡ with_margin m ms p.width (drawn p)
unfolding plan
drawn-text t p m ms e1 e2 e3 = rw (e1, e2, e3) refl

-- a plan with its margin is the text of the table whose it is
pub text_of : (t : PoolTable) (p : DrawingPlan) (m : Sides Indent) (ms : Sides Mark) → HasColumns t → p ≡ plan t → m ≡ margin_of t
    → ms ≡ margin_marks t → pool_text t ≡ join_with_byte 10 (with_margin m ms p.width (drawn p))
unfolding pool_text
text_of t p m ms h e1 e2 e3 = ap (join_with_byte 10) (lined t h ∙ drawn-text t p m ms e1 e2 e3)

block-text : (t : PoolTable) (p q : BlockSheet) (m : Sides Indent) (ms : Sides Mark) → p ≡ q → m ≡ margin_around t p
    → ms ≡ marks_for t m → margined t q ≡ with_margin m ms p.width p.lines
block-text t p q m ms e1 e2 e3 = rw (e3, e2, e1) refl

-- drawn lines with their margin are the text of the table whose they are
pub inherited_text : (t : PoolTable) (p : BlockSheet) (m : Sides Indent) (ms : Sides Mark) → has_zero_width (plan t).parts ≡ true
    → p ≡ inherited_block (plan t) (spacing_of t) t.value → m ≡ margin_around t p → ms ≡ marks_for t m
    → pool_text t ≡ join_with_byte 10 (with_margin m ms p.width p.lines)
unfolding pool_text
inherited_text t p m ms h e1 e2 e3 = ap (join_with_byte 10) (inherited_lines t h ∙ block-text t p _ m ms e1 e2 e3)

pub plan_is : (t : PoolTable) (ps : List Part) (w h : ℕ) (b : Borders ℕ) (s : CellStyle) (pm : Sides Mark) (lm : LineMarks)
    → ps ≡ (plan t).parts → w ≡ framed_width t → h ≡ framed_height t → b ≡ borders_of t → s ≡ style_of t.config
    → pm ≡ marks_of t.config.config.padding_color → lm ≡ line_marks_of t.config.config.borders_color
    → record { parts = ps; width = w; height = h; borders = b; style = s; padding_marks = pm; line_marks = lm } ≡ plan t
unfolding plan
plan_is t ps w h b s pm lm e1 e2 e3 e4 e5 e6 e7 = rw (e1, e2, e3, e4, e5, e6, e7) refl

-- the parts of a plan tile its rectangle
pub plan_tiles : (t : PoolTable) (ps : List Part) (w h : ℕ) → ps ≡ (plan t).parts → w ≡ framed_width t → h ≡ framed_height t
    → AreTiles ps (record { x = 0; y = 0; width = w; height = h })
unfolding plan
plan_tiles t ps w h e f g =
    let base : AreTiles (plan t).parts (frame_place t) =
    framed-tiles (spacing_of t) t.value (frame_of (borders_of t)) (frame_place t) (omega arith) (omega arith) in
    λ px py. ap (λ qs. covering qs px py) e ∙ base px py
    ∙ ap (λ v. within (record { x = 0; y = 0; width = v; height = framed_height t }) px py) (sym f)
    ∙ ap (λ v. within (record { x = 0; y = 0; width = w; height = v }) px py) (sym g)
