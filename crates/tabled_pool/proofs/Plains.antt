-- A tree of plain texts is drawable.
use Rattle.tabled_pool.proofs.Names.{AreNoMarks, AreTiles, BoxSpacing, DrawingPlan, EachCharacter, EachFill, Indent, IsAdditive}
use Rattle.tabled_pool.proofs.Names.{IsAdditiveColumn, IsAdditiveLine, Leaf, List, Part, Sides, Some, [], arith, each_side, get_or}
use Rattle.tabled_pool.proofs.Names.{leaf_line, no_mark, owner, plain_column-space, plain_line-append, pool_block, subst, sym, text_columns}
use Rattle.tabled_pool.proofs.Names.{whole, ℕ, ◌+◌, ◌-◌, ◌<◌, ◌≡◌, ◌≤◌}
use Rattle.tabled_text.proofs.PlainLines.{plain_line-nil, plain_line-one}
use Rattle.tabled_pool.proofs.Bare.{around-bare}
use Rattle.tabled_pool.proofs.Characters.{char-kind}
use Rattle.tabled_pool.proofs.Drawable.{IsDrawable}
use Rattle.tabled_pool.proofs.Lines.{IsHeldText, additive_lines, block}
use Rattle.tabled_pool.proofs.Owners.{within-inside, owner-inside}
use Rattle.tabled_pool.proofs.PlainBlocks.{bare}
use Rattle.tabled_pool.proofs.Tiling.{EachPart, IsHeld, owner-part}

-- parts that tile the entire drawing, and hold their texts; characters and texts are of a kind, and
-- nothing is coloured
pub record IsTree (IsKind : ℕ → Type 0) (IsText : List ℕ → Type 0) (g : BoxSpacing) (t : DrawingPlan) : Type 0 where
  pub once : AreTiles t.parts (whole t)
  pub held : EachPart (IsHeld g IsText) t.parts
  pub spacing : g.padding ≡ t.style.padding
  pub borders : EachCharacter IsKind t.borders
  pub padding : EachFill IsKind t.style.padding
  pub padding_marks : t.padding_marks ≡ each_side no_mark
  pub line_marks : AreNoMarks t.line_marks

-- what holds of the lines of a block without colours holds of the line of a leaf at a place
pub leaf-holds : (P : ℕ → List ℕ → Type 0) (IsKind : ℕ → Type 0) (IsText : List ℕ → Type 0) (g : BoxSpacing) (t : DrawingPlan)
    → IsTree IsKind IsText g t → ((w h k : ℕ) (text : List ℕ) → IsHeldText IsKind IsText t.style w text → k < h
    → P w (get_or (pool_block t.style bare w h text) k []))
    → (x y : ℕ) (p : Part) → owner t.parts x y ≡ Some p → p.kind ≡ Leaf → P p.place.width (leaf_line t p (y - p.place.y))
unfolding leaf_line
leaf-holds P IsKind IsText g t h lines x y p o e =
    let i = within-inside p.place x y (owner-inside t.parts x y p o) in
    let f = owner-part (IsHeld g IsText) t.parts x y p h.held o in
    subst (λ ms. P p.place.width (get_or (pool_block t.style ms p.place.width p.place.height p.text) (y - p.place.y) []))
    (sym h.padding_marks)
    (lines p.place.width p.place.height (y - p.place.y) p.text
    (record { style = h.padding; own = f.text; fits = subst (λ (q : Sides Indent). text_columns p.text + (q.left.size + q.right.size) ≤ p.place.width) h.spacing (f.wide e) })
    (omega (arith, i.top, i.bottom)))

-- a plain line
abbrev pub PlainOut : ℕ → ℕ → List ℕ → ℕ → Type 0
PlainOut y x out n = IsAdditiveLine out n

pub plain_drawable : (g : BoxSpacing) (t : DrawingPlan) → IsTree IsAdditiveColumn IsAdditive g t → IsDrawable t PlainOut
plain_drawable g t h = record {
  once = h.once;
  bare = around-bare t h.line_marks;
  columns = λ y x out n l. l.columns;
  none = λ y. plain_line-nil;
  border = λ y x k p out n o l. plain_line-append l (plain_line-one _ (char-kind IsAdditiveColumn t plain_column-space h.borders k p.place x y));
  leaf = λ y x p out n o e s l. plain_line-append l (leaf-holds (λ w bs. IsAdditiveLine bs w) _ _ g t h (block additive_lines t.style) x y p o e);
  goes = λ y x p out n o e l. l;
}
