-- Trees of any texts that settings keep apart are drawable.
use Rattle.tabled_pool.proofs.Names.{Bar, BoxSpacing, Closes, DrawingPlan, IsLine, IsSeparatorColumn, IsUtf8, Kind, Leaf, List, Part}
use Rattle.tabled_pool.proofs.Names.{Rectangle, Rule, Some, ap, arith, border_char, closes-append, closes-frame, closes-framed, frame-nil}
use Rattle.tabled_pool.proofs.Names.{frame-one, has_left, inl, inr, is_border_before, is_line, is_line_kind, leaf_line, line-frame, owner}
use Rattle.tabled_pool.proofs.Names.{suc, sym, true, ℕ, ⊎_elim, ◌++◌, ◌+◌, ◌-◌, ◌<◌, ◌∙◌, ◌≡◌, ◌⊎◌}
use Rattle.tabled_text.proofs.Ends.{begins-frame, line-begins, line-closes, line-nil, opens-begins}
use Rattle.tabled_pool.specs.Plain.{HasSeparator}
use Rattle.tabled_pool.proofs.ApartBlocks.{held-block, IsBlockLine}
use Rattle.tabled_pool.proofs.Bare.{around-bare}
use Rattle.tabled_pool.proofs.Characters.{char-kind}
use Rattle.tabled_pool.proofs.Drawable.{IsDrawable}
use Rattle.tabled_pool.proofs.Lines.{separator_lines}
use Rattle.tabled_pool.proofs.Plains.{IsTree, leaf-holds}

abbrev pub ApartTree : BoxSpacing → DrawingPlan → Type 0
ApartTree g t = IsTree IsSeparatorColumn IsUtf8 g t

char : (g : BoxSpacing) (t : DrawingPlan) → ApartTree g t → (k : Kind) (r : Rectangle) (x y : ℕ) → IsSeparatorColumn (border_char t k r x y)
char g t h k r x y = char-kind IsSeparatorColumn t separator_lines.space h.borders k r x y

leaf-held : (g : BoxSpacing) (t : DrawingPlan) → ApartTree g t → (x y : ℕ) (p : Part) → owner t.parts x y ≡ Some p → p.kind ≡ Leaf
    → IsBlockLine t.style p.place.width (leaf_line t p (y - p.place.y))
leaf-held g t h = leaf-holds (IsBlockLine t.style) _ _ g t h (held-block t.style)

-- what is out before a place ends apart, if texts have right padding or a line stands there
pub record ApartOut (t : DrawingPlan) (y x : ℕ) (out : List ℕ) (n : ℕ) : Type 0 where
  pub line : IsLine out n
  pub closes : (0 < t.style.padding.right.size) ⊎ (is_border_before t.parts x y ≡ true) → Closes out

behind-leaf : (t : DrawingPlan) (y x : ℕ) (p : Part) (out : List ℕ) → owner t.parts x y ≡ Some p → p.kind ≡ Leaf
    → is_border_before t.parts (suc x) y ≡ true → Closes out
behind-leaf t y x p out o e z = by-kind p.kind e (sym (ap is_line o) ∙ z)
  where
    by-kind : (k : Kind) → k ≡ Leaf → is_line_kind k ≡ true → Closes out
    by-kind Leaf e z = cc
    by-kind Bar e z = cc
    by-kind Rule e z = cc

-- a text stands behind right padding or a line, or begins with left padding
out-leaf : (g : BoxSpacing) (t : DrawingPlan) → ApartTree g t → HasSeparator t.borders t.style
    → (has_left t.borders ≡ true → (x y : ℕ) (p : Part) → owner t.parts x y ≡ Some p → p.kind ≡ Leaf → p.place.x ≡ x
    → is_border_before t.parts x y ≡ true)
    → (y x : ℕ) (p : Part) (out : List ℕ) (n : ℕ) → owner t.parts x y ≡ Some p → p.kind ≡ Leaf → p.place.x ≡ x → ApartOut t y x out n
    → IsLine (out ++ leaf_line t p (y - p.place.y)) (n + p.place.width)
out-leaf g t h (inl bar) behind y x p out n o e s l =
    line-closes l.line (leaf-held g t h x y p o e).line (l.closes (inr (behind bar x y p o e s)))
out-leaf g t h (inr (inl z)) behind y x p out n o e s l =
    let b = leaf-held g t h x y p o e in line-begins l.line b.line (opens-begins (b.opens z))
out-leaf g t h (inr (inr z)) behind y x p out n o e s l = line-closes l.line (leaf-held g t h x y p o e).line (l.closes (inl z))

pub apart_drawable : (g : BoxSpacing) (t : DrawingPlan) → ApartTree g t → HasSeparator t.borders t.style
    → (has_left t.borders ≡ true → (x y : ℕ) (p : Part) → owner t.parts x y ≡ Some p → p.kind ≡ Leaf → p.place.x ≡ x
    → is_border_before t.parts x y ≡ true)
    → IsDrawable t (ApartOut t)
apart_drawable g t h gap behind = record {
  once = h.once;
  bare = around-bare t h.line_marks;
  columns = λ y x out n l. l.line.columns;
  none = λ y. record { line = line-nil; closes = λ _. closes-frame frame-nil };
  border = λ y x k p out n o l.
      let f = frame-one (border_char t k p.place x y) (char g t h k p.place x y) in
      record { line = line-begins l.line (line-frame f) (begins-frame f); closes = λ _. closes-framed l.line f (omega arith) };
  leaf = λ y x p out n o e s l. record {
    line = out-leaf g t h gap behind y x p out n o e s l;
    closes = λ c. ⊎_elim
        (λ z. closes-append l.line (l.closes (inl z)) ((leaf-held g t h x y p o e).closes z))
        (λ z. behind-leaf t y x p _ o e z) c;
  };
  goes = λ y x p out n o e l. record {
    line = l.line;
    closes = λ c. ⊎_elim (λ z. l.closes (inl z)) (λ z. behind-leaf t y x p out o e z) c;
  };
}
