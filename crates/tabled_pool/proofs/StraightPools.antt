-- The lines of straight pool tables: they tile the tree, and take the columns of the whole.
use Rattle.tabled_pool.proofs.Names.{EachLineTakes, EachText, HasColumns, IsAdditive, IsAdditiveColumn, IsSeparatorColumn, IsUtf8}
use Rattle.tabled_pool.proofs.Names.{IsUtf8-nil, List, PoolTable, Tiled, [], ap, arith, borders_of, cond, drawn, each_side, false, frame_of}
use Rattle.tabled_pool.proofs.Names.{frame_place, framed_width, inl, inr, margin_marks, margin_of, marks_of, no_mark, plan, pool_lines}
use Rattle.tabled_pool.proofs.Names.{refl, spacing_of, subst, sym, tree_of, true, with_margin, ℕ, ◌≡◌}
use Rattle.tabled_priority.specs.Sums.{one_if}
use Rattle.tabled_pool.specs.Plain.{IsApartPool, IsStraightPool, HasSettings, IsAdditivePool, IsPlainPool}
use Rattle.tabled_pool.specs.Pool.{has_margin, total_width}
use Rattle.tabled_pool.proofs.Aparts.{ApartOut, apart_drawable}
use Rattle.tabled_pool.proofs.BehindLines.{framed-behind}
use Rattle.tabled_pool.proofs.Columns.{drawn_takes, line-measured}
use Rattle.tabled_pool.proofs.Drawable.{IsDrawable}
use Rattle.tabled_pool.proofs.Lines.{additive_lines, margined, separator_lines}
use Rattle.tabled_pool.proofs.PlainBlocks.{bare}
use Rattle.tabled_pool.proofs.PoolLemmas.{lined}
use Rattle.tabled_pool.proofs.Plains.{plain_drawable, IsTree, PlainOut}
use Rattle.tabled_pool.proofs.Tiles.{drawn_tiles}
use Rattle.tabled_pool.proofs.Tiling.{framed-held, framed-tiles}
use Rattle.tabled_pool.proofs.Trees.{tree-utf8}
use Rattle.tabled_pool.proofs.TreeTexts.{additive-each, additive-nil}

-- ---- the trees of such tables

tree_plan : (IsKind : ℕ → Type 0) (IsText : List ℕ → Type 0) → IsText [] → (t : PoolTable) → HasSettings IsKind t → EachText IsText (tree_of t.value)
    → IsTree IsKind IsText (spacing_of t) (plan t)
unfolding plan
tree_plan IsKind IsText e t h k = record {
  once = framed-tiles (spacing_of t) t.value (frame_of (borders_of t)) (frame_place t) (omega arith) (omega arith);
  held = framed-held (spacing_of t) IsText e t.value k (frame_of (borders_of t)) (frame_place t) (omega arith) (omega arith);
  spacing = refl;
  borders = h.borders;
  padding = h.padding;
  padding_marks = h.uncoloured.padding;
  line_marks = h.uncoloured.borders;
}

apart-drawable : (t : PoolTable) → IsApartPool t → IsDrawable (plan t) (ApartOut (plan t))
unfolding plan
apart-drawable t h =
    apart_drawable (spacing_of t) _ (tree_plan IsSeparatorColumn IsUtf8 IsUtf8-nil t h.settings (tree-utf8 t.value)) h.gap
    (λ l x y p o k s. framed-behind (spacing_of t) (ap one_if l) t.value (frame_of (borders_of t)) (frame_place t) (ap one_if l)
    (omega arith) (omega arith) x y p o k s)

plain-drawable : (t : PoolTable) → IsAdditivePool t → IsDrawable (plan t) PlainOut
plain-drawable t h = plain_drawable (spacing_of t) (plan t) (tree_plan IsAdditiveColumn IsAdditive additive-nil t h.settings h.texts)

pub pool_tiles : (t : PoolTable) → IsStraightPool t → Tiled (plan t)
pool_tiles t (inl h) = drawn_tiles (plan t) (apart-drawable t h)
pool_tiles t (inr h) = drawn_tiles (plan t) (plain-drawable t h)

pub pool_columns : (t : PoolTable) → IsStraightPool t → EachLineTakes (framed_width t) (drawn (plan t))
unfolding plan
pool_columns t (inl h) = drawn_takes (plan t) (apart-drawable t h)
pool_columns t (inr h) = drawn_takes (plan t) (plain-drawable t h)

-- ---- margins

bare-margin : (t : PoolTable) → marks_of t.config.config.margin_color ≡ each_side no_mark → margin_marks t ≡ bare
bare-margin t h =
    elim (has_margin (margin_of t)) as (λ b. cond b (marks_of t.config.config.margin_color) (each_side no_mark) ≡ bare) [
      | true ↦ h
      | false ↦ refl
    ]

-- the lines with a margin without colours
bare-columns : (t : PoolTable) → IsStraightPool t
    → EachLineTakes (total_width t) (with_margin (margin_of t) bare (framed_width t) (drawn (plan t)))
unfolding plan
bare-columns t (inl h) =
    margined separator_lines (plan t) (margin_of t) h.settings.margin (λ y v. (line-measured (plan t) (apart-drawable t h) y v).line)
bare-columns t (inr h) =
    margined additive_lines (plan t) (margin_of t) h.settings.margin (λ y v. line-measured (plan t) (plain-drawable t h) y v)

bare-settings : (t : PoolTable) → IsStraightPool t → margin_marks t ≡ bare
bare-settings t (inl h) = bare-margin t h.settings.uncoloured.margin
bare-settings t (inr h) = bare-margin t h.settings.uncoloured.margin

pub whole_columns : (t : PoolTable) → HasColumns t → IsStraightPool t → EachLineTakes (total_width t) (pool_lines t)
whole_columns t c h =
    subst (EachLineTakes (total_width t)) (sym (lined t c))
    (subst (λ ms. EachLineTakes (total_width t) (with_margin (margin_of t) ms (framed_width t) (drawn (plan t)))) (sym (bare-settings t h))
    (bare-columns t h))

-- plain texts are additive
pub straight_plain : (t : PoolTable) → IsPlainPool t → IsStraightPool t
straight_plain t h = inr (record { texts = additive-each (tree_of t.value) h.texts; settings = h.settings })
