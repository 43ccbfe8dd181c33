-- What a table keeps and gains where it is shown with a width and an alignment of its own.
use Rattle.tabled_table.proofs.Names.{AlignmentHorizontal, AreAdditive, AreTexts, Bool, EachLineTakes, Err, Holds, IsAdditiveColumn}
use Rattle.tabled_table.proofs.Names.{IsApartConfig, IsApartStyle, IsErrAnd, IsAdditiveConfig, IsAdditiveStyle, IsRectangular, IsSeparatorColumn}
use Rattle.tabled_table.proofs.Names.{List, Memory, None, Ok, Option, Result, Sent, Sheet, Some, SpannedConfig, Table, TableError, ap}
use Rattle.tabled_table.proofs.Names.{arith, cells_of, column_width, columns, cond, estimated_widths, false, filled_width, frame}
use Rattle.tabled_table.proofs.Names.{heights_of, inl, inr, is_empty, is_some, length, max, nat_lt, not, picture, refl, rule_at, sheet}
use Rattle.tabled_table.proofs.Names.{overridden_sheet, shown_config, style_at, subst, sym, total_width, true, widths_of, ℕ, ⊎_elim, ◌&&◌, ◌+◌, ◌-◌}
use Rattle.tabled_table.proofs.Names.{◌<◌, ◌==◌, ◌||◌, ◌∙◌, ◌≡◌, ◌≤◌, ◌⊎◌}
use Rattle.std.proofs.lemmas.Bool.{eqb-true, ltb-false, or_right}
use Rattle.tabled_config.specs.declared.sides.Indent.{Indent}
use Rattle.tabled_config.specs.declared.sides.Sides.{Sides}
use Rattle.tabled_config.specs.declared.alignment.AlignmentHorizontal.TheVariants.{Left, Center, Right}
use Rattle.tabled_size.specs.declared.complete_dimension.CompleteDimension.{CompleteDimension}
use Rattle.tabled_size.specs.Effective.{effective}
use Rattle.tabled_line.specs.Apart.{AreApartCells}
use Rattle.tabled_table.specs.PrintedWith.{grown, left_part, shown_fill, widened, asked, missing_columns, missing_to, takes_memory}
use Rattle.tabled_base.specs.declared.error.TableError.TheVariants.{ShortWidths}
use Rattle.tabled_size.specs.Stored.{is_stored}
use Rattle.tabled_grid.specs.Printed.{FailsToPrint, Prints}
use Rattle.tabled_grid.proofs.Printing.{refused_so}
use Rattle.tabled_grid.proofs.ApartPictures.{apart_columns}
use Rattle.tabled_grid.proofs.Whole.{picture_columns}

left_most : (align : Option AlignmentHorizontal) (missing : ℕ) → left_part align missing ≤ missing
left_most None missing = omega arith
left_most (Some Left) missing = omega arith
left_most (Some Center) missing = omega arith
left_most (Some Right) missing = omega arith

-- the sides of a margin grow by what is missing, and their fills are the old ones or the new one
record Gains (fill missing : ℕ) (old new : Sides Indent) : Type 1 where
  sum : new.left.size + new.right.size ≡ (old.left.size + old.right.size) + missing
  top : new.top ≡ old.top
  bottom : new.bottom ≡ old.bottom
  left : (P : ℕ → Type 0) → P old.left.fill → P (shown_fill fill) → P new.left.fill
  right : (P : ℕ → Type 0) → P old.right.fill → P (shown_fill fill) → P new.right.fill

module _ (margin : Sides Indent) (align : Option AlignmentHorizontal) (fill missing : ℕ) where
  abbrev more : Sides Indent
  more =
      record margin {
        left = grown margin.left (left_part align missing) fill;
        right = grown margin.right (missing - left_part align missing) fill;
      }

  gains : Gains fill missing margin (widened margin align fill missing)
  gains = by_cases (missing == 0) refl
    where
      by_cases : (b : Bool) → (missing == 0) ≡ b → Gains fill missing margin (cond b margin more)
      by_cases true e =
          let none : missing ≡ 0 = eqb-true missing 0 e in
          record { sum = omega arith; top = refl; bottom = refl; left = λ P old new. old; right = λ P old new. old }
      by_cases false e =
          let most = left_most align missing in
          record { sum = omega arith; top = refl; bottom = refl; left = λ P old new. new; right = λ P old new. new }

module _ (config : SpannedConfig) (align : Option AlignmentHorizontal) (fill missing : ℕ) where
  abbrev changed : SpannedConfig
  changed = shown_config config align fill missing

  -- the side margins are within the whole
  pub margins_within : (count : ℕ) (widths : List ℕ) → config.margin.left.size + config.margin.right.size ≤ filled_width config count widths
  unfolding filled_width
  margins_within count widths = omega arith

  -- the whole grows by what is missing
  pub shown_total : (count : ℕ) (widths : List ℕ) → filled_width changed count widths ≡ filled_width config count widths + missing
  unfolding filled_width
  shown_total count widths = let sum = (gains config.margin align fill missing).sum in omega arith

  -- the sizes that stand are the same ones
  pub shown_widths : (cells : List (List (List ℕ))) (sizes : CompleteDimension)
      → (effective cells changed sizes).widths ≡ (effective cells config sizes).widths
  unfolding estimated_widths column_width style_at
  shown_widths cells sizes = refl

  -- and they hold the same cells
  pub shown_holds : (cells : List (List (List ℕ))) (sizes : CompleteDimension)
      → Holds (effective cells config sizes) → Holds (effective cells changed sizes)
  unfolding estimated_widths column_width style_at
  shown_holds cells sizes holds = λ row column h k. holds row column h k

  plain_style : (row column : ℕ) → IsAdditiveStyle (style_at config row column) → IsAdditiveStyle (style_at changed row column)
  unfolding style_at
  plain_style row column h = record { left = h.left; right = h.right; top = h.top; bottom = h.bottom }

  apart_style : (row column : ℕ) → IsApartStyle (style_at config row column) → IsApartStyle (style_at changed row column)
  unfolding style_at
  apart_style row column h = record { left = h.left; right = h.right; top = h.top; bottom = h.bottom }

  -- settings of plain characters stay so with a plain fill
  pub shown_plain : (rows count : ℕ) → IsAdditiveConfig config rows count → IsAdditiveColumn (shown_fill fill) → IsAdditiveConfig changed rows count
  unfolding rule_at
  shown_plain rows count h new = record {
    frame = record {
      vertical = h.frame.vertical;
      left = h.frame.left;
      right = h.frame.right;
      margin_left = (gains config.margin align fill missing).left IsAdditiveColumn h.frame.margin_left new;
      margin_right = (gains config.margin align fill missing).right IsAdditiveColumn h.frame.margin_right new;
      margin_top = subst (λ i. IsAdditiveColumn i.fill) (sym (gains config.margin align fill missing).top) h.frame.margin_top;
      margin_bottom = subst (λ i. IsAdditiveColumn i.fill) (sym (gains config.margin align fill missing).bottom) h.frame.margin_bottom;
    };
    rules = λ i b line e. h.rules i b line e;
    styles = λ row column p q. plain_style row column (h.styles row column p q);
  }

  apart_cells : (count row : ℕ) → AreApartCells (frame config) count (style_at config row) → AreApartCells (frame changed) count (style_at changed row)
  unfolding style_at
  apart_cells count row h = record { styles = λ c k. apart_style row c (h.styles c k); bars = h.bars; gaps = h.gaps }

  -- settings that keep texts apart do so with a separator as fill
  pub shown_apart : (rows count : ℕ) → IsApartConfig config rows count → IsSeparatorColumn (shown_fill fill) → IsApartConfig changed rows count
  unfolding rule_at
  shown_apart rows count h new = record {
    margin_top = subst (λ i. IsAdditiveColumn i.fill) (sym (gains config.margin align fill missing).top) h.margin_top;
    margin_bottom = subst (λ i. IsAdditiveColumn i.fill) (sym (gains config.margin align fill missing).bottom) h.margin_bottom;
    rules = λ i b line e. h.rules i b line e;
    cells = λ row k. apart_cells count row (h.cells row k);
    frame = record {
      inner = h.frame.inner;
      left = h.frame.left;
      right = h.frame.right;
      margin_left = (gains config.margin align fill missing).left IsSeparatorColumn h.frame.margin_left new;
      margin_right = (gains config.margin align fill missing).right IsSeparatorColumn h.frame.margin_right new;
    };
  }

-- ---- what is printed of a table with a width and an alignment of its own

-- what is missing makes the greater of two numbers of the lesser
filled_up : (width : Option ℕ) (whole : ℕ) → whole + missing_to width whole ≡ max (asked width) whole
filled_up None whole = omega arith
filled_up (Some width) whole = omega arith

module _ (table : Table) (width : Option ℕ) (align : Option AlignmentHorizontal) (fill : ℕ) where
  abbrev missing : ℕ
  missing = missing_columns table width

  abbrev wide : List ℕ → ℕ
  wide widths = filled_width (shown_config table.config.config align fill missing) (columns (cells_of table)) widths

  -- the total is the greater of the width asked for and the table's own
  pub total_of_shown : is_empty (cells_of table) ≡ false
      → total_width (overridden_sheet table width align fill) ≡ max (asked width) (total_width (sheet table))
  total_of_shown filled =
      let config = table.config.config in
      let widths = (sheet table).widths in
      let same = shown_widths config align fill missing (cells_of table) table.dimension in
      let grown = shown_total config align fill missing (columns (cells_of table)) widths in
      let whole : total_width (sheet table) ≡ filled_width config (columns (cells_of table)) widths = rw filled refl in
      let new : total_width (overridden_sheet table width align fill) ≡ wide (overridden_sheet table width align fill).widths = rw filled refl in
      let up = filled_up width (total_width (sheet table)) in
      new ∙ ap wide same ∙ grown ∙ ap (λ n. n + missing) (sym whole) ∙ up

  -- its lines are straight where settings keep texts apart
  pub texts_of_shown : IsRectangular (cells_of table) → IsApartConfig (sheet table).config (length (cells_of table)) (columns (cells_of table))
      → AreTexts (cells_of table) → Holds (sheet table) → IsSeparatorColumn (shown_fill fill)
      → EachLineTakes (total_width (overridden_sheet table width align fill)) (picture (overridden_sheet table width align fill))
  texts_of_shown rectangular config texts holds new =
      apart_columns (overridden_sheet table width align fill)
      (shown_apart table.config.config align fill missing (length (cells_of table)) (columns (cells_of table)) config new) texts rectangular
      (shown_holds table.config.config align fill missing (cells_of table) table.dimension holds)

  -- and where characters are plain
  pub columns_of_shown : IsRectangular (cells_of table) → IsAdditiveConfig (sheet table).config (length (cells_of table)) (columns (cells_of table))
      → AreAdditive (cells_of table) → Holds (sheet table) → IsAdditiveColumn (shown_fill fill)
      → EachLineTakes (total_width (overridden_sheet table width align fill)) (picture (overridden_sheet table width align fill))
  columns_of_shown rectangular config texts holds new =
      picture_columns (overridden_sheet table width align fill)
      (shown_plain table.config.config align fill missing (length (cells_of table)) (columns (cells_of table)) config new) texts rectangular
      (shown_holds table.config.config align fill missing (cells_of table) table.dimension holds)

-- a call that takes memory less often prints as one that may take it more often
pub prints_more : {T : Type 0} (b c : Bool) (t : Sheet) (old new : Sent) (r : Result T TableError) → (b ≡ true → c ≡ true)
    → Prints b t old r new → Prints c t old r new
prints_more b c t old new (Ok x) grown p = p
prints_more b c t old new (Err e) grown p =
    (p.0, ⊎_elim (λ r. inl r) (λ h. ⊎_elim (λ m. inr (inl (grown m.0, m.1, m.2))) (λ s. inr (inr s)) h) p.1)

-- where nothing is to be changed, the table is shown as it is
shown_unchanged : (table : Table) (width : Option ℕ) (align : Option AlignmentHorizontal) (fill : ℕ)
    → (is_some align || nat_lt 0 (missing_columns table width)) ≡ false → overridden_sheet table width align fill ≡ sheet table
shown_unchanged table width None fill e =
    let most : missing_columns table width ≤ 0 = ltb-false 0 (missing_columns table width) e in
    let none : missing_columns table width ≡ 0 = omega arith in
    ap (λ n. effective (cells_of table) (shown_config table.config.config None fill n) table.dimension) none
shown_unchanged table width (Some alignment) fill e = let no : true ≡ false = e in absurd (cc)

-- a call that is refused for its cause before it prints
refused_any : {T : Type 0} (b : Bool) (t : Sheet) (a : Sent) (r : Result T TableError) (e : TableError) → is_empty t.cells ≡ false → FailsToPrint t e
    → IsErrAnd r (λ d. d ≡ e) → Prints b t a r a
refused_any b t a (Ok x) e filled cause h = absurd h
refused_any b t a (Err d) e filled cause h = (filled, inl (subst (FailsToPrint t) (sym h) cause, refl))

module _ {T : Type 0} (table : Table) (width : Option ℕ) (align : Option AlignmentHorizontal) (fill : ℕ) (a : Sent) where
  -- one whose missing columns can't be told
  pub refused_missing : (r : Result T TableError) (e : TableError) → is_empty (cells_of table) ≡ false
      → ((e ≡ Memory) × (widths_of table.dimension ≡ None)) ⊎ ((e ≡ ShortWidths) × (length (sheet table).widths < columns (cells_of table)))
      → IsErrAnd r (λ d. d ≡ e) → Prints (takes_memory table width align) (overridden_sheet table width align fill) a r a
  refused_missing r e filled cause h = ⊎_elim memory short cause
    where
      memory : (e ≡ Memory) × (widths_of table.dimension ≡ None) → Prints (takes_memory table width align) (overridden_sheet table width align fill) a r a
      memory m =
          let unstored : not (is_stored table.dimension) ≡ true = ap (λ o. not (is_some o && is_some (heights_of table.dimension))) m.1 in
          let takes : takes_memory table width align ≡ true = or_right _ _ unstored in
          subst (λ b. Prints b (overridden_sheet table width align fill) a r a) (sym takes) (refused_so (overridden_sheet table width align fill) a r e filled (inl m.0) h)

      short : (e ≡ ShortWidths) × (length (sheet table).widths < columns (cells_of table)) → Prints (takes_memory table width align) (overridden_sheet table width align fill) a r a
      short s =
          let same = shown_widths table.config.config align fill (missing_columns table width) (cells_of table) table.dimension in
          let few : FailsToPrint (overridden_sheet table width align fill) ShortWidths = subst (λ w. length w < columns (cells_of table)) (sym same) s.1 in
          refused_any _ (overridden_sheet table width align fill) a r e filled (subst (FailsToPrint (overridden_sheet table width align fill)) (sym s.0) few) h

  -- one that prints the table as it is, where nothing is to be changed
  pub prints_unchanged : (b : Sent) (r : Result T TableError) → (is_some align || nat_lt 0 (missing_columns table width)) ≡ false
      → Prints (not (is_stored table.dimension)) (sheet table) a r b → Prints (takes_memory table width align) (overridden_sheet table width align fill) a r b
  prints_unchanged b r e p =
      let same = shown_unchanged table width align fill e in
      let takes : takes_memory table width align ≡ not (is_stored table.dimension) = ap (λ b. b || not (is_stored table.dimension)) e in
      subst (λ k. Prints k (overridden_sheet table width align fill) a r b) (sym takes)
      (subst (λ t. Prints (not (is_stored table.dimension)) t a r b) (sym same) p)

  -- one that prints it under a copy of the settings
  pub prints_changed : (b : Sent) (r : Result T TableError) (config : SpannedConfig)
      → config ≡ shown_config table.config.config align fill (missing_columns table width)
      → Prints (not (is_stored table.dimension)) (effective (cells_of table) config table.dimension) a r b
      → Prints (takes_memory table width align) (overridden_sheet table width align fill) a r b
  prints_changed b r config e p =
      prints_more (not (is_stored table.dimension)) (takes_memory table width align) (overridden_sheet table width align fill) a b r (λ h. or_right _ _ h)
      (subst (λ c. Prints (not (is_stored table.dimension)) (effective (cells_of table) c table.dimension) a r b) e p)
