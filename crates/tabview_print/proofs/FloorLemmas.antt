-- The floors of columns, and lists that shrink to them.
use Rattle.std.proofs.Common.{suc, Bool, List, [], map, ◌++◌, ◌∷◌, ap, arith, cond, false, length, min, subst, sum, sym, true, ℕ, ⊎_elim, ◌+◌, ◌<◌, ◌∙◌, ◌≡◌, ◌≤◌}
use Rattle.std.proofs.lemmas.Bool.{cases_lt}
use Rattle.std.proofs.lemmas.List.{get_or_past}
use Rattle.std.proofs.lemmas.List.FromFn.{get_or-map-range_with_len, length-map-range_with_len, map-range_with_len_more}
use Rattle.std.specs.List.{range_with_len}
use Rattle.tabled_base.specs.Cells.{IsInside, cell_at, columns}
use Rattle.tabled_config.specs.declared.spanned.SpannedConfig.{SpannedConfig}
use Rattle.tabled_grid.proofs.EstimatedSizes.{holds_estimated}
use Rattle.tabled_priority.specs.Laws.Sums.{sum-below, sum_below-le}
use Rattle.tabled_priority.specs.Permitted.{at, spare_total}
use Rattle.tabled_priority.specs.Sums.{sum_below}
use Rattle.tabled_set.proofs.Emptied.{minimums-le, minimums-length, side_padding-le}
use Rattle.tabled_set.specs.Minimums.{minimums, side_padding}
use Rattle.tabled_size.proofs.Greatest.{greatest_ge}
use Rattle.tabled_size.proofs.ShrunkTotals.{spare_total-sum}
use Rattle.tabled_size.specs.Estimates.{estimated_widths}
use Rattle.tabled_size.specs.Sheet.{estimated}
use Rattle.tabled_text.specs.Measure.{text_columns}
use Rattle.tabview_cells.specs.Fitted.{GivesToFloors, NoneGives, floor_at}
use Rattle.tabview_cells.specs.Words.{longest_word}
use Rattle.tabview_print.specs.Floors.{cell_floor, content_floor, floor_of, floors_of, is_name, keeps_at}
use Rattle.tabview_print.specs.declared.floors.TheConstants.{WORD_COLUMNS}
use Rattle.tabview_print.specs.declared.layout.Column.{Column}

-- ---- lists that shrink to floors between minimums and the old values
module _ (floors old mins : List ℕ) (by : ℕ) (new : List ℕ) (given : GivesToFloors floors old mins by new)
    (long : length floors ≡ length old) (same : length new ≡ length old)
    (above : (i : ℕ) → at mins i ≤ at floors i) (below : (i : ℕ) → at floors i ≤ at old i) (enough : by ≤ spare_total old floors) where
  at_floor : NoneGives floors new mins → (i : ℕ) → at new i ≤ at floors i
  at_floor none i = ⊎_elim
      (λ more. absurd (none i (record { above = more })))
      (λ less. let a = above i in omega arith) (cases_lt (floor_at floors mins i) (at new i))

  sum-at_floor : NoneGives floors new mins → sum new ≤ sum floors
  sum-at_floor none =
      let a = sum-below new in
      let b = sum-below floors in
      let c = sum_below-le (at new) (at floors) (length old) (λ i inside. at_floor none i) in
      let d : sum_below (at new) (length new) ≡ sum_below (at new) (length old) = ap (sum_below (at new)) same in
      let e : sum_below (at floors) (length floors) ≡ sum_below (at floors) (length old) = ap (sum_below (at floors)) long in
      omega arith

  -- they lose all of the amount
  pub exact-given : sum new + by ≡ sum old
  exact-given = ⊎_elim (λ all. all)
      (λ some.
      let less = some.0 in
      let most = sum-at_floor some.1 in
      let spare = spare_total-sum old floors long below in
      absurd (omega arith)) given.total

  -- none is below its floor
  pub least-given : (i : ℕ) → at floors i ≤ at new i
  least-given i = let l = given.least i in let a = above i in let b = below i in omega arith

-- ---- lists that are made by index
pub floors-more : {X : Type 0} (f : ℕ → X) (n : ℕ) (xs : List X) (x : X) → xs ≡ map f (range_with_len 0 n) → x ≡ f n → xs ++ x ∷ [] ≡ map f (range_with_len 0 (n + 1))
floors-more f n xs x e h =
    ap (λ ys. ys ++ x ∷ []) e ∙ ap (λ y. map f (range_with_len 0 n) ++ y ∷ []) h ∙ sym (map-range_with_len_more f 0 n n (omega arith))

-- ---- the floors of a table with estimated sizes
module _ (laid : List Column) (header : Bool) (cells : List (List (List ℕ))) (config : SpannedConfig) where
  pub floors-length : length (floors_of laid header (estimated cells config)) ≡ columns cells
  unfolding floors_of
  floors-length = length-map-range_with_len (floor_of laid header (estimated cells config)) 0 (columns cells)

  pub floor-at : (i : ℕ) → i < columns cells → at (floors_of laid header (estimated cells config)) i ≡ floor_of laid header (estimated cells config) i
  unfolding floors_of
  floor-at i h = get_or-map-range_with_len (floor_of laid header (estimated cells config)) 0 (columns cells) i i 0 h (omega arith)

  -- a floor is at most the width
  pub floor-below : (i : ℕ) → at (floors_of laid header (estimated cells config)) i ≤ at (estimated_widths cells config) i
  floor-below i = ⊎_elim
      (λ inside. let e = floor-at i inside in omega arith)
      (λ past. let e = get_or_past (floors_of laid header (estimated cells config)) i 0 (omega (arith, floors-length)) in omega arith)
      (cases_lt i (columns cells))

  -- and at least the minimum
  pub floor-above : (i : ℕ) → at (minimums cells config) i ≤ at (floors_of laid header (estimated cells config)) i
  floor-above i = ⊎_elim
      (λ inside. let e = floor-at i inside in let m = minimums-le cells config i in omega arith)
      (λ past. let e = get_or_past (minimums cells config) i 0 (omega (arith, minimums-length cells config)) in omega arith)
      (cases_lt i (columns cells))

  content-ge : (keeps : Bool) (row column : ℕ) → row < length cells
      → cell_floor (is_name header row) keeps (cell_at cells row column) ≤ content_floor header keeps cells column
  unfolding content_floor
  content-ge keeps row column h =
      let g = greatest_ge (λ r. cell_floor (is_name header r) keeps (cell_at cells r column)) (length cells) row h in omega arith

  -- a column that keeps its width wants all columns of a text
  whole-floor : (keeps name : Bool) (text : List ℕ) → keeps ≡ true → name ≡ false → cell_floor name keeps text ≡ text_columns text
  whole-floor keeps name text k n =
      ap (λ b. cond b (min WORD_COLUMNS (longest_word text)) (cond keeps (text_columns text) (min WORD_COLUMNS (longest_word text)))) n
      ∙ ap (λ b. cond b (text_columns text) (min WORD_COLUMNS (longest_word text))) k

  -- its texts fit above its floor
  pub fits-kept : (row column : ℕ) → IsInside cells row column → keeps_at laid column ≡ true → is_name header row ≡ false
      → text_columns (cell_at cells row column) + side_padding config row column ≤ at (floors_of laid header (estimated cells config)) column
  fits-kept row column inside keeps name =
      let e = floor-at column inside.column_in in
      let p = side_padding-le cells config row column inside.row_in inside.column_in in
      let h = holds_estimated cells config row column inside.row_in inside.column_in in
      let g = content-ge (keeps_at laid column) row column inside.row_in in
      let w = whole-floor (keeps_at laid column) (is_name header row) (cell_at cells row column) keeps name in
      omega arith

-- ---- one more term of a sum
pub sum_below-more : (f : ℕ → ℕ) (n : ℕ) → sum_below f (n + 1) ≡ sum_below f n + f n
sum_below-more f n = let e : n + 1 ≡ suc n = omega arith in subst (λ k. sum_below f k ≡ sum_below f n + f n) (sym e) (omega arith)
