-- Tables whose columns gave their excess are fitted.
use Rattle.tabled_set.proofs.Names.{AreChanged, CompleteDimension, IsInside, List, Narrows, None, Sheet, Shrinks, Some, SpannedConfig, ap, arith, at}
use Rattle.tabled_set.proofs.Names.{cases_Bool, cell_at, columns, cond, effective, effective_sizes, estimated, estimated_heights, estimated_widths, false, filled_width}
use Rattle.tabled_set.proofs.Names.{frame_width, heights_length, heights_of, if_sized, is_empty, le-leb, length, lt-leb, minimums, nat_le, nat_lt, refl, side_padding, subst, sum, sym, take, take-length}
use Rattle.tabled_set.proofs.Names.{text_columns, total_width, true, widths_length, widths_of, ℕ, ⊎_elim, ◌+◌, ◌-◌, ◌<◌, ◌∙◌, ◌≡◌, ◌≤◌, []}
use Rattle.std.proofs.Common.{Bool, MatchBool, le_of_eq}
use Rattle.std.proofs.lemmas.Bool.{MatchBool-at_false, and_from, le-ltb, lt-ltb}
use Rattle.tabled_base.specs.Cells.{IsRectangular}
use Rattle.tabled_grid.proofs.ShownCells.{some_line_shown}
use Rattle.tabled_grid.specs.ApartSheet.{IsApartConfig}
use Rattle.tabled_grid.specs.Picture.{table_text}
use Rattle.tabled_line.specs.Additive.{EachLineTakes}
use Rattle.tabled_priority.specs.Permitted.{spare_total}
use Rattle.tabled_set.proofs.ChangingCells.{AreChanged-as, columns-changed}
use Rattle.tabled_set.proofs.Emptied.{minimums-length}
use Rattle.tabled_set.proofs.ExactTotals.{IsNarrowed-wider, changed_empty}
use Rattle.tabled_set.proofs.Totals.{full_total}
use Rattle.tabled_set.specs.CellChanges.{word_wrapping}
use Rattle.tabled_set.specs.Narrowed.{IsNarrowed}
use Rattle.tabled_set.specs.Priorities.{shrinking_to}
use Rattle.tabled_set.specs.SizedTable.{sized_table}
use Rattle.tabled_size.specs.Holds.{Holds}
use Rattle.tabled_size.specs.TextCells.{AreTexts}
use Rattle.tabled_size.specs.Totals.{total_height}
use Rattle.tabled_text.proofs.WordLaws.{kept-words}
use Rattle.tabled_text.specs.Measure.{lines_of}
use Rattle.tabview_cells.specs.Fitted.{GivesToFloors}
use Rattle.tabview_cells.specs.declared.fit.AboveFloors.{AboveFloors}
use Rattle.tabview_print.proofs.FittedLines.{apart_lines, narrowed-rectangular, narrowed-texts}
use Rattle.tabview_print.proofs.FloorLemmas.{exact-given, fits-kept, floor-above, floor-below, floors-length, least-given}
use Rattle.tabview_print.specs.Fitted.{IsCutTo, IsFitted, ShowsWithin, StaysIfFits, narrowing}
use Rattle.tabview_print.specs.Floors.{floors_of, is_name, keeps_at}
use Rattle.tabview_print.specs.declared.layout.Column.{Column}
use Rattle.tabview_print.specs.declared.layout.Narrowing.{Narrowing}
use Rattle.tabview_print.specs.declared.layout.Narrowing.TheVariants.{Cut, Wrap}

whole_list : (xs : List ℕ) (count : ℕ) → length xs ≡ count → take count xs ≡ xs
whole_list xs count e = ap (λ k. take k xs) (sym e) ∙ take-length xs

-- a text that fits stays
stays : (by : Narrowing) (size : ℕ) (before after : List ℕ) → StaysIfFits by before → 0 < size → text_columns before ≤ size
    → narrowing by size before after → after ≡ before
stays Wrap size before after plain some fits changed = kept-words size before after some plain fits changed
stays Cut size before after plain some fits changed = MatchBool-at_false _ (after ≡ before) (le-ltb size (text_columns before) fits) changed

module _ (laid : List Column) (header : Bool) (by : Narrowing) (n : ℕ) (cells : List (List (List ℕ))) (config : SpannedConfig)
    (new : List (List (List ℕ))) (stored : CompleteDimension) (mins ws : List ℕ) (wider : n < total_width (estimated cells config))
    (given : GivesToFloors (floors_of laid header (estimated cells config)) (estimated_widths cells config) mins (total_width (estimated cells config) - n) ws)
    (same : length ws ≡ length (estimated_widths cells config))
    (above : (i : ℕ) → at mins i ≤ at (floors_of laid header (estimated cells config)) i)
    (enough : total_width (estimated cells config) - n ≤ spare_total (estimated_widths cells config) (floors_of laid header (estimated cells config)))
    (is : widths_of stored ≡ Some ws) (cleared : heights_of stored ≡ None)
    (changed : AreChanged (λ row column. true) (λ row column. narrowing by (at ws column - side_padding config row column)) cells new) where
  long : length (floors_of laid header (estimated cells config)) ≡ length (estimated_widths cells config)
  long = floors-length laid header cells config ∙ sym (widths_length cells config)

  exact : sum ws + (total_width (estimated cells config) - n) ≡ sum (estimated_widths cells config)
  exact = exact-given (floors_of laid header (estimated cells config)) (estimated_widths cells config) mins (total_width (estimated cells config) - n) ws given long same above
      (floor-below laid header cells config) enough

  least : (i : ℕ) → at (floors_of laid header (estimated cells config)) i ≤ at ws i
  least = least-given (floors_of laid header (estimated cells config)) (estimated_widths cells config) mins (total_width (estimated cells config) - n) ws given long same above
      (floor-below laid header cells config) enough

  width_each : length ws ≡ columns cells
  width_each = same ∙ widths_length cells config

  new_columns : columns new ≡ columns cells
  new_columns = columns-changed changed

  new_widths : (effective new config stored).widths ≡ ws
  new_widths =
      ap (λ o. effective_sizes o (estimated_widths new config) (columns new)) is
      ∙ whole_list ws (columns new) (width_each ∙ sym new_columns)

  full : is_empty cells ≡ false
  full = let t = estimated cells config in ⊎_elim
      (λ y. let none : n < 0 = subst (λ b. n < cond b 0 (filled_width t.config (columns t.cells) t.widths)) y wider in absurd (omega arith))
      (λ no. no) (cases_Bool (is_empty cells))

  old_total : total_width (estimated cells config) ≡ sum (estimated_widths cells config) + frame_width config (columns cells)
  old_total = full_total (estimated cells config) full (le_of_eq (widths_length cells config))

  new_total : total_width (effective new config stored) ≡ sum ws + frame_width config (columns cells)
  new_total =
      let t = effective new config stored in
      let empty = changed_empty (λ row column. true) (λ row column. narrowing by (at ws column - side_padding config row column)) cells new changed in
      full_total t (empty ∙ full) (le_of_eq (ap length new_widths ∙ width_each ∙ sym new_columns))
      ∙ ap (λ xs. sum xs + frame_width config (columns new)) new_widths
      ∙ ap (λ k. sum ws + frame_width config k) new_columns

  total : total_width (effective new config stored) ≡ n
  total = omega (arith, exact, old_total, new_total, wider)

  fits : (row column : ℕ) → IsInside cells row column → StaysIfFits by (cell_at cells row column) → 0 < at ws column - side_padding config row column
      → text_columns (cell_at cells row column) ≤ at ws column - side_padding config row column → cell_at new row column ≡ cell_at cells row column
  fits row column inside plain some room =
      stays by (at ws column - side_padding config row column) (cell_at cells row column) (cell_at new row column) plain some room (changed.cells row column inside)

  kept : (row column : ℕ) → IsInside cells row column → StaysIfFits by (cell_at cells row column) → 0 < text_columns (cell_at cells row column)
      → keeps_at laid column ≡ true → is_name header row ≡ false → cell_at new row column ≡ cell_at cells row column
  kept row column inside plain some keeps name =
      let f = fits-kept laid header cells config row column inside keeps name in
      let l = least column in
      fits row column inside plain (omega arith) (omega arith)

  has_line : 0 < total_height (effective new config stored)
  has_line =
      let t = effective new config stored in
      let empty = changed_empty (λ row column. true) (λ row column. narrowing by (at ws column - side_padding config row column)) cells new changed in
      some_line_shown t (empty ∙ full) (ap (λ o. effective_sizes o (estimated_heights new config) (length new)) cleared)

  lines : IsApartConfig config (length cells) (columns cells) → IsRectangular cells → AreTexts cells → Holds (effective new config stored)
      → EachLineTakes n (lines_of (table_text (effective new config stored)))
  lines apart rectangular texts holds =
      let t = effective new config stored in
      let size : ℕ → ℕ → ℕ = λ row column. at ws column - side_padding config row column in
      let own : IsApartConfig config (length new) (columns new) =
      subst (λ k. IsApartConfig config k (columns new)) (sym changed.rows) (subst (λ k. IsApartConfig config (length cells) k) (sym new_columns) apart) in
      subst (λ k. EachLineTakes k (lines_of (table_text t))) total
      (apart_lines t own (narrowed-texts by size cells new changed rectangular texts) (narrowed-rectangular by size cells new changed rectangular) holds has_line)

  pub fitted : IsFitted laid header by n (estimated cells config) (effective new config stored)
  fitted = record {
    config = refl;
    total = total;
    lines = lines;
    least = λ i. subst (λ xs. at (floors_of laid header (estimated cells config)) i ≤ at xs i) (sym new_widths) (least i);
    most = λ i. subst (λ xs. at xs i ≤ at (estimated_widths cells config) i) (sym new_widths) (given.most i);
    cells = subst (λ xs. AreChanged (λ row column. true) (λ row column. narrowing by (at xs column - side_padding config row column)) cells new) (sym new_widths) changed;
    heights = ap (λ o. effective_sizes o (estimated_heights new config) (length new)) cleared;
    whole = λ row column inside plain. subst (λ xs. 0 < at xs column - side_padding config row column
        → text_columns (cell_at cells row column) ≤ at xs column - side_padding config row column → cell_at new row column ≡ cell_at cells row column) (sym new_widths) (fits row column inside plain);
    kept = kept;
  }

-- ---- what is shown
pub shows-whole : (laid : List Column) (header : Bool) (by : Narrowing) (n : ℕ) (t shown : Sheet) → total_width t ≤ n → shown ≡ t → ShowsWithin laid header by n t shown
shows-whole laid header by n t shown less e = subst (λ b. MatchBool b (shown ≡ t) (IsFitted laid header by n t shown)) (sym (le-leb (total_width t) n less)) e

pub shows-fitted : (laid : List Column) (header : Bool) (by : Narrowing) (n : ℕ) (t shown : Sheet) → n < total_width t → IsFitted laid header by n t shown → ShowsWithin laid header by n t shown
shows-fitted laid header by n t shown wider f = subst (λ b. MatchBool b (shown ≡ t) (IsFitted laid header by n t shown)) (sym (lt-leb (total_width t) n wider)) f

-- ---- the sizes of a table that are estimated and stored
abbrev sheet_of : List (List (List ℕ)) → SpannedConfig → List ℕ → List ℕ → Sheet
sheet_of cells config widths heights = record { cells = cells; config = config; widths = widths; heights = heights }

pub effective-stored : (cells : List (List (List ℕ))) (config : SpannedConfig) (sizes : CompleteDimension) → widths_of sizes ≡ Some (estimated_widths cells config)
    → heights_of sizes ≡ Some (estimated_heights cells config) → effective cells config sizes ≡ estimated cells config
effective-stored cells config sizes w h =
    let wide = estimated_widths cells config in
    let high = estimated_heights cells config in
    let widths : effective_sizes (widths_of sizes) wide (columns cells) ≡ wide =
    ap (λ o. effective_sizes o wide (columns cells)) w ∙ whole_list wide (columns cells) (widths_length cells config) in
    let heights : effective_sizes (heights_of sizes) high (length cells) ≡ high =
    ap (λ o. effective_sizes o high (length cells)) h ∙ whole_list high (length cells) (heights_length cells config) in
    ap (λ xs. sheet_of cells config xs (effective_sizes (heights_of sizes) high (length cells))) widths ∙ ap (λ xs. sheet_of cells config wide xs) heights

-- ---- cells that are cut
module _ (laid : List Column) (header : Bool) (n : ℕ) (cells : List (List (List ℕ))) (config : SpannedConfig) (wider : n < total_width (estimated cells config)) where
  pub fitted-cut : (floors : List ℕ) (excess : ℕ) → floors ≡ floors_of laid header (estimated cells config) → excess ≡ total_width (estimated cells config) - n
      → excess ≤ spare_total (estimated_widths cells config) floors → (new : List (List (List ℕ))) (stored : CompleteDimension)
      → IsCutTo floors excess cells config new stored → IsFitted laid header Cut n (estimated cells config) (effective new config stored)
  fitted-cut floors excess f e enough new stored c =
      let wide = estimated_widths cells config in
      let given = subst (λ k. GivesToFloors (floors_of laid header (estimated cells config)) wide [] k c.widths) e
      (subst (λ fs. GivesToFloors fs wide [] excess c.widths) f c.gives) in
      let room = subst (λ k. k ≤ spare_total wide (floors_of laid header (estimated cells config))) e (subst (λ fs. excess ≤ spare_total wide fs) f enough) in
      fitted laid header Cut n cells config new stored [] c.widths wider given c.long (λ i. omega arith) room c.stored c.cleared c.changed

-- ---- cells that are wrapped
module _ {P : Type 0} (shrinks : Shrinks P) (s : P) (laid : List Column) (header : Bool)
    (n : ℕ) (cells : List (List (List ℕ))) (config : SpannedConfig) (new : List (List (List ℕ))) (stored : CompleteDimension)
    (gives : (old mins : List ℕ) (by : ℕ) (new : List ℕ) (t : P) → shrinks s old mins by new t → GivesToFloors (floors_of laid header (estimated cells config)) old mins by new)
    (wider : n < total_width (estimated cells config))
    (enough : total_width (estimated cells config) - n ≤ spare_total (estimated_widths cells config) (floors_of laid header (estimated cells config)))
    (h : IsNarrowed (shrinking_to shrinks s n) word_wrapping (estimated cells config) new stored) where
  whole : take (length (estimated_widths cells config)) (minimums cells config) ≡ minimums cells config
  whole = whole_list (minimums cells config) (length (estimated_widths cells config)) (minimums-length cells config ∙ sym (widths_length cells config))

  given : GivesToFloors (floors_of laid header (estimated cells config)) (estimated_widths cells config) (minimums cells config) (total_width (estimated cells config) - n) h.widths
  given =
      let by = total_width (estimated cells config) - n in
      subst (λ ms. GivesToFloors (floors_of laid header (estimated cells config)) (estimated_widths cells config) ms by h.widths) whole
      (gives (estimated_widths cells config) (take (length (estimated_widths cells config)) (minimums cells config)) by h.widths h.shrunk.last h.shrunk.shrunk)

  same_length : length h.widths ≡ length (estimated_widths cells config)
  same_length = h.shrunk.permitted.same_length

  -- no column is below its minimum, so that each cell is wrapped
  low : (i : ℕ) → at (minimums cells config) i ≤ at h.widths i
  low i =
      let a = floor-above laid header cells config i in
      let l = given.least i in
      let b = floor-below laid header cells config i in
      omega arith

  wrapped : AreChanged (λ row column. true) (λ row column. narrowing Wrap (at h.widths column - side_padding config row column)) cells new
  wrapped = AreChanged-as h.changed (λ row column inside yes t.
      let before = cell_at cells row column in
      let after = cell_at new row column in
      let c : column < length h.widths = let l = inside.column_in in omega (arith, same_length, widths_length cells config) in
      let is_inside : nat_lt column (length h.widths) ≡ true = lt-ltb column (length h.widths) c in
      let is_above : nat_le (at (minimums cells config) column) (at h.widths column) ≡ true = le-leb (at (minimums cells config) column) (at h.widths column) (low column) in
      subst (λ b. if_sized word_wrapping (cond b (Some (at h.widths column - side_padding config row column)) None) before after)
      (and_from (nat_lt column (length h.widths)) (nat_le (at (minimums cells config) column) (at h.widths column)) is_inside is_above) t)

  pub fitted-wrapped : IsFitted laid header Wrap n (estimated cells config) (effective new config stored)
  fitted-wrapped = fitted laid header Wrap n cells config new stored (minimums cells config) h.widths wider given same_length (floor-above laid header cells config) enough h.stored h.cleared wrapped

-- cells that were wrapped by sizes that are stored
pub narrows-fitted : {P : Type 0} (shrinks : Shrinks P) (s : P) (laid : List Column) (header : Bool) (n : ℕ) (cells : List (List (List ℕ))) (config : SpannedConfig)
    (sizes : CompleteDimension) (new : List (List (List ℕ))) (stored : CompleteDimension)
    → ((old mins : List ℕ) (by : ℕ) (new : List ℕ) (t : P) → shrinks s old mins by new t → GivesToFloors (floors_of laid header (estimated cells config)) old mins by new)
    → n < total_width (estimated cells config)
    → total_width (estimated cells config) - n ≤ spare_total (estimated_widths cells config) (floors_of laid header (estimated cells config))
    → widths_of sizes ≡ Some (estimated_widths cells config) → heights_of sizes ≡ Some (estimated_heights cells config)
    → Narrows (shrinking_to shrinks s n) word_wrapping (sized_table cells config sizes) new stored
    → IsFitted laid header Wrap n (estimated cells config) (effective new config stored)
narrows-fitted shrinks s laid header n cells config sizes new stored gives wider enough w h narrows =
    let same = effective-stored cells config sizes w h in
    let wide = subst (λ (u : Sheet). n < total_width u) (sym same) wider in
    let k = IsNarrowed-wider shrinks s word_wrapping n cells config sizes new stored wide narrows in
    fitted-wrapped shrinks s laid header n cells config new stored gives wider enough
    (subst (λ (u : Sheet). IsNarrowed (shrinking_to shrinks s n) word_wrapping u new stored) same k)

-- how the priority of a fitted table shrinks its columns
abbrev pub gives-to : Shrinks AboveFloors
gives-to s old mins by new t = GivesToFloors s.floors.now old mins by new × (t ≡ s)
