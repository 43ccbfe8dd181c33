-- Narrowed tables: they have their total and hold their cells, and what else is promised of them.
use Rattle.tabled_set.proofs.Names.{AreChanged, AreCleared, Bool, CompleteDimension, FitsIn, IsAdditive, IsInside, IsRectangular, IsSized}
use Rattle.tabled_set.proofs.Names.{IsTakenFrom, IsTruncated, IsUtf8, List, MatchBool-at_true, Narrows, None, Option, Sheet, Shrinks, Some}
use Rattle.tabled_set.proofs.Names.{SpannedConfig, SuffixLimit, [], ap, arith, at, cases_Bool, cell_at, columns, cond, effective}
use Rattle.tabled_set.proofs.Names.{effective_sizes, emptied, estimated, estimated_heights, estimated_widths, false, filled_width}
use Rattle.tabled_set.proofs.Names.{for_content_size, frame_width, get_or_default, heights_length, heights_of, if_sized, if_wider}
use Rattle.tabled_set.proofs.Names.{if◌then◌else◌, is_empty, le-leb, length, lt-leb, max, minimums, nat_le, nat_lt, needed_width, refl}
use Rattle.tabled_set.proofs.Names.{side_padding, slice_index_or, subst, sum, sym, take, take-length, text_columns, total_width, true}
use Rattle.tabled_set.proofs.Names.{truncating, widths_length, widths_of, ℕ, ⊎_elim, ◌+◌, ◌-◌, ◌<◌, ◌==◌, ◌||◌, ◌∙◌, ◌≡◌, ◌≤◌}
use Rattle.std.proofs.Common.{le_of_eq}
use Rattle.std.specs.List.{All}
use Rattle.std.proofs.lemmas.Bool.{and_from, lt-ltb}
use Rattle.tabled_set.specs.Common.{AreAdditive, Holds, Entity, Row, AreTexts}
use Rattle.tabled_priority.specs.Least.{HasLeastGreatest}
use Rattle.tabled_priority.proofs.Optimal.{HasLeastGreatest-from_level, IsLevel-from_max}
use Rattle.tabled_size.proofs.ShrunkTotals.{above_minimum, narrowed_total}
use Rattle.tabled_set.proofs.ChangingCells.{at-last, columns-changed, match-both}
use Rattle.tabled_set.proofs.Totals.{full_total}
use Rattle.tabled_set.specs.ExactTotal.{empty_width, HasExactTotal}
use Rattle.tabled_set.proofs.Emptied.{emptied-columns, emptied-empty, minimums-le, minimums-length, side_padding-le}
use Rattle.tabled_text.proofs.FewestLines.{fewest-wrapped}
use Rattle.tabled_text.proofs.OwnBreaking.{old_text}
use Rattle.tabled_text.proofs.StayLemmas.{IsAdditive-stays, StaysWithin-wrapped}
use Rattle.tabled_text.proofs.FittingLaws.{fits-wrapped}
use Rattle.tabled_text.proofs.WordLaws.{fewest-words, fits-words, old_words, stays-word_wrapped}
use Rattle.tabled_size.specs.Entries.{clears_heights, clears_widths, unless_cleared}
use Rattle.tabled_set.specs.BestNarrowing.{HasLeastWidth, IsBestCut, inner_width}
use Rattle.tabled_set.specs.CellChanges.{word_wrapping, wrapping}
use Rattle.tabled_set.specs.Promised.{IsWiderThan, TruncatesAsPromised, WordWrapsAsPromised, WrapsAsPromised}
use Rattle.tabled_set.proofs.TruncatedTexts.{longest_lines, longest_truncated, StaysWithin-truncated, fits-if_wider}
use Rattle.tabled_set.specs.Narrowed.{IsNarrowed, content_width}
use Rattle.tabled_set.specs.Priorities.{TakesFrom, TakesGreatest, shrinking_to}
use Rattle.tabled_set.specs.SizedTable.{sized_table}

-- a text that is changed for a content size fits in it
abbrev pub CharsFit : (ℕ → List ℕ → List ℕ → Type 0) → Type 0
CharsFit change = (content_size : ℕ) (before after : List ℕ) → IsUtf8 before → change content_size before after → FitsIn content_size after

-- and is plain where it was
abbrev pub KeepsPlain : (ℕ → List ℕ → List ℕ → Type 0) → Type 0
KeepsPlain change = (content_size : ℕ) (before after : List ℕ) → IsAdditive before → change content_size before after → IsAdditive after

-- ---- cells that are changed
pub changed_empty : (chosen : ℕ → ℕ → Bool) (change : ℕ → ℕ → List ℕ → List ℕ → Type 0) (old new : List (List (List ℕ))) → AreChanged chosen change old new → is_empty new ≡ is_empty old
changed_empty chosen change old new h =
    ap (λ n. (n == 0) || (columns new == 0)) h.rows ∙ ap (λ n. (length old == 0) || (n == 0)) (columns-changed h)

-- a property of each cell, by its place
cell_of : (P : List ℕ → Type 0) (cells : List (List (List ℕ))) (row column : ℕ) → IsRectangular cells → All (All P) cells → row < length cells
    → column < columns cells → P (cell_at cells row column)
cell_of P cells row column rectangular each r c = each row [] r column [] (let e = rectangular row [] r in omega arith)

cells_of : (P : List ℕ → Type 0) (cells : List (List (List ℕ)))
    → ((row column : ℕ) → row < length cells → column < length (slice_index_or cells row []) → P (cell_at cells row column)) → All (All P) cells
cells_of P cells h row d r column e c =
    let same : slice_index_or cells row d ≡ slice_index_or cells row [] = get_or_default cells row d [] r in
    let c' : column < length (slice_index_or cells row []) = subst (λ cs. column < length cs) same c in
    subst (λ cs. P (slice_index_or cs column e)) (sym same)
    (subst P (get_or_default (slice_index_or cells row []) column [] e c') (h row column r c'))

-- ---- totals
full_wider : (t : Sheet) (n : ℕ) → n < total_width t → is_empty t.cells ≡ false
full_wider t n wider = ⊎_elim
    (λ y. let none : n < 0 = subst (λ b. n < cond b 0 (filled_width t.config (columns t.cells) t.widths)) y wider in absurd (omega arith))
    (λ no. no) (cases_Bool (is_empty t.cells))

-- ---- narrowed tables
-- a table that is wider is narrowed
pub IsNarrowed-wider : {P : Type 0} (shrinks : Shrinks P) (s : P) (change : ℕ → List ℕ → List ℕ → Type 0) (n : ℕ) (cells : List (List (List ℕ))) (config : SpannedConfig) (sizes : CompleteDimension)
    (cells' : List (List (List ℕ))) (sizes' : CompleteDimension) → n < total_width (effective cells config sizes)
    → Narrows (shrinking_to shrinks s n) change (sized_table cells config sizes) cells' sizes'
    → IsNarrowed (shrinking_to shrinks s n) change (effective cells config sizes) cells' sizes'
IsNarrowed-wider shrinks s change n cells config sizes cells' sizes' wider h =
    let t = effective cells config sizes in
    at-last (is_empty cells) (nat_le (total_width t) n) _ _ h (full_wider t n wider) (lt-leb (total_width t) n wider)

module _ {P : Type 0} (shrinks : Shrinks P) (s : P) (change : ℕ → List ℕ → List ℕ → Type 0) (n : ℕ)
    (cells : List (List (List ℕ))) (config : SpannedConfig) (sizes : CompleteDimension) (new : List (List (List ℕ))) (stored last : CompleteDimension)
    (takes : TakesFrom shrinks s) (estimates : (effective cells config sizes).widths ≡ estimated_widths cells config)
    (h : IsNarrowed (shrinking_to shrinks s n) change (effective cells config sizes) new stored)
    (widths_stay : widths_of last ≡ widths_of stored) where
  long : length (effective cells config sizes).widths ≡ columns cells
  long = ap length estimates ∙ widths_length cells config

  below : (i : ℕ) → at (minimums cells config) i ≤ at (effective cells config sizes).widths i
  below i = subst (λ w. at (minimums cells config) i ≤ at w i) (sym estimates) (minimums-le cells config i)

  -- there is a minimum for each of the widths that stood
  by_minimums : shrinks s (effective cells config sizes).widths (minimums cells config) (total_width (effective cells config sizes) - n) h.widths h.shrunk.last
  by_minimums =
      let t = effective cells config sizes in
      let mins = minimums cells config in
      let whole : take (length t.widths) mins ≡ mins = ap (λ k. take k mins) (long ∙ sym (minimums-length cells config)) ∙ take-length mins in
      subst (λ m. shrinks s t.widths m (total_width t - n) h.widths h.shrunk.last) whole h.shrunk.shrunk

  -- they lose as much as is wanted, or all above the minimums
  shrunk : IsTakenFrom (effective cells config sizes).widths (minimums cells config) (total_width (effective cells config sizes) - n) h.widths
  shrunk = takes h.shrunk.last (effective cells config sizes).widths (minimums cells config) h.widths (total_width (effective cells config sizes) - n) by_minimums

  kept : (i : ℕ) → at (minimums cells config) i ≤ at h.widths i
  kept = above_minimum (effective cells config sizes).widths (minimums cells config) h.widths below shrunk.permitted

  width_each : length h.widths ≡ columns cells
  width_each = shrunk.permitted.same_length ∙ long

  new_columns : columns new ≡ columns cells
  new_columns = columns-changed h.changed

  -- every cell is changed for the content size that its column leaves
  pub changed_cell : (row column : ℕ) → row < length cells → column < columns cells → change (at h.widths column - side_padding config row column) (cell_at cells row column) (cell_at new row column)
  changed_cell row column r c =
      let before = cell_at cells row column in
      let after = cell_at new row column in
      let inside : nat_lt column (length h.widths) ≡ true = lt-ltb column (length h.widths) (omega (arith, width_each)) in
      let above : nat_le (at (minimums cells config) column) (at h.widths column) ≡ true = le-leb (at (minimums cells config) column) (at h.widths column) (kept column) in
      subst (λ b. if_sized change (if b then Some (at h.widths column - side_padding config row column) else None) before after)
      (and_from (nat_lt column (length h.widths)) (nat_le (at (minimums cells config) column) (at h.widths column)) inside above)
      (h.changed.cells row column (record { row_in = r; column_in = c }))

  -- the widths that are stored stand
  pub new_widths : (effective new config last).widths ≡ h.widths
  new_widths =
      ap (λ o. effective_sizes o (estimated_widths new config) (columns new)) (widths_stay ∙ h.stored)
      ∙ ap (λ k. take k h.widths) (new_columns ∙ sym width_each) ∙ take-length h.widths

  -- where the greatest shrink first, the greatest width is the least possible
  pub leveled : TakesGreatest shrinks s → HasLeastGreatest (effective cells config sizes).widths (minimums cells config) (effective new config last).widths
  leveled greatest =
      let t = effective cells config sizes in
      let mins = minimums cells config in
      let by = total_width t - n in
      let (right, shrunk_so) = greatest h.shrunk.last t.widths mins h.widths by by_minimums in
      subst (HasLeastGreatest t.widths mins) (sym new_widths)
      (HasLeastGreatest-from_level t.widths mins h.widths (IsLevel-from_max right t.widths mins by h.widths shrunk_so))

  -- every cell is changed for the content size that its column leaves now
  pub changed_to_fit : (row column : ℕ) → row < length cells → column < columns cells → change (inner_width (effective new config last) row column) (cell_at cells row column) (cell_at new row column)
  changed_to_fit row column r c =
      subst (λ ws. change (at ws column - side_padding config row column) (cell_at cells row column) (cell_at new row column)) (sym new_widths) (changed_cell row column r c)

  -- where changed texts fit in their content sizes
  module _ (content_sizes : CharsFit change) (keeps : KeepsPlain change) (rectangular : IsRectangular cells) (texts : AreTexts cells)
      (wider : n < total_width (effective cells config sizes)) (heights_clear : heights_of last ≡ None) where
    stays : (row column : ℕ) → row < length cells → column < columns cells → FitsIn (at h.widths column - side_padding config row column) (cell_at new row column)
    stays row column r c =
        content_sizes (at h.widths column - side_padding config row column) (cell_at cells row column) (cell_at new row column)
        (cell_of IsUtf8 cells row column rectangular texts r c) (changed_cell row column r c)

    new_sized : IsSized (effective new config last)
    new_sized = record {
      columns = let e = ap length new_widths in let f = new_columns in let g = width_each in omega arith;
      rows = subst (λ o. length new ≤ length (effective_sizes o (estimated_heights new config) (length new))) (sym heights_clear) (omega (arith, heights_length new config));
    }

    new_holds : Holds (effective new config last)
    new_holds row column r c =
        let r' : row < length cells = subst (λ k. row < k) h.changed.rows r in
        let c' : column < columns cells = subst (λ k. column < k) new_columns c in
        let fits = (stays row column r' c').columns in
        let own = side_padding-le cells config row column r' c' in
        let above = kept column in
        subst (λ ws. needed_width new config row column ≤ at ws column) (sym new_widths) (omega arith)

    -- a column of a new row is one of the table
    old_column : (row column : ℕ) → row < length cells → column < length (slice_index_or new row []) → column < columns cells
    old_column row column r c =
        let e : length (slice_index_or new row []) ≡ columns cells = h.changed.row_lengths row ∙ rectangular row [] r in
        subst (λ k. column < k) e c

    new_texts : AreTexts new
    new_texts = cells_of IsUtf8 new (λ row column r c.
        let r' : row < length cells = subst (λ k. row < k) h.changed.rows r in
        (stays row column r' (old_column row column r' c)).utf8)

    new_plain : AreAdditive cells → AreAdditive new
    new_plain plain = cells_of IsAdditive new (λ row column r c.
        let r' : row < length cells = subst (λ k. row < k) h.changed.rows r in
        let c' = old_column row column r' c in
        keeps (at h.widths column - side_padding config row column) (cell_at cells row column) (cell_at new row column)
        (cell_of IsAdditive cells row column rectangular plain r' c') (changed_cell row column r' c'))

    full : is_empty cells ≡ false
    full = full_wider (effective cells config sizes) n wider

    old_total : total_width (effective cells config sizes) ≡ sum (effective cells config sizes).widths + frame_width config (columns cells)
    old_total = full_total (effective cells config sizes) full (le_of_eq long)

    least_total : empty_width (effective cells config sizes) ≡ sum (minimums cells config) + frame_width config (columns cells)
    least_total =
        let none = emptied cells in
        full_total (estimated none config) (emptied-empty cells ∙ full) (le_of_eq (widths_length none config))
        ∙ ap (λ k. sum (minimums cells config) + frame_width config k) (emptied-columns cells)

    new_total : total_width (effective new config last) ≡ sum h.widths + frame_width config (columns cells)
    new_total =
        let t = effective new config last in
        let each = for_content_size change (content_width (effective cells config sizes) h.widths) in
        let empty = changed_empty (λ row column. true) each cells new h.changed in
        full_total t (empty ∙ full) (le_of_eq (ap length new_widths ∙ width_each ∙ sym new_columns))
        ∙ ap (λ ws. sum ws + frame_width config (columns new)) new_widths
        ∙ ap (λ k. sum h.widths + frame_width config k) new_columns

    pub exact_total : HasExactTotal n (effective cells config sizes) (effective new config last)
    exact_total =
        let t = effective cells config sizes in
        let frame = frame_width config (columns cells) in
        let mins = minimums cells config in
        let taken : IsTakenFrom t.widths mins (sum t.widths + frame - n) h.widths = subst (λ k. IsTakenFrom t.widths mins (k - n) h.widths) old_total shrunk in
        record {
          total = new_total
              ∙ narrowed_total t.widths mins frame n h.widths (minimums-length cells config ∙ sym long) below (subst (λ k. n < k) old_total wider) taken
              ∙ ap (max n) (sym least_total);
          sized = new_sized;
          holds = new_holds;
          texts = new_texts;
          additive = new_plain;
        }

-- ---- a table that was narrowed, once what is hinted was forgotten, the widths never
cleared_none : (b : Bool) → unless_cleared b None ≡ None
cleared_none true = refl
cleared_none false = refl

module _ {P : Type 0} (shrinks : Shrinks P) (s : P) (change : ℕ → List ℕ → List ℕ → Type 0) (n : ℕ)
    (cells : List (List (List ℕ))) (config : SpannedConfig) (sizes : CompleteDimension) (new : List (List (List ℕ))) (stored last : CompleteDimension)
    (hint : Option Entity) (hinted : clears_widths hint ≡ false)
    (narrows : Narrows (shrinking_to shrinks s n) change (sized_table cells config sizes) new stored)
    (cleared : AreCleared hint stored last)
    (takes : TakesFrom shrinks s) (wide : IsWiderThan n (effective cells config sizes)) where
  narrowed : IsNarrowed (shrinking_to shrinks s n) change (effective cells config sizes) new stored
  narrowed = IsNarrowed-wider shrinks s change n cells config sizes new stored wide.wider narrows

  widths_stay : widths_of last ≡ widths_of stored
  widths_stay = cleared.widths ∙ ap (λ b. unless_cleared b (widths_of stored)) hinted

  heights_clear : heights_of last ≡ None
  heights_clear = cleared.heights ∙ ap (unless_cleared (clears_heights hint)) narrowed.cleared ∙ cleared_none (clears_heights hint)

  exact_of : CharsFit change → KeepsPlain change → IsRectangular cells → AreTexts cells → HasExactTotal n (effective cells config sizes) (effective new config last)
  exact_of content_sizes keeps rectangular texts =
      exact_total shrinks s change n cells config sizes new stored last takes wide.estimates narrowed widths_stay content_sizes keeps rectangular texts wide.wider heights_clear

  cell_kept : (row column : ℕ) → IsInside cells row column → change (inner_width (effective new config last) row column) (cell_at cells row column) (cell_at new row column)
  cell_kept row column inside =
      changed_to_fit shrinks s change n cells config sizes new stored last takes wide.estimates narrowed widths_stay row column inside.row_in inside.column_in

  least_of : TakesGreatest shrinks s → HasLeastWidth (effective cells config sizes) (effective new config last)
  least_of greatest = leveled shrinks s change n cells config sizes new stored last takes wide.estimates narrowed widths_stay greatest

-- ---- what is promised
module _ {P : Type 0} (shrinks : Shrinks P) (s : P) (n : ℕ)
    (cells : List (List (List ℕ))) (config : SpannedConfig) (sizes : CompleteDimension) (new : List (List (List ℕ))) (stored last : CompleteDimension) (rectangular : IsRectangular cells) where
  takes_of : TakesGreatest shrinks s → TakesFrom shrinks s
  takes_of greatest end old mins list by h = let (right, shrunk) = greatest end old mins list by h in shrunk.takes

  pub wraps : (words : Bool) → Narrows (shrinking_to shrinks s n) (wrapping words) (sized_table cells config sizes) new stored
      → AreCleared (Some (Row 0)) stored last
      → WrapsAsPromised shrinks s words n (effective cells config sizes) (effective new config last)
  wraps words narrows cleared =
      let change = wrapping words in
      let content_size = inner_width (effective new config last) in
      record {
        exact = λ takes wide texts.
            exact_of shrinks s change n cells config sizes new stored last (Some (Row 0)) refl narrows cleared takes wide
            (λ size before after utf8 w. fits-wrapped size words before after w)
            (λ size before after plain w. IsAdditive-stays (StaysWithin-wrapped {n = size} plain w)) rectangular texts;
        best = λ takes wide.
            let changed = cell_kept shrinks s change n cells config sizes new stored last (Some (Row 0)) refl narrows cleared takes wide in
            record {
              fewest = λ row column inside. fewest-wrapped (content_size row column) words (cell_at cells row column) (cell_at new row column) (changed row column inside);
              whole = λ row column inside some fits. old_text (content_size row column) words (cell_at cells row column) (cell_at new row column) some fits (changed row column inside);
            };
        least = λ greatest wide.
            least_of shrinks s change n cells config sizes new stored last (Some (Row 0)) refl narrows cleared (takes_of greatest) wide greatest;
      }

  pub word_wraps : Narrows (shrinking_to shrinks s n) word_wrapping (sized_table cells config sizes) new stored
      → AreCleared (Some (Row 0)) stored last
      → WordWrapsAsPromised shrinks s n (effective cells config sizes) (effective new config last)
  word_wraps narrows cleared =
      let change = word_wrapping in
      let content_size = inner_width (effective new config last) in
      record {
        exact = λ takes wide texts.
            exact_of shrinks s change n cells config sizes new stored last (Some (Row 0)) refl narrows cleared takes wide
            (λ size before after utf8 w. fits-words size before after w)
            (λ size before after plain w. IsAdditive-stays (stays-word_wrapped size before after plain w)) rectangular texts;
        best = λ takes wide.
            let changed = cell_kept shrinks s change n cells config sizes new stored last (Some (Row 0)) refl narrows cleared takes wide in
            record {
              fewest = λ row column inside. fewest-words (content_size row column) (cell_at cells row column) (cell_at new row column) (changed row column inside);
              whole = λ row column inside some fits. old_words (content_size row column) (cell_at cells row column) (cell_at new row column) some fits (changed row column inside);
            };
        least = λ greatest wide.
            least_of shrinks s change n cells config sizes new stored last (Some (Row 0)) refl narrows cleared (takes_of greatest) wide greatest;
      }

  module _ (suffix : List ℕ) (limit : SuffixLimit) (multiline : Bool)
      (narrows : Narrows (shrinking_to shrinks s n) (if_wider (truncating suffix limit multiline))
      (sized_table cells config sizes) new stored)
      (cleared : AreCleared None stored last) where
    -- a cell that was wider than its content size is truncated
    truncated_of : TakesFrom shrinks s → suffix ≡ [] → IsWiderThan n (effective cells config sizes) → (row column : ℕ) → IsInside cells row column
        → inner_width (effective new config last) row column < text_columns (cell_at cells row column)
        → IsTruncated (inner_width (effective new config last) row column) [] limit multiline (cell_at cells row column) (cell_at new row column)
    truncated_of takes bare wide row column inside long =
        let content_size = inner_width (effective new config last) row column in
        let before = cell_at cells row column in
        let after = cell_at new row column in
        let changed = cell_kept shrinks s (if_wider (truncating suffix limit multiline)) n cells config sizes new stored last None refl narrows cleared takes wide row column inside in
        subst (λ l. IsTruncated content_size l limit multiline before after) bare
        (MatchBool-at_true (IsTruncated content_size suffix limit multiline before after) (after ≡ before) (lt-ltb content_size (text_columns before) long) changed)

    longest_of : TakesFrom shrinks s → suffix ≡ [] → IsWiderThan n (effective cells config sizes) → IsBestCut multiline (effective cells config sizes) (effective new config last)
    longest_of takes bare wide =
        let content_size = inner_width (effective new config last) in
        record {
          line = λ whole row column inside exact long.
              longest_truncated (content_size row column) limit (cell_at cells row column) (cell_at new row column) exact
              (subst (λ b. IsTruncated (content_size row column) [] limit b (cell_at cells row column) (cell_at new row column)) whole (truncated_of takes bare wide row column inside long));
          lines = λ apart row column inside long.
              longest_lines (content_size row column) limit (cell_at cells row column) (cell_at new row column)
              (subst (λ b. IsTruncated (content_size row column) [] limit b (cell_at cells row column) (cell_at new row column)) apart (truncated_of takes bare wide row column inside long));
        }

    pub truncates : TruncatesAsPromised shrinks s suffix limit multiline n (effective cells config sizes) (effective new config last)
    truncates =
        let change = if_wider (truncating suffix limit multiline) in
        record {
          exact = λ takes p l wide texts.
              exact_of shrinks s change n cells config sizes new stored last None refl narrows cleared takes wide
              (λ size before after utf8 w. fits-if_wider size suffix limit multiline before after p l utf8 w)
              (λ size before after plain w. match-both (nat_lt size (text_columns before)) w
              (λ _ ended. IsAdditive-stays (StaysWithin-truncated size suffix limit multiline before after p l plain ended))
              (λ _ same. subst IsAdditive (sym same) plain)) rectangular texts;
          best = longest_of;
          least = λ greatest wide.
              least_of shrinks s change n cells config sizes new stored last None refl narrows cleared (takes_of greatest) wide greatest;
        }
