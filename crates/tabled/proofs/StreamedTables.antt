-- Tables whose cells are cut to the content widths of their columns.
use Rattle.tabled.proofs.Names.{All-from_get_or, AreChanged, AreTexts, Cells, CompleteDimension, Cut, HasNoEstimate, Holds, IsFilledIn}
use Rattle.tabled.proofs.Names.{IsInside, IsReadyOf, IsOutOfRange, IsRectangular, IsUtf8, List, None, Option, Sheet, Some, SpannedConfig}
use Rattle.tabled.proofs.Names.{Streamed, [], ap, arith, cases_Bool, cell_at, changed_empty, columns, cut_to, effective, effective_sizes}
use Rattle.tabled.proofs.Names.{estimated, estimated_heights, estimated_widths, false, get_or, heights_length, heights_of, holds_estimated}
use Rattle.tabled.proofs.Names.{is_empty, length, passes_too_high, passes_too_wide, refl, picture_lines, apart_columns, sized_estimated}
use Rattle.tabled.proofs.Names.{sym, text_columns, true, truncating, unwrap_or, widths_length, widths_of, ℕ, ⊎_elim, ◌+◌, ◌-◌, ◌∙◌, ◌≡◌}
use Rattle.tabled.proofs.Names.{◌≤◌}
use Rattle.std.proofs.Common.{All, Bor, option_map}
use Rattle.std.proofs.lemmas.List.{ext_get_or}
use Rattle.tabled_priority.specs.Permitted.{at}
use Rattle.tabled_set.specs.CellChanges.{for_content_size, if_taken}
use Rattle.tabled_set.specs.Minimums.{side_padding}
use Rattle.tabled_set.specs.declared.resize.CellFilter.TheVariants.{Every}
use Rattle.tabled_set.proofs.ChangingCells.{AreChanged-as, IsInside-before, at-chosen, columns-changed}
use Rattle.tabled_set.specs.Common.{Global, covers}
use Rattle.tabled_set.proofs.TruncatedTexts.{IsCut-truncated}
use Rattle.tabled_text.specs.Exact.{IsExactLine}
use Rattle.tabled_text.specs.Fitting.{FitsIn}
use Rattle.tabled_text.proofs.ExactLines.{exact-kept}
use Rattle.tabled_text.proofs.FittingLaws.{fits-cut}
use Rattle.tabled.proofs.FittedTables.{sized_by, whole_list}
use Rattle.tabled.proofs.RenderedTables.{changed_rectangular, no_place}

-- ---- one cell

-- a text that is truncated without a suffix is cut
pub cut-changed : (widths : List ℕ) (config : SpannedConfig) {old new : Cells}
    → AreChanged (covers Global) (for_content_size (if_taken Every (truncating [] Cut false))
    (λ row column. Some (at widths column - side_padding config row column))) old new
    → AreChanged (λ row column. true) (cut_to widths config) old new
cut-changed widths config {old} {new} h =
    AreChanged-as h (λ row column inside yes t.
    IsCut-truncated (at widths column - side_padding config row column) Cut (cell_at old row column) (cell_at new row column) t)

-- ---- all cells

module _ (cells : Cells) (config : SpannedConfig) (rectangular : IsRectangular cells) (texts : AreTexts cells) where
  abbrev widths : List ℕ
  widths = estimated_widths cells config

  -- a column holds its cells and their padding
  needed-held : (row column : ℕ) → IsInside cells row column → text_columns (cell_at cells row column) + side_padding config row column ≤ at widths column
  needed-held row column h = holds_estimated cells config row column h.row_in h.column_in

  room : (row column : ℕ) → IsInside cells row column → text_columns (cell_at cells row column) ≤ at widths column - side_padding config row column
  room row column h = let held = needed-held row column h in omega arith

  module _ (after : Cells) (changed : AreChanged (λ row column. true) (cut_to widths config) cells after) where
    abbrev t : Sheet
    t = record { cells = after; config = config; widths = widths; heights = estimated_heights cells config }

    cut-fits : (row column : ℕ) → IsInside after row column → FitsIn (at widths column - side_padding config row column) (cell_at after row column)
    cut-fits row column inside =
        fits-cut (at widths column - side_padding config row column) (cell_at cells row column) (cell_at after row column)
        (at-chosen row column changed (IsInside-before changed inside) refl)

    cut-rectangular : IsRectangular after
    cut-rectangular = changed_rectangular changed rectangular

    cut-texts : AreTexts after
    cut-texts = All-from_get_or (All IsUtf8) after []
        (λ row h. All-from_get_or IsUtf8 (get_or after row []) []
        (λ column l.
        let long = cut-rectangular row [] h in
        (cut-fits row column (record { row_in = h; column_in = omega arith })).utf8))

    cut-holds : Holds t
    cut-holds row column h l =
        let inside : IsInside after row column = record { row_in = h; column_in = l } in
        let held = needed-held row column (IsInside-before changed inside) in
        let fits = (cut-fits row column inside).columns in
        omega arith

    -- exact lines aren't cut
    cut-same : All (All IsExactLine) cells → after ≡ cells
    cut-same exact =
        ext_get_or [] after cells changed.rows
        (λ row h. ext_get_or [] (get_or after row []) (get_or cells row []) (changed.row_lengths row)
        (λ column l.
        let inside : IsInside cells row column = IsInside-before changed
        (record { row_in = h; column_in = (let long = cut-rectangular row [] h in omega arith) }) in
        let long = rectangular row [] inside.row_in in
        let there = inside.column_in in
        exact-kept (at widths column - side_padding config row column) (cell_at cells row column) (cell_at after row column)
        (exact row [] inside.row_in column [] (omega arith)) (room row column inside) (at-chosen row column changed inside refl)))

    pub streamed_made : IsReadyOf Streamed (estimated cells config) t
    streamed_made = record {
      planned = record { config = refl; widths = refl; cells = changed; heights = refl };
      best = record {
        edges = λ apart. apart_columns t (apart (length after) (columns after)) cut-texts cut-rectangular cut-holds;
        lines = picture_lines t;
        total = tt;
        least = tt;
        fewest = tt;
        longest = tt;
        alike = λ exact. ap (λ c. record { cells = c; config = config; widths = widths; heights = estimated_heights cells config }) (cut-same exact);
      };
      same = changed_empty (λ row column. true) (cut_to widths config) cells after changed;
      sized =
          let sized = sized_estimated cells config in
          let rows = changed.rows in
          let many = columns-changed changed in
          let wide = sized.columns in
          let high = sized.rows in
          record { columns = omega arith; rows = omega arith };
      holds = cut-holds;
    }

-- ---- where a cell passes the range

pub not_estimated : (cells : Cells) (config : SpannedConfig) (none : CompleteDimension) → HasNoEstimate none cells config
    → (is_empty cells ≡ false) × IsOutOfRange (estimated cells config)
not_estimated cells config none h =
    ⊎_elim
    (λ w. (filled w.1.row w.1.column (record { row_in = w.1.row_in; column_in = w.1.column_in }), passes_too_wide cells config w.1))
    (λ w. (filled w.1.row w.1.column (record { row_in = w.1.row_in; column_in = w.1.column_in }), passes_too_high cells config w.1)) h
  where
    filled : (row column : ℕ) → IsInside cells row column → is_empty cells ≡ false
    filled row column inside = ⊎_elim (λ yes. absurd (no_place cells yes row column inside)) (λ no. no) (cases_Bool (is_empty cells))

-- ---- the sizes that were filled in

pub widths_read : (r : Option (Bor (List ℕ))) (d u : Bor (List ℕ)) (wide : List ℕ) → option_map (λ s. s.now) r ≡ Some wide → u ≡ unwrap_or r d → u.now ≡ wide
widths_read None d u wide e h = let bad : ⊥ = cc in absurd bad
widths_read (Some x) d u wide e h = ap (λ (b : Bor (List ℕ)). b.now) h ∙ ap (λ o. unwrap_or o []) e

pub filled_in : (cells after : Cells) (config : SpannedConfig) (none sizes : CompleteDimension) → widths_of none ≡ None → heights_of none ≡ None
    → IsFilledIn none cells config sizes → length after ≡ length cells → columns after ≡ columns cells
    → effective after config sizes ≡ sized_by after config (estimated_widths cells config) (estimated_heights cells config)
filled_in cells after config none sizes no_widths no_heights f rows many =
    let wide = estimated_widths cells config in
    let high = estimated_heights cells config in
    let widths : effective_sizes (widths_of sizes) (estimated_widths after config) (columns after) ≡ wide =
    ap (λ o. effective_sizes o (estimated_widths after config) (columns after)) (f.widths ∙ ap (λ o. Some (unwrap_or o wide)) no_widths)
    ∙ whole_list wide (columns after) (widths_length cells config ∙ sym many) in
    let heights : effective_sizes (heights_of sizes) (estimated_heights after config) (length after) ≡ high =
    ap (λ o. effective_sizes o (estimated_heights after config) (length after)) (f.heights ∙ ap (λ o. Some (unwrap_or o high)) no_heights)
    ∙ whole_list high (length after) (heights_length cells config ∙ sym rows) in
    ap (λ w. sized_by after config w (effective_sizes (heights_of sizes) (estimated_heights after config) (length after))) widths
    ∙ ap (λ h. sized_by after config wide h) heights
