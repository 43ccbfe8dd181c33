-- Cells that are narrowed when they are read.
use Rattle.tabled_set.proofs.Names.{AreChanged, Bool, CompleteDimension, IsTruncated, IsUtf8, List, None, Option, Some}
use Rattle.tabled_set.proofs.Names.{Shrinks, SpannedConfig, SuffixLimit, [], ap, append-nil, arith, cases_Bool, cell_at, false, if_sized, if_wider, if◌then◌else◌, length, inr}
use Rattle.tabled_set.proofs.Names.{nat_lt, nat_tests, side_padding}
use Rattle.tabled_set.specs.CellChanges.{wrapping}
use Rattle.tabled_set.specs.Common.{IsCut}
use Rattle.tabled_set.specs.Narrowed.{AreShrunk, column_width, content_of, less_padding}
use Rattle.tabled_set.specs.Priorities.{shrinking_to}
use Rattle.tabled_set.specs.SizedTable.{sized_table}
use Rattle.tabled_set.specs.declared.narrowing.ColumnWidths.{ColumnWidths}
use Rattle.tabled_set.proofs.Names.{refl, slice_index_or, subst, sym, take, text_columns, true, truncating, ℕ, ⊎_elim, ◌<◌, ◌∙◌, ◌≡◌, ◌≤◌}
use Rattle.std.proofs.Common.{drop, is_some, ◌-◌}
use Rattle.tabled_entity.specs.Changes.{shared}
use Rattle.std.proofs.lemmas.List.{get_or-map, get_or_past, length-map, take_all}
use Rattle.tabled_records.proofs.CutLent.{cuts-narrow, cuts-nil, cuts-wide}
use Rattle.tabled_records.proofs.SizedRows.{cell-sized, length-sized}
use Rattle.tabled_records.specs.CutLentRows.{cut_rows, cuts}
use Rattle.tabled_records.specs.SizedRows.{sized_row, sized_rows, sized_text}
use Rattle.tabled_records.specs.WrappedLentRows.{wrapped_rows, wraps}
use Rattle.tabled_text.proofs.CutText.{IsCut-text}
use Rattle.tabled_text.specs.Cut.{cut_text}
use Rattle.tabled_text.proofs.WrappedText.{IsWrapped-text, wrapped-nothing}
use Rattle.tabled_set.proofs.ChangingCells.{match-false, match-true}
use Rattle.tabled_set.proofs.TruncatedTexts.{nothing-used}

-- ---- one text

truncated : (n : ℕ) (limit : SuffixLimit) (text : List ℕ) → IsUtf8 text → IsTruncated n [] limit false text (cut_text n text)
truncated n limit text u = record {
  used = [];
  left = n;
  suffix_used = nothing-used n [] limit (inr refl);
  answered = record { front = cut_text n text; cut = IsCut-text n text u; answered = sym (append-nil (cut_text n text)) };
}

-- a text is truncated if it is wider
cut-changed : (n : ℕ) (limit : SuffixLimit) (text : List ℕ) → IsUtf8 text → if_wider (truncating [] limit false) n text (cuts n text)
cut-changed n limit text u =
    ⊎_elim
    (λ wider. let l : n < text_columns text = grind (arith, nat_tests) in
    match-true (truncating [] limit false n text (cuts n text)) (cuts n text ≡ text) wider
    (subst (truncating [] limit false n text) (sym (cuts-wide n text l)) (truncated n limit text u)))
    (λ fits. let l : text_columns text ≤ n = grind (arith, nat_tests) in
    match-false (truncating [] limit false n text (cuts n text)) (cuts n text ≡ text) fits (cuts-narrow n text l))
    (cases_Bool (nat_lt n (text_columns text)))

-- what becomes of a text by a function for the width of its column
sized-as : (make : ℕ → List ℕ → List ℕ) (change : ℕ → List ℕ → List ℕ → Type 0) (width : Option ℕ) (text after : List ℕ)
    → after ≡ sized_text make width text → ((n : ℕ) → change n text (make n text)) → if_sized change width text after
sized-as make change None text after e h = e
sized-as make change (Some n) text after e h = subst (change n text) (sym e) (h n)

-- ---- all cells

-- rows of which each text is changed for the width of its column
rows-sized : (make : ℕ → List ℕ → List ℕ) (change : ℕ → List ℕ → List ℕ → Type 0) → ((n : ℕ) → make n [] ≡ [])
    → (widths : List (Option ℕ)) (rows : List (List (List ℕ))) → ((row column n : ℕ) → change n (cell_at rows row column) (make n (cell_at rows row column)))
    → AreChanged (λ row column. true) (λ row column. if_sized change (column_width widths row column)) rows (sized_rows make widths rows)
rows-sized make change nil widths rows each =
    let sized = sized_row make widths in
    let long = length-map rows sized in
    record {
      rows = long;
      row_lengths = λ row.
          ⊎_elim
          (λ inside. let l : row < length rows = grind (arith, nat_tests) in
          ap length (get_or-map sized rows row [] [] l) ∙ length-sized make widths (slice_index_or rows row []))
          (λ outside.
          let past : length rows ≤ row = grind (arith, nat_tests) in
          ap length (get_or_past (sized_rows make widths rows) row [] (omega (arith, past, long)) ∙ sym (get_or_past rows row [] past)))
          (cases_Bool (nat_lt row (length rows)));
      cells = λ row column inside.
          sized-as make change (column_width widths row column) (cell_at rows row column) (cell_at (sized_rows make widths rows) row column)
          (cell-sized make nil widths rows row column inside.row_in) (each row column);
    }

pub rows-cut : (widths : List (Option ℕ)) (limit : SuffixLimit) (rows : List (List (List ℕ))) → ((row column : ℕ) → IsUtf8 (cell_at rows row column))
    → AreChanged (λ row column. true) (λ row column. if_sized (if_wider (truncating [] limit false)) (column_width widths row column)) rows (cut_rows widths rows)
rows-cut widths limit rows texts =
    rows-sized cuts (if_wider (truncating [] limit false)) cuts-nil widths rows
    (λ row column n. cut-changed n limit (cell_at rows row column) (texts row column))

pub rows-wrapped : (words : Bool) (widths : List (Option ℕ)) (rows : List (List (List ℕ))) → ((row column : ℕ) → IsUtf8 (cell_at rows row column))
    → AreChanged (λ row column. true) (λ row column. if_sized (wrapping words) (column_width widths row column)) rows (wrapped_rows words widths rows)
rows-wrapped words widths rows texts =
    rows-sized (wraps words) (wrapping words) (λ n. wrapped-nothing n words [] (inr refl)) widths rows
    (λ row column n. IsWrapped-text n words (cell_at rows row column) (texts row column))

-- ---- the columns that shrink

-- a content width where all cells have the same padding
unpadded : (found : ColumnWidths) (row column : ℕ) → is_some (shared found.config.now.padding) ≡ true
    → column_width found.content.items row column ≡ content_of found row column
unpadded found row column h =
    let width = column_width found.content.items row column in
    sym (less-nothing width) ∙ ap (λ b. less_padding width (if b then 0 else side_padding found.config.now row column)) (sym h)
  where
    less-nothing : (width : Option ℕ) → less_padding width 0 ≡ width
    less-nothing None = refl
    less-nothing (Some n) = let same : n - 0 ≡ n = omega arith in ap Some same

pub shrunk-unpadded : {P : Type 0} (shrinks : Shrinks P) (priority : P) (n : ℕ) (cells : List (List (List ℕ))) (config : SpannedConfig)
    (old new : CompleteDimension) (found : ColumnWidths) → is_some (shared found.config.now.padding) ≡ true
    → AreShrunk (shrinking_to shrinks priority n) (sized_table cells config old) (content_of found) new
    → AreShrunk (shrinking_to shrinks priority n) (sized_table cells config old) (column_width found.content.items) new
shrunk-unpadded shrinks priority n cells config old new found padded h = record {
  some = h.some;
  wider = h.wider;
  widths = h.widths;
  shrunk = h.shrunk;
  sized = λ row column. unpadded found row column padded ∙ h.sized row column;
  stored = h.stored;
  cleared = h.cleared;
}
