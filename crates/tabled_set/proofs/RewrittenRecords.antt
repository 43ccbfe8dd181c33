-- Records that are written anew, cell by cell.
use Rattle.tabled_set.proofs.Names.{AreChanged, Err, IsRectangular, List, Ok, Option, Result, Some, TableError, [], ap, arith, cell_at}
use Rattle.tabled_set.proofs.Names.{columns, if_sized, length, refl, slice_index_or, subst, sym, true, ℕ, ⊎_elim, ◌++◌, ◌+◌, ◌<◌, ◌∙◌, ◌∷◌}
use Rattle.tabled_set.proofs.Names.{◌≡◌}
use Rattle.std.proofs.Common.{OnOk, below_more}
use Rattle.std.proofs.lemmas.Bool.{cases_lt}
use Rattle.std.proofs.lemmas.List.{get_or_append_left, get_or_past, get_or_push, length-append}
use Rattle.std.proofs.lemmas.List.Elements.{All-from_get_or}
use Rattle.tabled_base.specs.Cells.{lengthened_rows}
use Rattle.tabled_records.proofs.Rows.{rectangular-same}
use Rattle.tabled_records.specs.Joined.{Written}
use Rattle.tabled_set.specs.CellChanges.{CellFilter, if_taken, is_taken, AddsRow, AddsText, AreMade, RowsAreMade}
use Rattle.tabled_set.proofs.ChangingCells.{columns-first, match-true}

-- ---- one text

-- a text that has a content size and passes the filter becomes what is made of it
pub taken-made : (cell_filter : CellFilter) (makes : ℕ → List ℕ → List ℕ → Type 0) (size : Option ℕ) (n : ℕ) (before after : List ℕ)
    → size ≡ Some n → is_taken cell_filter n before ≡ true → makes n before after → if_sized (if_taken cell_filter makes) size before after
taken-made cell_filter makes size n before after sized taken h =
    subst (λ (o : Option ℕ). if_sized (if_taken cell_filter makes) o before after) (sym sized)
    (match-true (makes n before after) (after ≡ before) taken h)

-- a text that was pushed
pub adds-pushed : {T : Type 0} (r : Result T TableError) (made : List ℕ → Type 0) (text : List ℕ) (old new : Written)
    → OnOk r (new ≡ record old { begun = old.begun ++ text ∷ [] }) → made text → OnOk r (AddsText made old new)
adds-pushed (Ok x) made text old new h is = record { text = text; is_made = is; added = h }
adds-pushed (Err e) made text old new h is = tt

-- a text that was added is as another relation says too
pub adds-as : {T : Type 0} (r : Result T TableError) (first second : List ℕ → Type 0) (old new : Written)
    → OnOk r (AddsText first old new) → ((text : List ℕ) → first text → second text) → OnOk r (AddsText second old new)
adds-as (Ok x) first second old new h so = record { text = h.text; is_made = so h.text h.is_made; added = h.added }
adds-as (Err e) first second old new h so = tt

-- ---- lists with one more item

each-more : {X : Type 0} (P : ℕ → X → Type 0) (xs : List X) (d x : X) (n : ℕ) → length xs ≡ n
    → ((i : ℕ) → i < n → P i (slice_index_or xs i d)) → P n x → (i : ℕ) → i < n + 1 → P i (slice_index_or (xs ++ x ∷ []) i d)
each-more P xs d x n long each last =
    below_more (λ i. P i (slice_index_or (xs ++ x ∷ []) i d)) n
    (λ i below. subst (P i) (sym (get_or_append_left xs (x ∷ []) d i (omega (arith, below, long)))) (each i below))
    (subst (P n) (sym (get_or_push xs x d n long)) last)

module _ (change : ℕ → ℕ → List ℕ → List ℕ → Type 0) (cells : List (List (List ℕ))) where
  -- ---- one row

  pub made-none : (row : ℕ) (texts : List (List ℕ)) → texts ≡ [] → AreMade change cells row 0 texts
  made-none row texts e = record { many = ap length e; each = λ column below. absurd (omega (arith, below)) }

  pub made-more : (row column : ℕ) (old new : Written) → AreMade change cells row column old.begun → AddsText (change row column (cell_at cells row column)) old new
      → AreMade change cells row (column + 1) new.begun
  made-more row column old new h next =
      subst (AreMade change cells row (column + 1)) (sym (ap (λ (w : Written). w.begun) next.added))
      (record {
        many = length-append old.begun (next.text ∷ []) ∙ ap (λ k. k + 1) h.many;
        each = each-more (λ k text. change row k (cell_at cells row k) text) old.begun [] next.text column h.many h.each next.is_made;
      })

  pub adds-row : (row count : ℕ) (old between new : Written) → count ≡ columns cells → AreMade change cells row count between.begun → between.rows ≡ old.rows
      → new ≡ record { rows = between.rows ++ between.begun ∷ []; begun = [] } → AddsRow change cells row old new
  adds-row row count old between new all made same ended = record {
    texts = between.begun;
    are_made = subst (λ (n : ℕ). AreMade change cells row n between.begun) all made;
    added = ended ∙ ap (λ (rows : List (List (List ℕ))). with_row rows between.begun) same;
  }
    where
      with_row : List (List (List ℕ)) → List (List ℕ) → Written
      with_row rows texts = record { rows = rows ++ texts ∷ []; begun = [] }

  -- ---- all rows

  pub rows-none : (written : Written) → written ≡ record { rows = []; begun = [] } → RowsAreMade change cells 0 written
  rows-none written e = record {
    many = ap (λ (w : Written). length w.rows) e;
    each = λ row below. absurd (omega (arith, below));
    begun = ap (λ (w : Written). w.begun) e;
  }

  pub rows-more : (row : ℕ) (old new : Written) → RowsAreMade change cells row old → AddsRow change cells row old new → RowsAreMade change cells (row + 1) new
  rows-more row old new h next =
      subst (RowsAreMade change cells (row + 1)) (sym next.added)
      (record {
        many = length-append old.rows (next.texts ∷ []) ∙ ap (λ k. k + 1) h.many;
        each = each-more (λ k texts. AreMade change cells k (columns cells) texts) old.rows [] next.texts row h.many h.each next.are_made;
        begun = refl;
      })

  -- the cells are changed
  pub rows-changed : (count : ℕ) (written : Written) → count ≡ length cells → RowsAreMade change cells count written → IsRectangular cells
      → AreChanged (λ row column. true) change cells (lengthened_rows written.rows)
  rows-changed count written all h rectangular =
      let rows = written.rows in
      let each : (row : ℕ) → row < length cells → AreMade change cells row (columns cells) (slice_index_or rows row []) =
      λ row l. h.each row (omega (arith, l, all)) in
      let many : length rows ≡ length cells = h.many ∙ all in
      let long : IsRectangular rows =
      All-from_get_or (λ (row : List (List ℕ)). length row ≡ columns rows) rows []
      (λ row l.
      let first = (each 0 (omega (arith, l, many))).many in
      (each row (omega (arith, l, many))).many ∙ sym (columns-first rows ∙ first)) in
      subst (AreChanged (λ row column. true) change cells) (sym (rectangular-same rows long))
      (record {
        rows = many;
        row_lengths = λ row.
            ⊎_elim
            (λ inside. (each row inside).many ∙ sym (rectangular row [] inside))
            (λ past. ap length (get_or_past rows row [] (omega (arith, past, many)) ∙ sym (get_or_past cells row [] past)))
            (cases_lt row (length cells));
        cells = λ row column inside. (each row inside.row_in).each column inside.column_in;
      })
