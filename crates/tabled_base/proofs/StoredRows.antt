-- Records as they are stored, seen as rows of texts.
use Rattle.tabled_base.proofs.Names.{Global, IsRectangular, List, Vec, [], ap, arith, columns, length, length-map, map, subst, sym, ℕ}
use Rattle.tabled_base.proofs.Names.{drop, map-set, set, texts_of, slice_index_or, take, with_cell, ◌+◌, ◌<◌, ◌∙◌, ◌≡◌, ◌≤◌}
use Rattle.std.proofs.Common.{length-set, get_or-drop, get_or-take}
use Rattle.std.proofs.Common.{◌*◌}
use Rattle.tabled_base.specs.Cells.{IsInside, cell_at}
use Rattle.std.proofs.lemmas.List.{get_or-map}
use Rattle.tabled_base.specs.Stored.{IsWhole, in_rows, stored_texts}
use Rattle.tabled_base.specs.declared.vec_records.Stored.{Stored}
use Rattle.tabled_base.specs.declared.vec_records.Stored.TheVariants.{InList, InRows}
use Rattle.tabled_base.proofs.ListedRows.{cell_within, in_rows-columns, in_rows-length, in_rows-rectangular, in_rows-row, in_rows-set, row_read, row_within}

-- what is known of records whose cells are in one list
pub record IsListed {T : Type 0} (f : T → List ℕ) (cells : Vec T Global) (c n : ℕ) (all : List (List (List ℕ))) : Type 0 where
  pub long : length cells.items ≡ n * c
  pub view : in_rows n c (map f cells.items) ≡ all
  pub count : n ≡ length all

pub listed : {T : Type 0} (f : T → List ℕ) (s : Stored T) (cells : Vec T Global) (c n : ℕ) (all : List (List (List ℕ)))
    → s ≡ InList cells c n → stored_texts f s ≡ all → IsWhole f s → IsListed f cells c n all
listed f s cells c n all e view whole =
    let is : in_rows n c (map f cells.items) ≡ all = sym (ap (stored_texts f) e) ∙ view in
    record {
      long = subst (IsWhole f) e whole;
      view = is;
      count = sym (in_rows-length n c (map f cells.items)) ∙ ap length is;
    }

texts_long : {T : Type 0} {f : T → List ℕ} {cells : Vec T Global} {c n : ℕ} {all : List (List (List ℕ))}
    → IsListed f cells c n all → length (map f cells.items) ≡ n * c
texts_long {f = f} {cells = cells} l = length-map cells.items f ∙ l.long

-- the row at an index lies within the list
pub listed-row : {T : Type 0} {f : T → List ℕ} {cells : Vec T Global} {c n : ℕ} {all : List (List (List ℕ))} (i : ℕ)
    → IsListed f cells c n all → i < length all → i * c + c ≤ length cells.items
listed-row {c = c} {n = n} i l h = let w = row_within n c i (omega (arith, h, l.count)) in omega (arith, w, l.long)

pub listed-read : {T : Type 0} {f : T → List ℕ} {cells : Vec T Global} {c n : ℕ} {all : List (List (List ℕ))} (i : ℕ)
    → IsListed f cells c n all → i < length all → map f (take c (drop (i * c) cells.items)) ≡ slice_index_or all i []
listed-read {f = f} {cells = cells} {c = c} {n = n} {all = all} i l h = row_read f n c cells.items all i l.view h

pub listed-columns : {T : Type 0} {f : T → List ℕ} {cells : Vec T Global} {c n : ℕ} {all : List (List (List ℕ))}
    → IsListed f cells c n all → 0 < n → c ≡ columns all
listed-columns {f = f} {cells = cells} {c = c} {n = n} l h = sym (in_rows-columns n c (map f cells.items) (texts_long l) h) ∙ ap columns l.view

pub listed-no_columns : {T : Type 0} {f : T → List ℕ} {cells : Vec T Global} {c n : ℕ} {all : List (List (List ℕ))}
    → IsListed f cells c n all → n ≡ 0 → 0 ≡ columns all
listed-no_columns {f = f} {cells = cells} {c = c} l none = ap (λ k. columns (in_rows k c (map f cells.items))) (sym none) ∙ ap columns l.view

-- stored rows are equally long
pub stored-rectangular : {T : Type 0} (f : T → List ℕ) (s : Stored T) → IsWhole f s → IsRectangular (stored_texts f s)
stored-rectangular f (InList cells c n) h = in_rows-rectangular n c (map f cells.items) (length-map cells.items f ∙ h)
stored-rectangular f (InRows rows) h = h

-- the rows of records are equally long
pub whole-rectangular : {T : Type 0} (f : T → List ℕ) (s : Stored T) (all : List (List (List ℕ))) → stored_texts f s ≡ all → IsWhole f s → IsRectangular all
whole-rectangular f s all e h = subst IsRectangular e (stored-rectangular f s h)

-- the column of a cell is in the row that was read
pub row-column : {T : Type 0} (f : T → List ℕ) (s : Stored T) (all : List (List (List ℕ))) (i j : ℕ) (row : List T)
    → stored_texts f s ≡ all → IsWhole f s → IsInside all i j → map f row ≡ slice_index_or all i [] → j < length row
row-column f s all i j row e w h r =
    let long = whole-rectangular f s all e w i [] h.row_in in
    let inside = h.column_in in
    omega (arith, long, inside, ap length r, length-map row f)

-- what is read from the row is the cell
pub row-cell : {T : Type 0} (f : T → List ℕ) (all : List (List (List ℕ))) (i j : ℕ) (row : List T) (d : T)
    → map f row ≡ slice_index_or all i [] → j < length row → f (slice_index_or row j d) ≡ cell_at all i j
row-cell f all i j row d r h = sym (get_or-map f row j d [] h) ∙ ap (λ l. slice_index_or l j []) r

-- ---- one cell is changed

-- a cell lies in the list
pub listed-place : {T : Type 0} {f : T → List ℕ} {cells : Vec T Global} {c n : ℕ} {all : List (List (List ℕ))} (i j : ℕ)
    → IsListed f cells c n all → IsInside all i j → i * c + j < length cells.items
listed-place {c = c} {n = n} {all = all} i j l inside =
    let row = inside.row_in in
    let column = inside.column_in in
    let there : i < n = omega (arith, row, l.count) in
    let wide : c ≡ columns all = listed-columns l (omega arith) in
    let at = cell_within n c i j there (omega (arith, column, wide)) in
    omega (arith, at, l.long)

-- the rows after a cell of the list was set
pub listed-set : {T : Type 0} {f : T → List ℕ} {cells : Vec T Global} {c n : ℕ} {all : List (List (List ℕ))} (i j : ℕ) (x : T)
    → IsListed f cells c n all → IsInside all i j → in_rows n c (map f (set cells.items (i * c + j) x)) ≡ with_cell all i j (f x)
listed-set {f = f} {cells = cells} {c = c} {n = n} {all = all} i j x l inside =
    let row = inside.row_in in
    let column = inside.column_in in
    let there : i < n = omega (arith, row, l.count) in
    let wide : c ≡ columns all = listed-columns l (omega arith) in
    ap (in_rows n c) (map-set f cells.items (i * c + j) x)
    ∙ in_rows-set n c (map f cells.items) i j (f x) [] there (omega (arith, column, wide))
    ∙ ap (λ a. set a i (set (slice_index_or a i []) j (f x))) l.view

-- the list is as long as before
pub listed-long : {T : Type 0} {f : T → List ℕ} {cells : Vec T Global} {c n : ℕ} {all : List (List (List ℕ))} (p : ℕ) (x : T)
    → IsListed f cells c n all → length (set cells.items p x) ≡ n * c
listed-long {cells = cells} p x l = length-set cells.items p x ∙ l.long

-- what is read from the list is the cell
pub listed-cell : {T : Type 0} {f : T → List ℕ} {cells : Vec T Global} {c n : ℕ} {all : List (List (List ℕ))} (i j : ℕ) (d : T)
    → IsListed f cells c n all → IsInside all i j → f (slice_index_or cells.items (i * c + j) d) ≡ cell_at all i j
listed-cell {f = f} {cells = cells} {c = c} {n = n} {all = all} i j d l inside =
    let row = inside.row_in in
    let column = inside.column_in in
    let there : i < n = omega (arith, row, l.count) in
    let wide : c ≡ columns all = listed-columns l (omega arith) in
    let within : j < c = omega (arith, column, wide) in
    let texts = map f cells.items in
    sym (get_or-map f cells.items (i * c + j) d [] (listed-place i j l inside))
    ∙ sym (get_or-drop (i * c) texts j [])
    ∙ sym (get_or-take c (drop (i * c) texts) j [] within)
    ∙ ap (λ r. slice_index_or r j []) (sym (in_rows-row n c texts i [] there))
    ∙ ap (λ a. cell_at a i j) l.view

-- ---- rows in vectors

pub rowed-view : {T : Type 0} (f : T → List ℕ) (s : Stored T) (rows : Vec (Vec T Global) Global) (all : List (List (List ℕ)))
    → s ≡ InRows rows → stored_texts f s ≡ all → texts_of f rows.items ≡ all
rowed-view f s rows all e view = sym (ap (stored_texts f) e) ∙ view

pub rowed-whole : {T : Type 0} (f : T → List ℕ) (s : Stored T) (rows : Vec (Vec T Global) Global)
    → s ≡ InRows rows → IsWhole f s → IsRectangular (texts_of f rows.items)
rowed-whole f s rows e whole = subst (IsWhole f) e whole
