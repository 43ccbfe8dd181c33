-- Copies of cells, and putting them back.
use Rattle.tabled_set.proofs.Names.{AreChanged, Bool, IsInside, List, MatchBool, [], ap, arith, cell_at, covers, false, nat_lt, refl, subst, sym, true}
use Rattle.tabled_set.proofs.Names.{ℕ, ◌&&◌, ◌++◌, ◌==◌, ◌||◌, ◌∙◌, ◌∷◌, ◌≡◌}
use Rattle.tabled_set.proofs.Names.{columns, inl, inr, length, ◌+◌, ◌<◌, ◌≤◌, ◌⊎◌, cases_Bool}
use Rattle.std.proofs.Common.{nat_le, string_bytes}
use Rattle.std.proofs.lemmas.Bool.{and_parts, lt-ltb, ltb-true}
use Rattle.std.proofs.lemmas.List.{ext_get_or}
use Rattle.tabled_set.proofs.Names.{slice_index_or}
use Rattle.tabled_set.specs.Common.{IsRectangular}
use Rattle.std.proofs.lemmas.List.Elements.{All-append, All-cons, All-head, All-nil, All-tail}
use Rattle.std.specs.declared.ops.Range.{Range as Band}
use Rattle.tabled_set.specs.Common.{Entity}
use Rattle.tabled_set.specs.CellChanges.{is_within}
use Rattle.tabled_set.specs.Common.{Cell}
use Rattle.tabled_set.specs.PutBack.{AreCopies, IsCopy, IsPutBack, StaysOutside, is_part, is_saved}
use Rattle.tabled_set.specs.declared.saved_cells.SavedCell.{SavedCell}
use Rattle.tabled_set.proofs.ChangingCells.{AreChanged-as, IsInside-changed, at-other, covers-cell, match-both, match-map, match-true}

pub is_saved-append : (cells : List SavedCell) (cell : SavedCell) (r k : ℕ)
    → is_saved (cells ++ cell ∷ []) r k ≡ (is_saved cells r k || (cell.at.row == r && cell.at.column == k))
is_saved-append [] cell r k = grind arith
is_saved-append (x ∷ cells) cell r k = let more = is_saved-append cells cell r k in grind arith

-- some cells get fixed texts, and then others or the same ones
pub AreChanged-set : {chosen first second : ℕ → ℕ → Bool} {text : ℕ → ℕ → List ℕ} {old between new : List (List (List ℕ))}
    → AreChanged first (λ r k before after. after ≡ text r k) old between
    → AreChanged second (λ r k before after. after ≡ text r k) between new
    → ((r k : ℕ) → chosen r k ≡ (first r k || second r k))
    → AreChanged chosen (λ r k before after. after ≡ text r k) old new
AreChanged-set {chosen} {first} {second} {text} {old} {between} {new} a b either =
    record {
      rows = b.rows ∙ a.rows;
      row_lengths = λ row. b.row_lengths row ∙ a.row_lengths row;
      cells = λ r k inside.
          let within : IsInside between r k = IsInside-changed a inside in
          subst (λ c. MatchBool c (cell_at new r k ≡ text r k) (cell_at new r k ≡ cell_at old r k)) (sym (either r k))
          (match-both (first r k) (a.cells r k inside)
          (λ yes made.
          match-true (cell_at new r k ≡ text r k) (cell_at new r k ≡ cell_at old r k) (ap (λ x. x || second r k) yes)
          (match-both (second r k) (b.cells r k within) (λ _ again. again) (λ _ same. same ∙ made)))
          (λ no same.
          subst (λ c. MatchBool c (cell_at new r k ≡ text r k) (cell_at new r k ≡ cell_at old r k)) (sym (ap (λ x. x || second r k) no))
          (match-map (second r k) (b.cells r k within) (λ _ made. made) (λ _ again. again ∙ same))));
    }

-- the text that is put back is that of the cell before
pub put-text : (cells : List (List (List ℕ))) (cell : SavedCell) {old new : List (List (List ℕ))}
    → string_bytes cell.text ≡ cell_at cells cell.at.row cell.at.column
    → AreChanged (covers (Cell cell.at.row cell.at.column)) (λ r k before after. after ≡ string_bytes cell.text) old new
    → AreChanged (covers (Cell cell.at.row cell.at.column)) (λ r k before after. after ≡ cell_at cells r k) old new
put-text cells cell true_text h =
    AreChanged-as h
    (λ r k inside here made.
    let at = covers-cell cell.at.row cell.at.column r k here in
    made ∙ true_text ∙ ap (λ x. cell_at cells x cell.at.column) (sym at.0) ∙ ap (λ y. cell_at cells r y) (sym at.1))

-- copies of some cells, and of one more
pub copies-front : (cells : List (List (List ℕ))) (saved : List SavedCell) (cell : SavedCell) → AreCopies cells (saved ++ cell ∷ []) → AreCopies cells saved
copies-front cells [] cell h = All-nil (IsCopy cells)
copies-front cells (x ∷ saved) cell h =
    All-cons (IsCopy cells) x saved (All-head (IsCopy cells) x (saved ++ cell ∷ []) h)
    (copies-front cells saved cell (All-tail (IsCopy cells) x (saved ++ cell ∷ []) h))

pub copies-last : (cells : List (List (List ℕ))) (saved : List SavedCell) (cell : SavedCell) → AreCopies cells (saved ++ cell ∷ []) → IsCopy cells cell
copies-last cells [] cell h = All-head (IsCopy cells) cell [] h
copies-last cells (x ∷ saved) cell h = copies-last cells saved cell (All-tail (IsCopy cells) x (saved ++ cell ∷ []) h)

pub copies-more : (cells : List (List (List ℕ))) (saved : List SavedCell) (cell : SavedCell) → AreCopies cells saved → IsCopy cells cell → AreCopies cells (saved ++ cell ∷ [])
copies-more cells saved cell h k = All-append (IsCopy cells) saved (cell ∷ []) h (All-cons (IsCopy cells) cell [] k (All-nil (IsCopy cells)))

-- one column more of a row
pub row-more : (before all more : Bool) (band : Band ℕ) (row column r k : ℕ) → band.start ≤ column → column < band.end
    → all ≡ (before || (r == row && (is_within band k && nat_lt k column)))
    → more ≡ (all || (row == r && column == k))
    → more ≡ (before || (r == row && (is_within band k && nat_lt k (column + 1))))
row-more before all more band row column r k from to a b = grind arith

-- a cell is covered where its row and its column are: those of earlier rows, and of this one
row-both : (earlier this row column : Bool) → (this ≡ true → row ≡ true)
    → ((((row && column) && true) && earlier) || (this && column)) ≡ (((row && column) && true) && (earlier || this))
row-both true true true true h = refl
row-both true true true false h = refl
row-both true true false true h = absurd (let e : false ≡ true = h refl in cc)
row-both true true false false h = refl
row-both true false true true h = refl
row-both true false true false h = refl
row-both true false false true h = refl
row-both true false false false h = refl
row-both false true true true h = refl
row-both false true true false h = refl
row-both false true false true h = absurd (let e : false ≡ true = h refl in cc)
row-both false true false false h = refl
row-both false false true true h = refl
row-both false false true false h = refl
row-both false false false true h = refl
row-both false false false false h = refl

lt-more : (r row : ℕ) → nat_lt r (row + 1) ≡ (nat_lt r row || r == row)
lt-more r row = grind arith

outside-both : (covered earlier here column : Bool) → (here && column) ≡ false → (((covered && false) && earlier) || (here && column)) ≡ ((covered && false) && (earlier || here))
outside-both covered earlier here column h = grind arith

row-there : (lines : Band ℕ) (row r : ℕ) → lines.start ≤ row → row < lines.end → (r == row) ≡ true → is_within lines r ≡ true
row-there lines row r from to e = grind arith

not-there : (cells : List (List (List ℕ))) (band : Band ℕ) (row r k : ℕ) → row < length cells → band.end ≤ columns cells
    → (nat_lt r (length cells) && nat_lt k (columns cells)) ≡ false → (r == row && is_within band k) ≡ false
not-there cells band row r k a b e = grind arith

abbrev Joined : (earlier this column covered inside : Bool) → Type 0
Joined earlier this column covered inside = (((covered && inside) && earlier) || (this && column)) ≡ ((covered && inside) && (earlier || this))

-- one row more of an entity
pub rows-more : (before all : Bool) (entity : Entity) (cells : List (List (List ℕ))) (lines band : Band ℕ) (row r k : ℕ)
    → ((r k : ℕ) → IsInside cells r k → covers entity r k ≡ (is_within lines r && is_within band k))
    → lines.start ≤ row → row < lines.end → lines.end ≤ length cells → band.end ≤ columns cells
    → before ≡ (is_part entity cells r k && nat_lt r row)
    → all ≡ (before || (r == row && is_within band k))
    → all ≡ (is_part entity cells r k && nat_lt r (row + 1))
rows-more before all entity cells lines band row r k is from to rows_in columns_in a b =
    b ∙ ap (λ x. x || (r == row && is_within band k)) a
    ∙ joined (cases_Bool (nat_lt r (length cells) && nat_lt k (columns cells)))
    ∙ ap (λ x. is_part entity cells r k && x) (sym (lt-more r row))
  where
    joined : ((nat_lt r (length cells) && nat_lt k (columns cells)) ≡ true) ⊎ ((nat_lt r (length cells) && nat_lt k (columns cells)) ≡ false)
        → Joined (nat_lt r row) (r == row) (is_within band k) (covers entity r k) (nat_lt r (length cells) && nat_lt k (columns cells))
    joined (inl here) =
        let in_both = and_parts (nat_lt r (length cells)) (nat_lt k (columns cells)) here in
        let inside : IsInside cells r k = record { row_in = ltb-true _ _ in_both.0; column_in = ltb-true _ _ in_both.1 } in
        subst (λ c. Joined (nat_lt r row) (r == row) (is_within band k) c (nat_lt r (length cells) && nat_lt k (columns cells))) (sym (is r k inside))
        (subst (λ i. Joined (nat_lt r row) (r == row) (is_within band k) (is_within lines r && is_within band k) i) (sym here)
        (row-both (nat_lt r row) (r == row) (is_within lines r) (is_within band k) (row-there lines row r from to)))
    joined (inr outside) =
        let in_rows : row < length cells = omega arith in
        subst (λ i. Joined (nat_lt r row) (r == row) (is_within band k) (covers entity r k) i) (sym outside)
        (outside-both (covers entity r k) (nat_lt r row) (r == row) (is_within band k) (not-there cells band row r k in_rows columns_in outside))

-- all columns of a band
pub row-all : (before all : Bool) (band : Band ℕ) (row column r k : ℕ) → band.end ≤ column
    → all ≡ (before || (r == row && (is_within band k && nat_lt k column)))
    → all ≡ (before || (r == row && is_within band k))
row-all before all band row column r k past a = grind arith

-- ---- cells outside of an entity that stay

inside-of : (cells : List (List (List ℕ))) (row column : ℕ) → IsRectangular cells → row < length cells → column < length (slice_index_or cells row []) → IsInside cells row column
inside-of cells row column rectangular a b =
    let long : length (slice_index_or cells row []) ≡ columns cells = rectangular row [] a in
    record { row_in = a; column_in = omega (arith, b, long) }

part-outside : (covered row_in column_in : Bool) → row_in ≡ true → column_in ≡ true → (covered && (row_in && column_in)) ≡ false → covered ≡ false
part-outside covered row_in column_in a b e = grind arith

-- if a failed change left the cells outside of an entity, and those of the entity are put back, all
-- are as they were
pub put_back_whole : (entity : Entity) (before left after : List (List (List ℕ))) → IsRectangular before → StaysOutside entity before left
    → IsPutBack entity before left after → after ≡ before
put_back_whole entity before left after rectangular o p =
    ext_get_or [] after before (p.rows ∙ o.rows)
    (λ r h.
    let in_before : r < length before = omega (arith, h, p.rows, o.rows) in
    ext_get_or [] (slice_index_or after r []) (slice_index_or before r []) (p.row_lengths r ∙ o.row_lengths r)
    (λ k h'.
    let short : k < length (slice_index_or before r []) = omega (arith, h', p.row_lengths r, o.row_lengths r) in
    let inside = inside-of before r k rectangular in_before short in
    match-both (is_part entity before r k) (p.cells r k (IsInside-changed o inside)) (λ _ same. same)
    (λ no same.
    let outside : covers entity r k ≡ false =
    part-outside (covers entity r k) (nat_lt r (length before)) (nat_lt k (columns before)) (lt-ltb r (length before) inside.row_in) (lt-ltb k (columns before) inside.column_in) no in
    same ∙ at-other r k o inside outside)))

any-both : (b : Bool) (x y z : List ℕ) → MatchBool b (Unit {0}) (y ≡ x) → MatchBool b (Unit {0}) (z ≡ y) → MatchBool b (Unit {0}) (z ≡ x)
any-both true x y z h k = tt
any-both false x y z h k = k ∙ h

pub stays_twice : (entity : Entity) (old between new : List (List (List ℕ))) → StaysOutside entity old between → StaysOutside entity between new → StaysOutside entity old new
stays_twice entity old between new a b =
    record {
      rows = b.rows ∙ a.rows;
      row_lengths = λ row. b.row_lengths row ∙ a.row_lengths row;
      cells = λ r k inside. any-both (covers entity r k) (cell_at old r k) (cell_at between r k) (cell_at new r k) (a.cells r k inside) (b.cells r k (IsInside-changed a inside));
    }
