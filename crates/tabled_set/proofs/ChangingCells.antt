-- Cells that are changed one after another.
use Rattle.tabled_set.proofs.Names.{AreChanged, AreChangedBefore, Bool, ByColumn, ByRow, Err, IfErr, IsInside, List, MatchBool}
use Rattle.tabled_set.proofs.Names.{MatchBool-at_true, Memory, Ok, Range, Result, TableError, WalkOrder, [], ap, arith, cases_Bool, cell_at}
use Rattle.tabled_set.proofs.Names.{columns, covers, false, inr, length, nat_lt, on_line, precedes, refl, slice_index_or, subst, sym, true}
use Rattle.tabled_set.proofs.Names.{ℕ, ⊎_elim, ◌&&◌, ◌+◌, ◌<◌, ◌==◌, ◌||◌, ◌∙◌, ◌∷◌, ◌≡◌, ◌≤◌, ◌⊎◌}
use Rattle.std.proofs.lemmas.Bool.{and_parts, eqb-true, MatchBool-at_false}
use Rattle.tabled_set.specs.Common.{Cell}
use Rattle.std.proofs.Common.{OnErr}
use Rattle.tabled_set.specs.CellChanges.{line_of, place_of, is_within, lines_in, places_in}
use Rattle.std.specs.declared.ops.Range.{Range as Band}

pub match-true : {b : Bool} (P Q : Type 0) → b ≡ true → P → MatchBool b P Q
match-true P Q e p = subst (λ x. MatchBool x P Q) (sym e) p

pub match-false : {b : Bool} (P Q : Type 0) → b ≡ false → Q → MatchBool b P Q
match-false P Q e q = subst (λ x. MatchBool x P Q) (sym e) q

-- what follows in either case, and in both of two
pub match-both : (b : Bool) {P Q R : Type 0} → MatchBool b P Q → (b ≡ true → P → R) → (b ≡ false → Q → R) → R
match-both true h f g = f refl h
match-both false h f g = g refl h

pub match-map : (b : Bool) {P Q R S : Type 0} → MatchBool b P Q → (b ≡ true → P → R) → (b ≡ false → Q → S) → MatchBool b R S
match-map true h f g = f refl h
match-map false h f g = g refl h

pub match-two : (b : Bool) {P Q R S T : Type 0} → MatchBool b P Q → MatchBool b R S → (P → R → T) → (Q → S → T) → T
match-two true h k f g = f h k
match-two false h k f g = g h k

-- the last of three cases
pub match-last : {a b : Bool} (P Q : Type 0) {R : Type 0} → a ≡ false → b ≡ false → R → MatchBool a P (MatchBool b Q R)
match-last {a} {b} P Q {R} e f r = match-false P (MatchBool b Q R) e (match-false Q R f r)

pub at-last : (a b : Bool) (P Q : Type 0) {R : Type 0} → MatchBool a P (MatchBool b Q R) → a ≡ false → b ≡ false → R
at-last a b P Q {R} h e f = MatchBool-at_false Q R f (MatchBool-at_false P (MatchBool b Q R) e h)

pub columns-first : (cells : List (List (List ℕ))) → columns cells ≡ length (slice_index_or cells 0 [])
columns-first [] = refl
columns-first (row ∷ rows) = refl

module _ {chosen : ℕ → ℕ → Bool} {change : ℕ → ℕ → List ℕ → List ℕ → Type 0} {old new : List (List (List ℕ))} where
  pub columns-changed : AreChanged chosen change old new → columns new ≡ columns old
  columns-changed h = columns-first new ∙ h.row_lengths 0 ∙ sym (columns-first old)

  -- the same places are inside
  pub IsInside-changed : {row column : ℕ} → AreChanged chosen change old new → IsInside old row column → IsInside new row column
  IsInside-changed {row} {column} h inside =
      record {
        row_in = subst (λ n. row < n) (sym h.rows) inside.row_in;
        column_in = subst (λ n. column < n) (sym (columns-changed h)) inside.column_in;
      }

  pub IsInside-before : {row column : ℕ} → AreChanged chosen change old new → IsInside new row column → IsInside old row column
  IsInside-before {row} {column} h inside =
      record {
        row_in = subst (λ n. row < n) h.rows inside.row_in;
        column_in = subst (λ n. column < n) (columns-changed h) inside.column_in;
      }

  -- a chosen place
  pub at-chosen : (row column : ℕ) → AreChanged chosen change old new → IsInside old row column → chosen row column ≡ true → change row column (cell_at old row column) (cell_at new row column)
  at-chosen row column h inside taken =
      MatchBool-at_true (change row column (cell_at old row column) (cell_at new row column)) (cell_at new row column ≡ cell_at old row column) taken (h.cells row column inside)

  -- another place
  pub at-other : (row column : ℕ) → AreChanged chosen change old new → IsInside old row column → chosen row column ≡ false → cell_at new row column ≡ cell_at old row column
  at-other row column h inside apart =
      MatchBool-at_false (change row column (cell_at old row column) (cell_at new row column)) (cell_at new row column ≡ cell_at old row column) apart (h.cells row column inside)

-- the same places, told by another test
pub AreChanged-same : {first second : ℕ → ℕ → Bool} {change : ℕ → ℕ → List ℕ → List ℕ → Type 0} {old new : List (List (List ℕ))} → AreChanged first change old new → ((row column : ℕ) → IsInside old row column → second row column ≡ first row column) → AreChanged second change old new
AreChanged-same {first} {second} {change} {old} {new} h same =
    record {
      rows = h.rows;
      row_lengths = h.row_lengths;
      cells = λ row column inside.
          subst (λ b. MatchBool b (change row column (cell_at old row column) (cell_at new row column)) (cell_at new row column ≡ cell_at old row column)) (sym (same row column inside)) (h.cells row column inside);
    }

-- the same cells, changed as another relation says too
pub AreChanged-as : {chosen : ℕ → ℕ → Bool} {first second : ℕ → ℕ → List ℕ → List ℕ → Type 0} {old new : List (List (List ℕ))} → AreChanged chosen first old new → ((row column : ℕ) → IsInside old row column → chosen row column ≡ true → first row column (cell_at old row column) (cell_at new row column) → second row column (cell_at old row column) (cell_at new row column)) → AreChanged chosen second old new
AreChanged-as {chosen} {first} {second} {old} {new} h so =
    record {
      rows = h.rows;
      row_lengths = h.row_lengths;
      cells = λ row column inside. match-map (chosen row column) (h.cells row column inside) (so row column inside) (λ _ same. same);
    }

-- a place is chosen where one of two tests chooses it, and not both do
pub record IsEither (chosen first second : Bool) : Type 0 where
  pub apart : first ≡ true → second ≡ false
  pub either : chosen ≡ (first || second)

-- some places, and then others
pub AreChanged-both : {chosen first second : ℕ → ℕ → Bool} {change : ℕ → ℕ → List ℕ → List ℕ → Type 0} {old between new : List (List (List ℕ))} → AreChanged first change old between → AreChanged second change between new → ((row column : ℕ) → IsInside old row column → IsEither (chosen row column) (first row column) (second row column)) → AreChanged chosen change old new
AreChanged-both {chosen} {first} {second} {change} {old} {between} {new} a b either =
    record {
      rows = b.rows ∙ a.rows;
      row_lengths = λ row. b.row_lengths row ∙ a.row_lengths row;
      cells = λ row column inside.
          let before = cell_at old row column in
          let after = cell_at new row column in
          let changed = change row column before after in
          let within : IsInside between row column = IsInside-changed a inside in
          let one = either row column inside in
          match-both (first row column) (a.cells row column inside)
          (λ yes made.
          let after_is : after ≡ cell_at between row column = at-other row column b within (one.apart yes) in
          match-true changed (after ≡ before) (one.either ∙ ap (λ x. x || second row column) yes)
          (subst (change row column before) (sym after_is) made))
          (λ no before_is.
          subst (λ c. MatchBool c changed (after ≡ before)) (sym (one.either ∙ ap (λ x. x || second row column) no))
          (match-map (second row column) (b.cells row column within)
          (λ _ made. subst (λ t. change row column t after) before_is made) (λ _ same. same ∙ before_is)));
    }

-- the place of one cell is chosen, and no other
pub covers-cell : (row column r c : ℕ) → covers (Cell row column) r c ≡ true → (r ≡ row) × (c ≡ column)
covers-cell row column r c e =
    let both = and_parts (row == r) (column == c) e in
    (sym (eqb-true row r both.0), sym (eqb-true column c both.1))

-- some places, and then one more
pub AreChanged-next : {chosen next : ℕ → ℕ → Bool} {change : ℕ → ℕ → List ℕ → List ℕ → Type 0} {old between new : List (List (List ℕ))}
    (row column : ℕ) → AreChanged chosen change old between → AreChanged (covers (Cell row column)) change between new → chosen row column ≡ false
    → ((r c : ℕ) → next r c ≡ (chosen r c || covers (Cell row column) r c)) → AreChanged next change old new
AreChanged-next {chosen} row column a b free next_is =
    AreChanged-both a b
    (λ r c inside.
    record {
      apart = λ yes.
          ⊎_elim
          (λ same. let here = covers-cell row column r c same in let taken : chosen row column ≡ true = rw (here.0, here.1) at yes in let e : true ≡ false = sym taken ∙ free in cc)
          (λ other. other)
          (cases_Bool (covers (Cell row column) r c));
      either = next_is r c;
    })

-- ---- a walk, line by line, in bands of lines and of places

-- a cell on one of the lines is inside
pub inside_line : (order : WalkOrder) (cells : List (List (List ℕ))) (row column line place : ℕ) → line_of order row column ≡ line → place_of order row column ≡ place → line < lines_in order cells → place < places_in order cells → IsInside cells row column
inside_line ByRow cells row column line place a b l p = record { row_in = omega (arith, a, l); column_in = omega (arith, b, p) }
inside_line ByColumn cells row column line place a b l p = record { row_in = omega (arith, b, p); column_in = omega (arith, a, l) }

-- no place of a line comes before itself
pub on_line-itself : (order : WalkOrder) (row column line place : ℕ) (band : Band ℕ) → line_of order row column ≡ line → place_of order row column ≡ place → (on_line order line band row column && precedes order line place row column) ≡ false
on_line-itself ByRow row column line place band a b = grind arith
on_line-itself ByColumn row column line place band a b = grind arith

-- before the next place of a band come the places before this one, and this one
pub on_line-next : (order : WalkOrder) (row column line place r c : ℕ) (band : Band ℕ) → line_of order row column ≡ line → place_of order row column ≡ place → band.start ≤ place → place < band.end → (on_line order line band r c && precedes order line (place + 1) r c) ≡ ((on_line order line band r c && precedes order line place r c) || covers (Cell row column) r c)
on_line-next ByRow row column line place r c band a b from to = grind arith
on_line-next ByColumn row column line place r c band a b from to = grind arith

-- a cell at a place of a line: whether it is of those that are walked, and whether it comes before a place
abbrev before : ℕ → ℕ → ℕ → ℕ → Bool
before line place x y = nat_lt x line || (x == line && nat_lt y place)

-- the cells of earlier lines, and some first ones of this line
some_of : (covered : Bool) (lines band : Band ℕ) (line place x y : ℕ) → covered ≡ (is_within lines x && is_within band y)
    → lines.start ≤ line → line < lines.end
    → IsEither (covered && before line place x y) (covered && before line 0 x y) ((x == line && is_within band y) && before line place x y)
some_of covered lines band line place x y is from to =
    record { apart = λ yes. grind arith; either = grind arith }

-- and all of this line
pub all_of : (covered : Bool) (lines band : Band ℕ) (line x y : ℕ) → covered ≡ (is_within lines x && is_within band y) → lines.start ≤ line
    → line < lines.end → IsEither (covered && before (line + 1) 0 x y) (covered && before line 0 x y) (x == line && is_within band y)
all_of covered lines band line x y is from to =
    record { apart = λ yes. grind arith; either = grind arith }

-- ---- where a walk stops

-- a place of a band on a line
on_line-there : (line place x y : ℕ) (band : Band ℕ) → x ≡ line → y ≡ place → band.start ≤ place → place < band.end → (x == line && is_within band y) ≡ true
on_line-there line place x y band a b from to = grind arith

on_line-line : (line x y : ℕ) (band : Band ℕ) → (x == line && is_within band y) ≡ true → x ≡ line
on_line-line line x y band on = grind arith

covered-there : (covered : Bool) (lines band : Band ℕ) (line x y : ℕ) → covered ≡ (is_within lines x && is_within band y) → lines.start ≤ line → line < lines.end → (x == line && is_within band y) ≡ true → covered ≡ true
covered-there covered lines band line x y is from to on = grind arith

-- nothing of a line comes before its first place
first-free : (covered : Bool) (line x y : ℕ) → x ≡ line → (covered && before line 0 x y) ≡ false
first-free covered line x y e = grind arith

module _ (order : WalkOrder) (band : Band ℕ) {wants : ℕ → ℕ → List ℕ → Type 0} {change : ℕ → ℕ → List ℕ → List ℕ → Type 0} {old between new : List (List (List ℕ))} where
  -- a walk along a line stops at a place of it
  pub stops-there : (line place row column : ℕ) → line_of order row column ≡ line → place_of order row column ≡ place → line < lines_in order old → band.end ≤ places_in order old → band.start ≤ place → place < band.end
      → AreChanged (λ r c. on_line order line band r c && precedes order line place r c) change old between
      → new ≡ between → wants row column (cell_at between row column)
      → AreChangedBefore order (on_line order line band) wants change old new
  stops-there line place row column a b in_lines in_places from to h same needed =
      let below : place < places_in order old = omega (arith, to, in_places) in
      let inside = inside_line order old row column line place a b in_lines below in
      let free = on_line-itself order row column line place band a b in
      let chosen : ℕ → ℕ → Bool = λ r c. on_line order line band r c && precedes order (line_of order row column) (place_of order row column) r c in
      record {
        row = row;
        column = column;
        inside = inside;
        stopped = on_line-there line place (line_of order row column) (place_of order row column) band a b from to;
        wanting = subst (wants row column) (at-other row column h inside free) needed;
        changed =
            subst (AreChanged chosen change old) (sym same)
            (AreChanged-same h
            (λ r c _. ap (λ l. on_line order line band r c && precedes order l (place_of order row column) r c) a
            ∙ ap (λ p. on_line order line band r c && precedes order line p r c) b));
      }

  -- a walk stops on a line, behind others that it went along
  pub stops-later : (covers : ℕ → ℕ → Bool) (lines : Band ℕ) (line : ℕ) → ((r c : ℕ) → IsInside old r c → covers r c ≡ (is_within lines (line_of order r c) && is_within band (place_of order r c)))
      → lines.start ≤ line → line < lines.end
      → AreChanged (λ r c. covers r c && precedes order line 0 r c) change old between
      → AreChangedBefore order (on_line order line band) wants change between new
      → AreChangedBefore order covers wants change old new
  stops-later covers lines line is from to h s =
      let row = s.row in
      let column = s.column in
      let x = line_of order row column in
      let y = place_of order row column in
      let inside = IsInside-before h s.inside in
      let here : x ≡ line = on_line-line line x y band s.stopped in
      record {
        row = row;
        column = column;
        inside = inside;
        stopped = covered-there (covers row column) lines band line x y (is row column inside) from to s.stopped;
        wanting = subst (wants row column) (at-other row column h inside (first-free (covers row column) line x y here)) s.wanting;
        changed =
            AreChanged-both h s.changed
            (λ r c i.
            subst (λ l. IsEither (covers r c && precedes order l y r c) (covers r c && precedes order line 0 r c) (on_line order line band r c && precedes order l y r c)) (sym here)
            (some_of (covers r c) lines band line y (line_of order r c) (place_of order r c) (is r c i) from to));
      }

-- with `Memory` the cells before some cell are changed
pub stops-before : {T : Type 0} (order : WalkOrder) (chosen : ℕ → ℕ → Bool) (needs : ℕ → ℕ → List ℕ → Type 0)
    (change : ℕ → ℕ → List ℕ → List ℕ → Type 0) (old new : List (List (List ℕ))) (r : Result T TableError) → OnErr r (AreChangedBefore order chosen needs change old new)
    → IfErr r (λ e. e ≡ Memory)
    → IfErr r (λ e. ((e ≡ Range) × (new ≡ old)) ⊎ ((e ≡ Memory) × AreChangedBefore order chosen needs change old new))
stops-before order chosen needs change old new (Ok x) h only = tt
stops-before order chosen needs change old new (Err e) h only = inr (only, h)
