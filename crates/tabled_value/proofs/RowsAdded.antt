-- The cells of values are put behind others, in one list.
use Rattle.tabled_value.proofs.Names.{All-nil, AllZip, List, ValuesAdded, [], all_zipped_more, ap, append_assoc, length, map, refl, subst, suc}
use Rattle.tabled_value.proofs.Names.{sym, ℕ, ◌++◌, ◌+◌, ◌∙◌, ◌∷◌, ◌≡◌}
use Rattle.std.proofs.Common.{All, append-nil, arith, drop, length-append, ◌*◌}
use Rattle.std.proofs.Math.Nat.{suc-mul, zero-mul}
use Rattle.std.proofs.lemmas.Grind.{flat_map-append}
use Rattle.std.proofs.lemmas.List.{drop_at, map-id, take_at}
use Rattle.std.proofs.lemmas.List.Elements.{All-head, All-push, All-tail}
use Rattle.std.specs.List.{flat_map}
use Rattle.tabled_base.specs.Stored.{in_rows}
use Rattle.tabled_value.specs.Fields.{CellsAdded}

-- ---- rows that are put into one list, and cut again

-- the cells of rows, one row after another
abbrev cells_of : List (List (List ℕ)) → List (List ℕ)
cells_of rows = flat_map (λ row. row) rows

cells_long : (width : ℕ) (rows : List (List (List ℕ))) → All (λ row. length row ≡ width) rows → length (cells_of rows) ≡ length rows * width
cells_long width [] h = sym (zero-mul width)
cells_long width (row ∷ rows) h =
    let own = All-head (λ r. length r ≡ width) row rows h in
    let rest = cells_long width rows (All-tail (λ r. length r ≡ width) row rows h) in
    let more = suc-mul (length rows) width in
    omega (arith, own, rest, more, length-append row (cells_of rows))

cells_cut : (width : ℕ) (rows : List (List (List ℕ))) → All (λ row. length row ≡ width) rows → in_rows (length rows) width (cells_of rows) ≡ rows
cells_cut width [] h = refl
cells_cut width (row ∷ rows) h =
    let own = All-head (λ r. length r ≡ width) row rows h in
    ap (λ r. r ∷ in_rows (length rows) width (drop width (row ++ cells_of rows))) (take_at row (cells_of rows) width own)
    ∙ ap (λ r. row ∷ in_rows (length rows) width r) (drop_at row (cells_of rows) width own)
    ∙ ap (λ r. row ∷ r) (cells_cut width rows (All-tail (λ r. length r ≡ width) row rows h))

-- ---- the cells of values

pub none_added : {V : Type 0} (shows : V → List (List ℕ) → Type 0) (width : ℕ) (before : List (List ℕ)) → ValuesAdded shows width [] 0 before before
none_added shows width before = record {
  rows = [];
  each = tt;
  lengths = All-nil (λ r. length r ≡ width);
  number = refl;
  whole = sym (append-nil before);
}

-- the cells of the next value
pub values_added : {V : Type 0} (shows : V → List (List ℕ) → Type 0) (width count more : ℕ) (values : List V)
    (before old new : List (List ℕ)) (value : V) → ValuesAdded shows width values count before old → CellsAdded (shows value) old new
    → length new ≡ length old + width → more ≡ count + 1 → ValuesAdded shows width (values ++ value ∷ []) more before new
values_added shows width count more values before old new value h k n m =
    let texts = k.texts in
    let own : length texts ≡ width = omega (arith, n, ap length k.whole, length-append old texts) in
    record {
      rows = h.rows ++ texts ∷ [];
      each = all_zipped_more shows values h.rows value texts h.each k.shown;
      lengths = All-push (λ r. length r ≡ width) h.rows texts h.lengths own;
      number = omega (arith, h.number, m, length-append h.rows (texts ∷ []));
      whole =
          k.whole ∙ ap (λ u. u ++ texts) h.whole ∙ append_assoc before (cells_of h.rows) texts
          ∙ ap (λ u. before ++ u) (sym (flat_map-append (λ row. row) h.rows (texts ∷ []) ∙ ap (λ u. cells_of h.rows ++ u) (append-nil texts)));
    }

-- with no cell before there are the cells of the values alone
pub values_long : {V : Type 0} (shows : V → List (List ℕ) → Type 0) (width count : ℕ) (values : List V)
    (before all : List (List ℕ)) → before ≡ [] → ValuesAdded shows width values count before all → length all ≡ count * width
values_long shows width count values before all e h =
    ap length (h.whole ∙ ap (λ b. b ++ cells_of h.rows) e) ∙ cells_long width h.rows h.lengths ∙ ap (λ n. n * width) h.number

pub values_stand : {V : Type 0} (shows : V → List (List ℕ) → Type 0) (width count : ℕ) (values : List V)
    (before all : List (List ℕ)) → before ≡ [] → ValuesAdded shows width values count before all
    → AllZip shows values (in_rows count width (map (λ t. t) all))
values_stand shows width count values before all e h =
    let cut : in_rows count width (map (λ t. t) all) ≡ h.rows =
    ap (in_rows count width) (map-id all ∙ h.whole ∙ ap (λ b. b ++ cells_of h.rows) e)
    ∙ ap (λ n. in_rows n width (cells_of h.rows)) (sym h.number) ∙ cells_cut width h.rows h.lengths in
    subst (AllZip shows values) (sym cut) h.each

-- the names come first
pub named_long : {V : Type 0} (shows : V → List (List ℕ) → Type 0) (width count more : ℕ) (values : List V)
    (names all : List (List ℕ)) → ValuesAdded shows width values count names all → length names ≡ width → more ≡ count + 1
    → length all ≡ more * width
named_long shows width count more values names all h n m =
    let long = cells_long width h.rows h.lengths in
    let counted = ap (λ k. k * width) h.number in
    let next : suc count * width ≡ count * width + width = suc-mul count width in
    let all_of : more * width ≡ suc count * width = ap (λ k. k * width) (let e : more ≡ suc count = omega (arith, m) in e) in
    omega (arith, ap length h.whole, length-append names (cells_of h.rows), long, counted, next, all_of, n)

pub named_stand : {V : Type 0} (shows : V → List (List ℕ) → Type 0) (width count more : ℕ) (values : List V)
    (names all : List (List ℕ)) (h : ValuesAdded shows width values count names all) → length names ≡ width → more ≡ count + 1
    → in_rows more width (map (λ t. t) all) ≡ names ∷ h.rows
named_stand shows width count more values names all h n m =
    let size : more ≡ suc (length h.rows) = omega (arith, m, h.number) in
    ap (in_rows more width) (map-id all ∙ h.whole)
    ∙ ap (λ k. in_rows k width (names ++ cells_of h.rows)) size
    ∙ ap (λ r. r ∷ in_rows (length h.rows) width (drop width (names ++ cells_of h.rows))) (take_at names (cells_of h.rows) width n)
    ∙ ap (λ r. names ∷ in_rows (length h.rows) width r) (drop_at names (cells_of h.rows) width n)
    ∙ ap (λ r. names ∷ r) (cells_cut width h.rows h.lengths)
