-- Rows in which each text is changed for the width of its column: they are as many and as long as
-- before, and each cell is changed for itself.
use Rattle.tabled_records.proofs.Names.{All-map, IsRectangular, List, None, Option, Some, [], ap, arith, cell_at, columns, get_or}
use Rattle.tabled_records.proofs.Names.{length, length-map, refl, suc, sym, zero, ℕ, ◌<◌, ◌∙◌, ◌∷◌, ◌≡◌}
use Rattle.std.proofs.lemmas.List.{get_or-map}
use Rattle.std.proofs.lemmas.List.Elements.{All-weaker}
use Rattle.tabled_base.specs.Cells.{IsInside}
use Rattle.tabled_records.specs.SizedRows.{sized_row, sized_rows, sized_text}

pub length-sized : (change : ℕ → List ℕ → List ℕ) (widths : List (Option ℕ)) (row : List (List ℕ)) → length (sized_row change widths row) ≡ length row
length-sized change [] row = refl
length-sized change (width ∷ widths) [] = refl
length-sized change (width ∷ widths) (text ∷ row) = omega (arith, length-sized change widths row)

-- a change of the empty text leaves it empty
nil-sized : (change : ℕ → List ℕ → List ℕ) → ((n : ℕ) → change n [] ≡ []) → (width : Option ℕ) → [] ≡ sized_text change width []
nil-sized change nil None = refl
nil-sized change nil (Some n) = sym (nil n)

text-sized : (change : ℕ → List ℕ → List ℕ) → ((n : ℕ) → change n [] ≡ []) → (widths : List (Option ℕ)) (row : List (List ℕ)) (i : ℕ)
    → get_or (sized_row change widths row) i [] ≡ sized_text change (get_or widths i None) (get_or row i [])
text-sized change nil [] row i = refl
text-sized change nil (width ∷ widths) [] zero = nil-sized change nil width
text-sized change nil (width ∷ widths) [] (suc i) = nil-sized change nil (get_or widths i None)
text-sized change nil (width ∷ widths) (text ∷ row) zero = refl
text-sized change nil (width ∷ widths) (text ∷ row) (suc i) = text-sized change nil widths row i

pub columns-sized : (change : ℕ → List ℕ → List ℕ) (widths : List (Option ℕ)) (rows : List (List (List ℕ))) → columns (sized_rows change widths rows) ≡ columns rows
columns-sized change widths [] = refl
columns-sized change widths (row ∷ rows) = length-sized change widths row

pub rectangular-sized : (change : ℕ → List ℕ → List ℕ) (widths : List (Option ℕ)) (rows : List (List (List ℕ))) → IsRectangular rows
    → IsRectangular (sized_rows change widths rows)
rectangular-sized change widths rows h =
    All-map (λ row. length row ≡ columns (sized_rows change widths rows)) (sized_row change widths) rows
    (All-weaker (λ row. length row ≡ columns rows) (λ row. length (sized_row change widths row) ≡ columns (sized_rows change widths rows))
    (λ row e. length-sized change widths row ∙ e ∙ sym (columns-sized change widths rows)) rows h)

pub cell-sized : (change : ℕ → List ℕ → List ℕ) → ((n : ℕ) → change n [] ≡ []) → (widths : List (Option ℕ)) (rows : List (List (List ℕ)))
    (row column : ℕ) → row < length rows
    → cell_at (sized_rows change widths rows) row column ≡ sized_text change (get_or widths column None) (cell_at rows row column)
cell-sized change nil widths rows row column l =
    ap (λ cells. get_or cells column []) (get_or-map (sized_row change widths) rows row [] [] l)
    ∙ text-sized change nil widths (get_or rows row []) column

-- a cell of the rows is one of those that are changed
pub inside-sized : (change : ℕ → List ℕ → List ℕ) (widths : List (Option ℕ)) (rows : List (List (List ℕ))) {sized : List (List (List ℕ))}
    {row column : ℕ} → sized_rows change widths rows ≡ sized → IsInside sized row column → IsInside rows row column
inside-sized change widths rows is h = record {
  row_in = omega (arith, h.row_in, ap length is, length-map rows (sized_row change widths));
  column_in = omega (arith, h.column_in, ap columns is, columns-sized change widths rows);
}
