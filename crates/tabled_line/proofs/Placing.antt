-- The pieces of a cell whose text stands between spaces.
use Rattle.tabled_line.proofs.Names.{List, PlacedText, RowSheet, [], ap, append_assoc, arith, cell_piece, fill, has_bar, length, piece, refl}
use Rattle.tabled_line.proofs.Names.{ℕ, ◌++◌, ◌∙◌, ◌∷◌, ◌≡◌}
use Rattle.tabled_line.specs.PlacedText.{IsPlacedText}

-- spaces and the cell: the spaces, the vertical line and the spaces before the text, the text, and the spaces behind it
pub spaced-parts : (row : RowSheet) (index column : ℕ) (placed : PlacedText) (n : ℕ) → IsPlacedText row index column placed
    → fill 32 n ++ cell_piece row index column
    ≡ (fill 32 n ++ (piece (has_bar row.columns.frame column) row.columns.frame.inner.main ++ fill 32 placed.before)) ++ (placed.text.now ++ fill 32 placed.behind)
unfolding cell_piece
spaced-parts row index column placed n h =
    let bar = piece (has_bar row.columns.frame column) row.columns.frame.inner.main in
    ap (λ u. fill 32 n ++ (bar ++ u)) h.line_is ∙ regroup (fill 32 n) bar (fill 32 placed.before) (placed.text.now ++ fill 32 placed.behind)
  where
    regroup : (a b c d : List ℕ) → a ++ (b ++ (c ++ d)) ≡ (a ++ (b ++ c)) ++ d
    regroup a b c d = simp append_assoc

pub no-text : (text : List ℕ) → length text ≡ 0 → [] ≡ text
no-text [] h = refl
no-text (x ∷ xs) h = absurd (omega (arith, h))
