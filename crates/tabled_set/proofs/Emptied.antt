-- Cells without a text: as many, and their columns are no wider than the padding asks for.
use Rattle.tabled_set.proofs.Names.{List, SpannedConfig, [], ap, arith, at, cell_at, columns, emptied, estimated_widths, is_empty, length}
use Rattle.tabled_set.proofs.Names.{minimums, needed_width, refl, replicate, side_padding, text_columns, widths_length, ℕ, ◌<◌, ◌==◌, ◌||◌}
use Rattle.tabled_set.proofs.Names.{◌∙◌, ◌∷◌, ◌≡◌, ◌≤◌}
use Rattle.std.proofs.lemmas.List.{length-replicate}
use Rattle.tabled_records.proofs.EmptyRuns.{cell_of_empty}
use Rattle.tabled_size.specs.Estimates.{column_width}
use Rattle.tabled_size.proofs.Passing.{width_at, width_ge}
use Rattle.tabled_size.proofs.ShrunkTotals.{estimated_widths-le}
use Rattle.tabled_text.proofs.StayLemmas.{StaysWithin-none, text_columns-stays}

pub emptied-rows : (cells : List (List (List ℕ))) → length (emptied cells) ≡ length cells
emptied-rows cells = length-replicate (length cells) (replicate (columns cells) [])

pub emptied-columns : (cells : List (List (List ℕ))) → columns (emptied cells) ≡ columns cells
emptied-columns [] = refl
emptied-columns (row ∷ rows) = length-replicate (length row) []

pub emptied-cell : (cells : List (List (List ℕ))) (row column : ℕ) → cell_at (emptied cells) row column ≡ []
emptied-cell cells row column = cell_of_empty (length cells) (columns cells) row column

pub emptied-empty : (cells : List (List (List ℕ))) → is_empty (emptied cells) ≡ is_empty cells
emptied-empty cells = ap (λ n. (n == 0) || (columns (emptied cells) == 0)) (emptied-rows cells) ∙ ap (λ n. (length cells == 0) || (n == 0)) (emptied-columns cells)

emptied-narrow : (cells : List (List (List ℕ))) (row column : ℕ) → text_columns (cell_at (emptied cells) row column) ≡ 0
emptied-narrow cells row column =
    let none : text_columns [] ≤ 0 = text_columns-stays {n = 0} {text = []} StaysWithin-none in
    let same = ap text_columns (emptied-cell cells row column) in
    omega arith

pub minimums-length : (cells : List (List (List ℕ))) (config : SpannedConfig) → length (minimums cells config) ≡ columns cells
minimums-length cells config = widths_length (emptied cells) config ∙ emptied-columns cells

-- a minimum is at most the estimated width
pub minimums-le : (cells : List (List (List ℕ))) (config : SpannedConfig) (i : ℕ) → at (minimums cells config) i ≤ at (estimated_widths cells config) i
minimums-le cells config =
    estimated_widths-le cells (emptied cells) config (emptied-rows cells) (emptied-columns cells)
    (λ row column. let none = emptied-narrow cells row column in omega arith)

-- and no cell has more padding on its sides
pub side_padding-le : (cells : List (List (List ℕ))) (config : SpannedConfig) (row column : ℕ) → row < length cells → column < columns cells → side_padding config row column ≤ at (minimums cells config) column
side_padding-le cells config row column r c =
    let rows = emptied-rows cells in
    let count = emptied-columns cells in
    let a = width_at (emptied cells) config column (omega arith) in
    let b : needed_width (emptied cells) config row column ≤ column_width (emptied cells) config column = width_ge (emptied cells) config row column (omega arith) in
    let none = emptied-narrow cells row column in
    omega arith
