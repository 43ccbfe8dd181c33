-- Cells that are copied before a change, and put back if it fails.
use Rattle.std.specs.Prelude.{◌≡◌, ◌==◌, ◌&&◌, ◌||◌, ◌∷◌, ℕ, Bool, false, List, [], length, nat_lt, string_bytes}
use Rattle.std.specs.List.{All}
use Rattle.tabled_set.specs.CellChanges.{AreChanged}
use Rattle.tabled_set.specs.Common.{Entity, cell_at, columns, covers}
use Rattle.tabled_set.specs.declared.saved_cells.SavedCell.{SavedCell}

-- whether a cell is one of those that were copied
abbrev pub is_saved : List SavedCell → ℕ → ℕ → Bool
is_saved [] row column = false
is_saved (cell ∷ cells) row column = (cell.at.row == row && cell.at.column == column) || is_saved cells row column

-- a copy has the text of its cell
abbrev pub IsCopy : List (List (List ℕ)) → SavedCell → Type 0
IsCopy cells cell = string_bytes cell.text ≡ cell_at cells cell.at.row cell.at.column

abbrev pub AreCopies : List (List (List ℕ)) → List SavedCell → Type 0
AreCopies cells saved = All (IsCopy cells) saved

-- whether a cell of a table is covered by an entity
abbrev pub is_part : Entity → List (List (List ℕ)) → ℕ → ℕ → Bool
is_part entity cells row column = covers entity row column && (nat_lt row (length cells) && nat_lt column (columns cells))

-- the cells of an entity have the texts from before a change again, and the others are as it left them
abbrev pub IsPutBack : Entity → (before left after : List (List (List ℕ))) → Type 0
IsPutBack entity before left after = AreChanged (is_part entity before) (λ row column old new. new ≡ cell_at before row column) left after

-- no cell outside of an entity changes
abbrev pub StaysOutside : Entity → (before after : List (List (List ℕ))) → Type 0
StaysOutside entity before after = AreChanged (covers entity) (λ row column old new. Unit {0}) before after
