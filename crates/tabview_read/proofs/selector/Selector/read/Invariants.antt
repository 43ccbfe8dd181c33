use Rattle.std.proofs.Common.{◌≡◌, ℕ, [], List, Option, length}
use Rattle.std.specs.Iterator.{Yields}
use Rattle.tabview_read.specs.Sheets.{HasRows}
use Rattle.tabview_read.specs.declared.row.Row.{Row}
use Rattle.tabview_read.specs.declared.sheet.Wanted.{Wanted}
use Rattle.tabview_read.proofs.selector.Selector.read.Given as goal

abbrev pub invariant-loop-row : goal.invariant-loop-row
invariant-loop-row g l = (w : Wanted) (names : Option (List (List ℕ))) → HasRows w names [] l.initial.self
    → (all : List Row) × Yields g.T.Rows.read_gives l.initial.rows all l.rows × HasRows w names all l.self × (length all ≡ l._row)
