use Rattle.std.proofs.Common.{◌≡◌, ◌≤◌, ◌-◌, ◌++◌, map, drop, length}
use Rattle.tabled_base.specs.Cells.{row_texts}
use Rattle.tabled_c.specs.Cells.{in_rows}
use Rattle.tabled_c.proofs.cells.rows_of.Given as goal

abbrev pub invariant-rows : goal.invariant-rows
invariant-rows l = record {
  within : l.start ≤ length l.texts;
  made : row_texts l.made.items ++ in_rows (l.rows - l._row) l.columns (map (λ t. t.now) (drop l.start l.texts))
      ≡ in_rows l.rows l.columns (map (λ t. t.now) l.texts);
}
