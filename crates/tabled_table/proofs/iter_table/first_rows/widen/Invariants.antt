use Rattle.tabled_table.proofs.Names.{[], get_or, length, map, max, text_columns, ℕ, ◌<◌, ◌≡◌, ◌≤◌}
use Rattle.tabled_table.proofs.iter_table.first_rows.widen.Given as goal

abbrev pub invariant-cells : goal.invariant-cells
invariant-cells g l = record {
  done : (k : ℕ) → k < l.column → get_or l.contents.items k 0
      ≡ max (get_or l.initial.contents.items k 0) (text_columns (get_or (map g.C.CellText.text l.cells) k []));
  kept : (k : ℕ) → l.column ≤ k → get_or l.contents.items k 0 ≡ get_or l.initial.contents.items k 0;
  wide : l.column ≤ length l.contents.items;
}
