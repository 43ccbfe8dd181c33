use Rattle.tabled_compact.proofs.Names.{fitting_width, length, map, range_with_len, take, ◌≡◌}
use Rattle.tabled_compact.proofs.sizes.ArrayArrayCellRows.fitting_widths.Given as goal

abbrev pub invariant-columns : goal.invariant-columns
invariant-columns g l = record {
  sized : length l.widths ≡ g.row.COLUMNS;
  written : take l.column l.widths
      ≡ map (fitting_width (map (map g.T.CellText.text) l.self)) (range_with_len 0 l.column);
}
