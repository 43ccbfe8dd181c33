use Rattle.tabled_line.proofs.Names.{Sends, cell_piece, flat_map, range_with_len}
use Rattle.tabled_line.proofs.row.write_cells.Given as goal

abbrev pub invariant-cells : goal.invariant-cells
invariant-cells g l =
    Sends (g.S.TextSink.sent l.initial.sink) (g.S.TextSink.sent l.sink)
    (flat_map (cell_piece (g.R.Row.sheet l.row) l.line.index) (range_with_len 0 l.column))
