use Rattle.tabled_line.proofs.Names.{SendsBut, cell_piece, flat_map, range_with_len}
use Rattle.tabled_line.proofs.spaced_line.write_spaced_cells.Given as goal

abbrev pub invariant-cells : goal.invariant-cells
invariant-cells g l =
    SendsBut (g.S.TextSink.sent l.initial.sink) (g.S.TextSink.sent l.sink) l.behind
    (flat_map (cell_piece (g.R.Row.sheet l.row) l.line.index) (range_with_len 0 l.column))
