use Rattle.tabled_grid.proofs.Names.{LineSends, sheet_columns, false, fill, flat_map, frame, range_with_len, replicate, row_part, ◌++◌, ◌≡◌}
use Rattle.tabled_line.specs.LineCache.{IsCacheOf}
use Rattle.tabled_grid.proofs.print.write_picture.Given as goal

abbrev pub invariant-rows : goal.invariant-rows
invariant-rows g l =
    let top = (frame l.grid.config).margin.top in
    record {
      printed : LineSends (g.S.TextSink.sent l.fn.sink) false (g.S.TextSink.sent l.sink) l.lines.begun
          (replicate top.size (fill top.fill l.whole) ++ flat_map (row_part l.grid) (range_with_len 0 l.row));
      same : l.lines.columns.grid.now ≡ l.grid;
      kept : IsCacheOf (sheet_columns l.lines.columns.grid.now) l.lines.kept;
    }
