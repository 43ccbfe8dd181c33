use Rattle.tabled_line.proofs.Names.{AreAt, IsCacheOf, LineSends, map, range_with_len, row_line, ◌-◌, ◌≡◌}
use Rattle.tabled_line.proofs.line_printer.LinePrinter.write_lines.Given as goal

abbrev pub invariant-lines : goal.invariant-lines
invariant-lines g l =
    record {
      printed : LineSends (g.S.TextSink.sent l.initial.sink) l.initial.self.begun (g.S.TextSink.sent l.sink) l.self.begun
          (map (row_line (g.R.Row.sheet l.row)) (range_with_len 0 l.index));
      same : l.self.columns ≡ l.initial.self.columns;
      kept : IsCacheOf (g.C.TableColumns.sheet l.self.columns) l.self.kept;
      cursors : AreAt (g.R.Row.sheet l.row) (l.index - 1) l.cursors;
    }
