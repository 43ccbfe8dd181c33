use Rattle.tabled_line.proofs.Names.{IsCacheOf, LineSends, fill, replicate, ◌≡◌}
use Rattle.tabled_line.proofs.line_printer.LinePrinter.write_margin.Given as goal

abbrev pub invariant-lines : goal.invariant-lines
invariant-lines g l =
    record {
      printed : LineSends (g.S.TextSink.sent l.initial.sink) l.initial.self.begun (g.S.TextSink.sent l.sink) l.self.begun
          (replicate l._i (fill l.fn.side.fill l.width));
      same : l.self.columns ≡ l.initial.self.columns;
      kept : IsCacheOf (g.C.TableColumns.sheet l.self.columns) l.self.kept;
    }
