use Rattle.tabled_pool.proofs.Names.{LineSends, map, marks_of, sheet_of, take, within_margin, ◌-◌}
use Rattle.tabled_pool.specs.TableLines.{IsSwept}
use Rattle.tabled_pool.proofs.table_lines.draw_inner_lines.Given as goal

abbrev pub invariant-lines : goal.invariant-lines
invariant-lines g l = record {
  sent : LineSends (g.S.TextSink.sent l.initial.sink) l.initial.begun (g.S.TextSink.sent l.sink) l.begun
      (map (within_margin l.margin.indent (marks_of l.margin.colors)) (take l.y (sheet_of l.fn.lines).lines));
  swept : IsSwept l.fn.lines (l.y - 1) l.sweep;
}
