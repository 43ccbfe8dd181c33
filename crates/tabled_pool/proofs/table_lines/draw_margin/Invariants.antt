use Rattle.tabled_pool.proofs.Names.{LineSends, marks_of, replicate, within_margin}
use Rattle.tabled_pool.specs.TableLines.{content_of}
use Rattle.tabled_pool.proofs.table_lines.draw_margin.Given as goal

abbrev pub invariant-lines : goal.invariant-lines
invariant-lines g l =
    LineSends (g.S.TextSink.sent l.initial.sink) l.initial.begun (g.S.TextSink.sent l.sink) l.begun
    (replicate l._i (within_margin l.margin.indent (marks_of l.margin.colors) (content_of l.content)))
