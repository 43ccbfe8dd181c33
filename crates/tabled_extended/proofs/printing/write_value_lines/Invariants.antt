use Rattle.tabled_extended.proofs.Names.{LineSends, map, take, value_line, zip}
use Rattle.tabled_extended.proofs.printing.write_value_lines.Given as goal

abbrev pub invariant-values : goal.invariant-values
invariant-values g l =
    LineSends (g.S.TextSink.sent l.initial.sink) l.initial.begun (g.S.TextSink.sent l.sink) l.begun
    (map (value_line l.columns) (take l.index (zip l.fields l.values)))
