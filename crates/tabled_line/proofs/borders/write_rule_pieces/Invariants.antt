use Rattle.tabled_line.proofs.Names.{Sends, flat_map, range_with_len, rule_piece}
use Rattle.tabled_line.proofs.borders.write_rule_pieces.Given as goal

abbrev pub invariant-pieces : goal.invariant-pieces
invariant-pieces g l =
    Sends (g.S.TextSink.sent l.initial.sink) (g.S.TextSink.sent l.sink)
    (flat_map (rule_piece (g.C.TableColumns.sheet l.columns) l.line) (range_with_len 0 l.column))
