use Rattle.tabled_pool.proofs.Names.{Sends, flat_map, place_text, plan_of, range_with_len}
use Rattle.tabled_pool.proofs.draw.draw_border.Given as goal

abbrev pub invariant-places : goal.invariant-places
invariant-places g l =
    Sends (g.S.TextSink.sent l.initial.sink) (g.S.TextSink.sent l.sink)
    (flat_map (place_text (plan_of l.line.drawing.now) l.line.y) (range_with_len l.x l.at))
