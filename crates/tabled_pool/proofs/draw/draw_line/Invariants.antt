use Rattle.tabled_pool.proofs.Names.{IsAt, Sends, flat_map, place_text, plan_of, range_with_len, ◌-◌}
use Rattle.tabled_pool.proofs.draw.draw_line.Given as goal

abbrev pub invariant-runs : goal.invariant-runs
invariant-runs g l = record {
  sent : Sends (g.S.TextSink.sent l.initial.sink) (g.S.TextSink.sent l.sink)
      (flat_map (place_text (plan_of l.line.drawing.now) l.line.y) (range_with_len 0 l.at.x));
  at : IsAt (plan_of l.line.drawing.now) l.line.y l.at;
}

abbrev pub decreases-runs : goal.decreases-runs
decreases-runs g l = l.line.drawing.now.width - l.at.x
