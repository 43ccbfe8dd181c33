use Rattle.tabled_pool.proofs.Names.{ap, arith, drawn_line, flat_map, further, place_text, plan_of, range_with_len, stopped, ◌∙◌}
use Rattle.tabled_line.proofs.Sending.{sends-along, sends-none}
use Rattle.tabled_pool.proofs.Runs.{at_end, places_more, places_rest}
use Rattle.tabled_pool.proofs.draw.draw_line.Goals as goal

pub runs-init : goal.runs-init
runs-init g c = record { sent = rw c.start-at.ensures.first (sends-none _); at = c.start-at.ensures.at }

pub returns-in_err-draw_run : goal.returns-in_err-draw_run
unfolding drawn_line
returns-in_err-draw_run g c =
    let line = c.args.line.now in
    stopped _ _ _ c.runs.invariant.sent c.in_err-draw_run.ensures c.from_residual.ensures.1
    (places_rest (place_text (plan_of line.drawing.now) line.y) c.runs.at.x _ _ c.next_run-run.ensures.run.within)

pub runs-preserved : goal.runs-preserved
runs-preserved g c =
    let line = c.args.line.now in
    let f = place_text (plan_of line.drawing.now) line.y in
    record {
      sent = further c.runs.invariant.sent c.in_ok-draw_run.ensures
          (ap (λ n. flat_map f (range_with_len 0 n)) c.next_run-run.ensures.behind ∙ places_more f c.runs.at.x _);
      at = c.next_run-run.ensures.next;
    }

pub runs-smaller : goal.runs-smaller
runs-smaller g c =
    let run = c.next_run-run.ensures.run in omega (arith, run.some, run.within, c.next_run-run.ensures.behind)

pub returns : goal.returns
unfolding drawn_line
returns g c =
    let line = c.args.line.now in
    let end = at_end (plan_of line.drawing.now) line.y c.runs.at line.drawing.now.tiles line.inside c.runs.invariant.at c.in_default.is in
    sends-along _ _ _ _ c.runs.invariant.sent
    (ap (λ n. flat_map (place_text (plan_of line.drawing.now) line.y) (range_with_len 0 n)) end)
