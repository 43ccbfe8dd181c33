use Rattle.tabled_pool.proofs.Names.{ap, plan_of, slice_get, ◌∙◌}
use Rattle.tabled_pool.proofs.TallCursors.{when_some}
use Rattle.tabled_pool.proofs.line_runs.Line.find_tall.Goals as goal

pub returns : goal.returns
returns c = λ p here.
    let line = c.args.self.now in
    let t = plan_of line.drawing.now in
    when_some c.get.result (λ tall known. known.1 p (ap (slice_get t.parts) known.0 ∙ c.in_ok-number.ensures.1 ∙ here))
    (c.get.ensures t line.y line.tall)
