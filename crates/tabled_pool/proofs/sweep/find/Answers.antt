use Rattle.tabled_pool.proofs.Names.{sym, ◌∙◌}
use Rattle.tabled_pool.proofs.Listed.{found-first}
use Rattle.tabled_pool.proofs.sweep.find.Goals as goal

pub returns-then-contains : goal.returns-then-contains
returns-then-contains c = (
  c.loop-number-test.true,
  found-first c.args.pieces.now c.loop-number.number c.args.x c.args.y _ c.loop-number-test.true
      (sym c.contains.ensures.value ∙ c.if-contains.true) c.loop-number.invariant,
)
