use Rattle.tabled_pool.proofs.Names.{arith, ◌∙◌}
use Rattle.tabled_pool.proofs.tree.TableValue.inner.Goals as goal

pub lists-preserved : goal.lists-preserved
lists-preserved c =
    let i = c.lists.invariant in
    let o = c.in-Some.ensures in
    record { box = λ g. i.box g ∙ o.box g; sizes = λ g. i.sizes g ∙ o.sizes g; fewer = omega (arith, i.fewer, o.fewer) }
