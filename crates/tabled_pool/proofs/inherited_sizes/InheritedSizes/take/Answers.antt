use Rattle.tabled_pool.proofs.Names.{ap, arith, drop, sym, ◌+◌, ◌∙◌, ◌∷◌}
use Rattle.std.proofs.lemmas.List.{drop_more}
use Rattle.tabled_pool.proofs.TakenSizes.{all_taken}
use Rattle.tabled_pool.proofs.inherited_sizes.InheritedSizes.take.Goals as goal

pub returns-then-entry-left-2 : goal.returns-then-entry-left-2
returns-then-entry-left-2 c =
    let entry = c.index-entry.result.now in
    all_taken c.sizes.left c.args.size entry _ _ _ _ _
    (drop_more c.sizes.self.sizes.items c.sizes.self.start entry (omega (arith, c.sizes-test.true, c.len.ensures))
    ∙ ap (λ e. e ∷ drop (c.sizes.self.start + 1) c.sizes.self.sizes.items) (sym c.index-entry.ensures)) c.if-entry-left-2.true c.sizes.invariant.1 c.sizes.invariant.0
