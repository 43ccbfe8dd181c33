use Rattle.tabled_base.proofs.Names.{[], ap, arith, length, replicate, ◌++◌, ◌-◌, ◌∙◌, ◌≡◌}
use Rattle.tabled_base.proofs.builder.lengthen_row.Goals as goal

pub returns-clause-items : goal.returns-clause-items
returns-clause-items c =
    let old = c.args.row.now in
    let same : c.loop-column._column - length old.items ≡ c.args.columns - length old.items = omega (arith, old.ok.0) in
    c.loop-column.invariant.items ∙ ap (λ k. old.items ++ replicate k []) same
