use Rattle.tabled_grid.proofs.Names.{Some, ap, arith, columns, estimated_widths, length, slice_index, subst, sym, widths_length, ◌∙◌, ◌≡◌}
use Rattle.tabled_grid.proofs.Names.{◌≤◌}
use Rattle.tabled_grid.proofs.EffectiveSizes.{filled_heights, held_enough, sized_enough}
use Rattle.tabled_grid.proofs.effective.with_heights.Goals as goal

pub returns : goal.returns
returns g c =
    let cells = g.R.ExactRecords.cells c.args.records.now in
    let config = c.args.config.now in
    let stored = c.args.stored.now in
    let list = c.in_ok-widths.widths.now in
    let some = sym c.in_ok-widths.ensures in
    let needed : c.deref.result.now ≡ estimated_widths cells config = c.deref.ensures.value ∙ c.in-Ok.ensures.widths in
    let count : length c.deref.result.now ≡ columns cells = ap length needed ∙ widths_length cells config in
    let enough = c.are_enough.ensures.enough c.if-not-are_enough.false in (
      filled_heights cells config stored c.set_heights.new.self list some c.requires
          (c.set_heights.ensures.widths ∙ c.in-Ok-clone.ensures.widths)
          (c.set_heights.ensures.heights ∙ ap Some c.in-Ok.ensures.heights),
      sized_enough cells config stored list some c.requires (omega (arith, count, enough)),
      held_enough cells config stored list some
          (λ k l. subst (λ xs. slice_index xs k ≤ slice_index list k) needed
          (c.are_enough.ensures.each c.if-not-are_enough.false k (omega (arith, count, l)))),
    )
