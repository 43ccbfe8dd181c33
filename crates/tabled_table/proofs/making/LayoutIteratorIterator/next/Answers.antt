use Rattle.tabled_table.proofs.Names.{LayoutIterator, batches_left, refl, ◌∷◌, ◌≡◌}
use Rattle.tabled_table.proofs.Progressions.{next_left, shorter}
use Rattle.tabled_table.proofs.making.LayoutIteratorIterator.next.Goals as goal

pub returns-clause-steps : goal.returns-clause-steps
returns-clause-steps c =
    let b = c.args.self.now in
    let goes = c.if-is_done.ensures.goes refl in
    next_left b.from b.to b.batch b.offset c.saturating_add-self.result goes.0 goes.1 goes.2 c.saturating_add-self.ensures

pub returns-clause-goes : goal.returns-clause-goes
returns-clause-goes c =
    let b = c.args.self.now in
    let goes = c.if-is_done.ensures.goes refl in
    let next : LayoutIterator = record b { offset = c.saturating_add-self.result } in
    let step : batches_left b ≡ b.offset ∷ batches_left next =
    next_left b.from b.to b.batch b.offset c.saturating_add-self.result goes.0 goes.1 goes.2 c.saturating_add-self.ensures in
    record { on = λ _. (tt, tt, shorter (batches_left b) (batches_left next) b.offset step); keeps = tt; rests = λ _. tt }
