use Rattle.tabled_priority.proofs.Names.{arith}
use Rattle.tabled_priority.proofs.ByLevel.{wanted_by}
use Rattle.tabled_priority.proofs.schedule.amount_by.Goals as goal

pub returns-clause-amount : goal.returns-clause-amount
returns-clause-amount c =
    let fit = c.total_amount.ensures in
    wanted_by c.args.schedule c.args.values.now c.args.mins.now c.args.by c.total_amount.result c.min.result
    (record { values = fit.values_fit; least = fit.mins_fit }) (omega arith) c.requires fit.total c.min.ensures
