use Rattle.tabled_priority.proofs.Names.{arith}
use Rattle.tabled_priority.proofs.Givers.{spare_up_to-zero}
use Rattle.tabled_priority.proofs.in_order.find_sizes.Goals as goal

pub loop-place-init : goal.loop-place-init
loop-place-init c =
    let z = spare_up_to-zero c.args.spares.now.values.now c.args.spares.now.mins.now in
    record { below = omega arith; enough = c.requires.enough; outside = λ i h. absurd (omega arith); fewest = omega arith; most = omega arith }
