use Rattle.tabled_priority.proofs.Names.{arith, ramp_count, first_of, last_of}
use Rattle.tabled_priority.proofs.Ramps.{total_amount-le, total_amount-zero}
use Rattle.tabled_priority.proofs.schedule.find_base.Goals as goal

pub loop-place-init : goal.loop-place-init
loop-place-init c =
    let ramps = c.args.ramps.now in
    let z = total_amount-zero (first_of ramps) (last_of ramps) (ramp_count ramps) in
    record {
      below = omega arith;
      enough = c.requires.enough;
      starts = λ i h. absurd (omega arith);
      ends = λ i h. absurd (omega arith);
      fewest = omega arith;
      most = omega arith;
    }

-- each level above the base is the ceiling, or above it, so it takes enough
pub returns-clause-base : goal.returns-clause-base
returns-clause-base c =
    let from = first_of c.args.ramps.now in
    let to = last_of c.args.ramps.now in
    let n = ramp_count c.args.ramps.now in
    let ceiling = c.loop-place.bracket.ceiling in
    let enough = c.loop-place.invariant.enough in
    record {
      below = c.loop-place.invariant.below;
      starts = λ i inside above.
          let le = total_amount-le from to n ceiling (from i) (c.loop-place.invariant.starts i (omega arith) above) in omega arith;
      ends = λ i inside above.
          let le = total_amount-le from to n ceiling (to i) (c.loop-place.invariant.ends i (omega arith) above) in omega arith;
    }
