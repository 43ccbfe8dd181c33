use Rattle.tabled_text.proofs.Names.{arith, cases_lt, inl, inr}
use Rattle.tabled_text.proofs.runs.run_end.Goals as goal

pub returns : goal.returns
returns c =
    let block = c.run_in_block.ensures in
    let run = c.whole.invariant in
    record {
      from = omega (arith, block.bound);
      end = omega (arith, block.bound);
      passed = λ k a b. elim (cases_lt k c.whole.at) [
        | inl before ↦ run.passed k a before
        | inr after ↦ block.passed k (omega (arith, run.end)) b
      ];
      stops = λ l. block.stops (omega arith);
    }
