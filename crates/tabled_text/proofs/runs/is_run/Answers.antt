use Rattle.tabled_text.proofs.Names.{arith, cases_lt, drop, false, inl, inr, is_in_range, length, list_all, nat_tests, true, ◌≡◌}
use Rattle.tabled_text.proofs.RunLemmas.{run-all, run-some}
use Rattle.tabled_text.proofs.runs.is_run.Goals as goal

pub returns : goal.returns
returns c =
    let bytes = c.args.bytes.now in
    let end = c.run_end.result in
    let test = is_in_range c.args.first c.args.last in
    elim (cases_lt end (length bytes)) [
      | inl lt ↦
          let not-all : list_all test (drop c.args.from bytes) ≡ false = run-some test bytes c.args.from end c.run_end.ensures.from lt (c.run_end.ensures.stops lt) in
          rw not-all (grind (arith, nat_tests))
      | inr ge ↦
          let all : list_all test (drop c.args.from bytes) ≡ true = run-all test bytes c.args.from end c.run_end.ensures.passed ge in
          let ends = c.run_end.ensures.end in
          rw all (grind (arith, nat_tests))
    ]
