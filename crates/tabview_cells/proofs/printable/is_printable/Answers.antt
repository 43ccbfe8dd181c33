use Rattle.std.proofs.Common.{arith, inl, inr, length, ◌≡◌, false, true}
use Rattle.std.specs.Int.{is_in_range}
use Rattle.std.proofs.lemmas.Bool.{cases_lt}
use Rattle.std.proofs.lemmas.Bool.Decides.{nat_tests}
use Rattle.tabled_text.proofs.RunLemmas.{run-all, run-some}
use Rattle.tabled_base.specs.Printable.{is_printable}
use Rattle.tabview_cells.proofs.printable.is_printable.Goals as goal

pub returns : goal.returns
returns c =
    let bytes = c.args.bytes.now in
    let end = c.run_end.result in
    elim (cases_lt end (length bytes)) [
      | inl lt ↦
          let some : is_printable bytes ≡ false = run-some (is_in_range 0x20 0x7E) bytes 0 end c.run_end.ensures.from lt (c.run_end.ensures.stops lt) in
          rw some (grind (arith, nat_tests))
      | inr ge ↦
          let all : is_printable bytes ≡ true = run-all (is_in_range 0x20 0x7E) bytes 0 end c.run_end.ensures.passed ge in
          let ends = c.run_end.ensures.end in
          rw all (grind (arith, nat_tests))
    ]
