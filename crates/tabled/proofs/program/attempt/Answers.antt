use Rattle.tabled.proofs.Names.{Table, inr, map}
use Rattle.std.specs.Prelude.{string_bytes}
use Rattle.tabled.proofs.Outputs.{failed_by, if_failed}
use Rattle.tabled.proofs.program.attempt.Goals as goal

pub returns-in_err-print_through-clause-failed : goal.returns-in_err-print_through-clause-failed
returns-in_err-print_through-clause-failed g c =
    let e = c.in_err-print_through.field-0.0 in
    let h = c.in_err-print_through.ensures in
    if_failed _ c.from_residual-in_err-print_through.result (Table e) c.from_residual-in_err-print_through.ensures.1
    (inr
    (failed_by g.O.Write.contents (map string_bytes c.args.words.now) _ _ c.args.out.now c.print_through.new.out c.in-Some.plan
    (string_bytes c.in_ok-text.text) h.output e c.in-Some.ensures.spelled c.in_ok-text.ensures.text h.is_output h.puts))
