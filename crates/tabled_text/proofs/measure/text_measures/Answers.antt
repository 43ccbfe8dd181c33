use Rattle.tabled_text.proofs.Names.{ap, arith, is_in_range, length, list_all, sym, true, ◌∙◌, ◌≡◌}
use Rattle.tabled_text.proofs.LetterBytes.{line-alone, line-columns}
use Rattle.tabled_text.proofs.PlainLines.{plain_line-lines, plain_line-printable, text_columns-plain_line}
use Rattle.tabled_text.proofs.RunLemmas.{run-all}
use Rattle.tabled_text.proofs.measure.text_measures.Goals as goal

printable : (c : goal.Then-run-text) → list_all (is_in_range 0x20 0x7E) c.args.text.now ≡ true
printable c =
    let e = c.as_bytes.ensures.value in
    ap (list_all (is_in_range 0x20 0x7E)) (sym e)
    ∙ run-all (is_in_range 0x20 0x7E) c.as_bytes.result.now 0 c.run_end-run.result c.run_end-run.ensures.passed (omega (arith, ap length e))

pub returns-then-run-text-clause-columns : goal.returns-then-run-text-clause-columns
returns-then-run-text-clause-columns c = c.if-run-text.true ∙ sym (text_columns-plain_line (plain_line-printable c.args.text.now (printable c)))

pub returns-then-run-text-clause-lines : goal.returns-then-run-text-clause-lines
returns-then-run-text-clause-lines c = sym (ap length (plain_line-lines (plain_line-printable c.args.text.now (printable c))))

pub returns-in-Some-clause-columns : goal.returns-in-Some-clause-columns
returns-in-Some-clause-columns c = line-columns c.in-Some.ensures.line

pub returns-in-Some-clause-lines : goal.returns-in-Some-clause-lines
returns-in-Some-clause-lines c = sym (line-alone c.args.text.now c.in-Some.columns c.in-Some.ensures.line)
