use Rattle.tabled_records.proofs.Names.{false, refl, sym, ◌∙◌}
use Rattle.tabled_records.proofs.CutLent.{printable-columns, printable-lines}
use Rattle.tabled_records.proofs.Joining.{told_empty}
use Rattle.tabled_records.proofs.WrappedRows.{wrapped-short}
use Rattle.tabled_records.proofs.wrapped_lent_rows.printable_content.Goals as goal

pub measured-requires-clause-columns : goal.measured-requires-clause-columns
measured-requires-clause-columns c = sym (printable-columns c.args.text.now c.requires)

pub measured-requires-clause-lines : goal.measured-requires-clause-lines
measured-requires-clause-lines c = sym (printable-lines c.args.text.now c.requires)

pub returns-then-bytes-n : goal.returns-then-bytes-n
returns-then-bytes-n c = c.measured.ensures ∙ sym (wrapped-short c.args.n false c.args.text.now c.requires c.if-bytes-n.true)

pub measured-requires-then-n-eq0-clause-columns : goal.measured-requires-then-n-eq0-clause-columns
measured-requires-then-n-eq0-clause-columns c = (told_empty refl).wide
