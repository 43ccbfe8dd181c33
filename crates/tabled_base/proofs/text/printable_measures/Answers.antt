use Rattle.tabled_base.proofs.Names.{ap, length, sym}
use Rattle.tabled_base.proofs.text.printable_measures.Goals as goal
use Rattle.tabled_text.proofs.PlainLines.{plain_line-lines, plain_line-printable, text_columns-plain_line}

pub returns-clause-columns : goal.returns-clause-columns
returns-clause-columns c = sym (text_columns-plain_line (plain_line-printable c.args.text.now c.requires))

pub returns-clause-lines : goal.returns-clause-lines
returns-clause-lines c = sym (ap length (plain_line-lines (plain_line-printable c.args.text.now c.requires)))
