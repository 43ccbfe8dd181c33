use Rattle.tabled_table.proofs.PrintedLines.{texts_of_borrowed, texts_of_strings}
use Rattle.tabled_table.proofs.laws.tables_of_strings.Goals as goal

pub returns-clause-owned : goal.returns-clause-owned
returns-clause-owned c = texts_of_strings

pub returns-clause-borrowed : goal.returns-clause-borrowed
returns-clause-borrowed c = texts_of_borrowed
