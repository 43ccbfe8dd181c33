use Rattle.tabled_table.proofs.PrintedLines.{apart_is_plain, cells_shown, has_lines}
use Rattle.tabled_table.proofs.laws.printed_tables.Goals as goal

pub returns-clause-some : goal.returns-clause-some
returns-clause-some c = has_lines

pub returns-clause-cells : goal.returns-clause-cells
returns-clause-cells c = cells_shown

pub returns-clause-apart : goal.returns-clause-apart
returns-clause-apart c = apart_is_plain
