use Rattle.tabled_table.proofs.NewTables.{new_is_apart, new_is_plain}
use Rattle.tabled_table.proofs.laws.new_tables.Goals as goal

pub returns-clause-plain : goal.returns-clause-plain
returns-clause-plain c = new_is_plain

pub returns-clause-apart : goal.returns-clause-apart
returns-clause-apart c = new_is_apart
