use Rattle.tabled_records.proofs.Names.{refl}
use Rattle.tabled_records.proofs.Joining.{told_empty}
use Rattle.tabled_records.proofs.joined_records.LentRows.line.Goals as goal

pub returns-in-None-clause-columns : goal.returns-in-None-clause-columns
returns-in-None-clause-columns c = (told_empty refl).wide
