use Rattle.tabled_records.proofs.EmptyRuns.{cell_of_empty}
use Rattle.tabled_records.proofs.Joining.{told_empty}
use Rattle.tabled_records.proofs.empty.EmptyRecordsPeekableRecords.get_width.Goals as goal

pub returns : goal.returns
returns c = (told_empty (cell_of_empty c.args.self.now.rows c.args.self.now.columns c.args._at.row c.args._at.column)).wide
