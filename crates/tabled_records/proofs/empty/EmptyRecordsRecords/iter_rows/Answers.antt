use Rattle.tabled_records.proofs.EmptyRuns.{empty_rows}
use Rattle.tabled_records.proofs.empty.EmptyRecordsRecords.iter_rows.Goals as goal

pub returns-clause-gives : goal.returns-clause-gives
returns-clause-gives c cells given = empty_rows _ cells (λ it e. e) (λ row it e. e) given
