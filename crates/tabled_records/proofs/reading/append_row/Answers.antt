use Rattle.tabled_records.proofs.ViewRuns.{walked_given}
use Rattle.tabled_records.proofs.reading.append_row.Goals as goal

pub returns-in-Err-clause-err : goal.returns-in-Err-clause-err
returns-in-Err-clause-err g c =
    walked_given c.into_iter-cells.ensures.into_iter_gives c.in-Err.ensures.err c.walk_rest.ensures.walked
