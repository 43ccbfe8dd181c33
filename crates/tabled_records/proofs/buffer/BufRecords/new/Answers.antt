use Rattle.tabled_records.proofs.Names.{false}
use Rattle.tabled_base.specs.Laws.{whole_rows}
use Rattle.tabled_records.proofs.BufferedRuns.{open_begun, whole_begun}
use Rattle.tabled_records.proofs.RowsRead.{reads-begun}
use Rattle.tabled_records.proofs.buffer.BufRecords.new.Goals as goal
use Rattle.tabled_records.proofs.buffer.BufRecords.new.Goals.{then-taken, else-taken}
use Rattle.tabled_records.proofs.Joining.{on-err}

pub take_rows-requires : goal.take_rows-requires
take_rows-requires g c =
    let e = c.iter_rows.ensures.ends c.requires in
    let made = c.into_iter-rows.ensures.into_iter_gives in
    let base = e.all c.into_iter-rows.result made in
    record { can = base.0; ends = base.1; each = e.each c.into_iter-rows.result made }

pub returns-clause-begins : goal.returns-clause-begins
returns-clause-begins g c cells whole b =
    let made = c.into_iter-rows.ensures.into_iter_gives in
    elim c.if-taken.branch [
      | then-taken w ↦ c.iter_rows.ensures.begins cells whole (whole_begun made (rw w.if-taken.true at c.in_ok-taken.ensures.ok) (rw w.rows-is at b))
      | else-taken w ↦ c.iter_rows.ensures.begins cells whole (open_begun made (rw w.if-taken.false at c.in_ok-taken.ensures.ok) (rw w.rows-is at b))
    ]

pub returns-clause-gives : goal.returns-clause-gives
returns-clause-gives g c cells b =
    let made = c.into_iter-rows.ensures.into_iter_gives in
    elim c.if-taken.branch [
      | then-taken w ↦ c.iter_rows.ensures.gives cells (whole_rows (whole_begun made (rw w.if-taken.true at c.in_ok-taken.ensures.ok) (rw w.rows-is at b)))
      | else-taken w ↦ c.iter_rows.ensures.gives cells (whole_rows (open_begun made (rw w.if-taken.false at c.in_ok-taken.ensures.ok) (rw w.rows-is at b)))
    ]

pub returns-in_err-taken-clause-err : goal.returns-in_err-taken-clause-err
returns-in_err-taken-clause-err g c =
    let read = c.in_err-taken.ensures.err in
    on-err c.from_residual.result
    (record {
      rows = read.cells;
      begun = c.iter_rows.ensures.begins read.cells false (reads-begun c.into_iter-rows.ensures.into_iter_gives read.reads);
      some = read.some;
      within = read.within;
    })
