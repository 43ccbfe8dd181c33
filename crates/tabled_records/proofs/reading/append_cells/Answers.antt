use Rattle.tabled_records.proofs.RowsRead.{may-cells, may-step, reads-one}
use Rattle.tabled_records.proofs.reading.append_cells.Goals as goal
use Rattle.tabled_records.proofs.Joining.{on-err}

pub append_row-requires : goal.append_row-requires
append_row-requires g c = may-cells c.requires c.in-Some.ensures.steps

pub returns-in_ok-append_row-in-Some-clause-ok : goal.returns-in_ok-append_row-in-Some-clause-ok
returns-in_ok-append_row-in-Some-clause-ok g c =
    let e = c.in_ok-append_row-in-Some.ensures.ok in
    (e.0, reads-one c.in-Some.ensures.steps e.1, e.2)

pub returns-in_ok-append_row-in-Some-clause-goes : goal.returns-in_ok-append_row-in-Some-clause-goes
returns-in_ok-append_row-in-Some-clause-goes g c =
    λ _. let on = c.in-Some.ensures.goes.on c.requires.ends in
    (may-step c.requires c.in-Some.ensures.steps on.0 on.1, on.2)

pub returns-in_err-append_row-in-Some-clause-err : goal.returns-in_err-append_row-in-Some-clause-err
returns-in_err-append_row-in-Some-clause-err g c =
    let walked = c.in_err-append_row-in-Some.ensures.err in
    on-err c.from_residual.result (walked.0, reads-one c.in-Some.ensures.steps walked.1)
