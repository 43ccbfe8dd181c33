use Rattle.tabled_records.proofs.Names.{[], ap, arith, length, length-append, length-map, map-append, ◌∷◌}
use Rattle.tabled_records.proofs.RowsRead.{reads-both, reads-some}
use Rattle.tabled_records.proofs.reading.take_rows.Goals as goal
use Rattle.tabled_records.proofs.Joining.{on-err}

pub rows-preserved : goal.rows-preserved
rows-preserved g c =
    let e = c.in_ok-push-in-Some.ensures.items in
    let ok = rw c.in-Some.is at c.in_ok-cells.ensures.ok in
    let goes = rw c.in-Some.is at c.in_ok-cells.ensures.goes in
    record {
      reads = rw (e, map-append) (reads-both c.rows.invariant.reads ok);
      may = goes.0;
      within = omega (arith, ap length e, length-append c.rows.taken.items (c.in-Some.cells ∷ []));
    }

pub returns-in_err-cells-clause-err : goal.returns-in_err-cells-clause-err
returns-in_err-cells-clause-err g c =
    let taken = c.rows.taken.items in
    let walked = c.in_err-cells.ensures.err in
    on-err c.from_residual.result
    (reads-some c.args.count c.rows.invariant.reads walked.1 (omega (arith, length-map taken (λ row. row.items), c.len.ensures, c.rows-test.true, c.rows.taken.ok.0)))

pub returns-in_err-push-in-Some-clause-err : goal.returns-in_err-push-in-Some-clause-err
returns-in_err-push-in-Some-clause-err g c =
    let taken = c.rows.taken.items in
    let row = rw c.in-Some.is at c.in_ok-cells.ensures.ok in
    on-err c.from_residual-in_err-push-in-Some.result
    (reads-some c.args.count c.rows.invariant.reads row (omega (arith, length-map taken (λ row. row.items), c.len.ensures, c.rows-test.true, c.rows.taken.ok.0)))
