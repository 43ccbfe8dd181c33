use Rattle.tabled_grid.proofs.Names.{All, All-from_get_or, IsPlain, [], arith, refl, slice_index_or}
use Rattle.tabled_grid.proofs.PlainTests.{below_next, said_no}
use Rattle.tabled_grid.proofs.plain.is_plain_records.Goals as goal

pub returns-then-not-is_plain_row : goal.returns-then-not-is_plain_row
returns-then-not-is_plain_row g c =
    let within = rw c.count_rows-row-end.ensures at c.rows-test.true in
    said_no c.is_plain_row.result c.if-not-is_plain_row.true (λ all. c.is_plain_row.ensures.1 (all c.rows.row [] (omega arith)))

pub rows-preserved : goal.rows-preserved
rows-preserved g c =
    let cells = g.R.ExactRecords.cells c.args.records.now in
    below_next (λ r. All IsPlain (slice_index_or cells r [])) c.rows.row c.rows.invariant
    (c.is_plain_row.ensures.0 c.if-not-is_plain_row.false)

pub returns : goal.returns
returns g c =
    let cells = g.R.ExactRecords.cells c.args.records.now in
    let counted = c.count_rows-row-end.ensures in
    let done = c.rows-test.false in
    (λ e. All-from_get_or (All IsPlain) cells [] (λ r l. c.rows.invariant r (omega arith)), λ all. refl)
