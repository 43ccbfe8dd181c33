use Rattle.tabled_extended.proofs.Names.{AllZip, IsTruncated, arith, length, row_texts, ◌<◌}
use Rattle.tabled_extended.specs.Truncated.{StopsInRecord}
use Rattle.tabled_extended.proofs.Stopped.{row_texts-long, row_texts-read, row_texts-set, so_far-all, so_far-long, so_far-more, so_far-none}
use Rattle.tabled_extended.proofs.Stopped.{so_far-stopped}
use Rattle.tabled_extended.proofs.CutOff.{err-with}
use Rattle.tabled_extended.proofs.truncating.truncate_rows.Goals as goal

pub rows-init : goal.rows-init
rows-init c = so_far-none (AllZip (IsTruncated c.args.suffix.now c.args.width_limit)) (row_texts c.args.rows.now.items)

pub rows-preserved : goal.rows-preserved
rows-preserved c =
    let rows = c.rows.rows.items in
    let long = so_far-long c.rows.invariant in
    let many = row_texts-long rows in
    let was = row_texts-long c.args.rows.now.items in
    let there : c.rows.index < length rows = omega (arith, long, many, was) in
    so_far-more c.rows.invariant (omega (arith, there, many))
    (row_texts-read rows c.rows.index c.index_mut.result.now there c.index_mut.ensures.value)
    c.in_ok-truncate_row.ensures.ok (row_texts-set rows c.rows.index c.truncate_row.new.row)

pub returns-in_err-truncate_row-clause-err : goal.returns-in_err-truncate_row-clause-err
returns-in_err-truncate_row-clause-err c =
    let rows = c.rows.rows.items in
    let long = so_far-long c.rows.invariant in
    let many = row_texts-long rows in
    let was = row_texts-long c.args.rows.now.items in
    let there : c.rows.index < length rows = omega (arith, long, many, was) in
    let stop = so_far-stopped (StopsInRecord c.args.suffix.now c.args.width_limit) c.rows.invariant (omega (arith, there, many))
    (row_texts-read rows c.rows.index c.index_mut.result.now there c.index_mut.ensures.value)
    c.in_err-truncate_row.ensures.err (row_texts-set rows c.rows.index c.truncate_row.new.row) in
    err-with _ stop c.from_residual.ensures.0

pub returns-clause-ok : goal.returns-clause-ok
returns-clause-ok c =
    let long = so_far-long c.rows.invariant in
    let many = row_texts-long c.rows.rows.items in
    let was = row_texts-long c.args.rows.now.items in
    so_far-all c.rows.invariant (omega (arith, long, many, was))
