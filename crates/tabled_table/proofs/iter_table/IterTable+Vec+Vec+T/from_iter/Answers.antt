use Rattle.tabled_table.proofs.Names.{map-append, reads-both}
use Rattle.tabled_records.proofs.RowsRead.{reads-none}
use Rattle.tabled_table.proofs.Stream.ToWriters.{may-give}
use Rattle.tabled_table.proofs.iter_table.IterTable+Vec+Vec+T.from_iter.Goals as goal

pub rows-init : goal.rows-init
rows-init g c = record {
  reads = rw c.new-records.ensures.items (reads-none c.into_iter-rows.result);
  may = may-give (c.iter_rows.ensures.ends c.requires) c.into_iter-rows.ensures.into_iter_gives;
}

pub rows-preserved : goal.rows-preserved
rows-preserved g c =
    let e = c.in_ok-push.ensures.items in
    let ok = rw c.in-Some.is at c.in_ok-cells.ensures.ok in
    let goes = rw c.in-Some.is at c.in_ok-cells.ensures.goes in
    record { reads = rw (e, map-append) (reads-both c.rows.invariant.reads ok); may = goes.0 }
