use Rattle.tabled_table.proofs.Stream.SameSheet.{like_printed}
use Rattle.tabled_table.proofs.Stream.ToWriters.{begins-of, may-give, prints-stream}
use Rattle.tabled_table.proofs.iter_table.IterTable.fmt.Goals as goal

pub print_stream-requires : goal.print_stream-requires
print_stream-requires g c = may-give (c.iter_rows.ensures.ends c.requires) c.into_iter-rows.ensures.into_iter_gives

pub returns : goal.returns
returns g c =
    let p = c.print_stream.ensures in
    let begun = c.iter_rows.ensures.begins p.0 p.1 (begins-of c.into_iter-rows.ensures.into_iter_gives p.2) in
    record {
      printed = prints-stream p.0 p.1 begun p.3 p.4;
      alike = like_printed c.print_stream.result (prints-stream p.0 p.1 begun p.3 p.4);
    }
