use Rattle.tabled_table.proofs.Names.{subst, sym}
use Rattle.tabled_records.proofs.TriedRows.{before-error}
use Rattle.tabled_records.specs.RowsBeforeError.{AreBeforeError}
use Rattle.tabled_table.proofs.Stream.SameSheet.{like_printed}
use Rattle.tabled_table.proofs.Stream.ToWriters.{prints-stream}
use Rattle.tabled_table.proofs.iter_table.try_rows.IterTable+TryRows+I+E.try_fmt.Goals as goal

pub returns : goal.returns
returns g c =
    let p = c.print_stream-printed.ensures in
    let rows = g.I.Iterator in
    let cells = g.R in
    let begun = subst (λ read. AreBeforeError rows.next_gives cells.IntoIterator.into_iter_gives cells.IntoIter.Iterator.next_gives
    c.args.self.records read p.0 p.1) (sym c.finish.ensures)
    (before-error rows.next_gives c.args.self.records c.print_stream-printed.new.rows p.0 p.1 p.2) in
    record {
      printed = prints-stream p.0 p.1 begun p.3 p.4;
      alike = like_printed c.print_stream-printed.result (prints-stream p.0 p.1 begun p.3 p.4);
    }
