use Rattle.tabview_read.proofs.CsvRecords.{csv_read}
use Rattle.tabview_read.proofs.csv_rows.CsvRowsRows.read.Goals as goal

pub returns : goal.returns
returns g c = csv_read g.R.Read.remaining _ _ c.give.result _ _ c.in_ok-make_ready.ensures c.give.ensures
