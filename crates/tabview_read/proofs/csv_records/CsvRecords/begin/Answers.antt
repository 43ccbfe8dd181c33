use Rattle.std.proofs.Common.{ap, option_map, refl, ◌∙◌}
use Rattle.csv.specs.Reading.{strip_bom}
use Rattle.tabview_read.proofs.CsvRecords.{csv-begins}
use Rattle.tabview_read.proofs.csv_records.CsvRecords.begin.Goals as goal

pub returns : goal.returns
returns g c =
    csv-begins g.R.Read.remaining c.args.options c.args.input (record { alloc = c.args.alloc; reader = c.from_reader.result; names = _; bytes = c.then.result })
    c.new-builder.result c.has_headers.result.now c.flexible.result.now c.delimiter.result.now c.new-builder.ensures.config c.new-builder.ensures.trim c.has_headers.ensures c.flexible.ensures c.delimiter.ensures
    c.from_reader.ensures.config c.from_reader.ensures.has_headers c.from_reader.ensures.flexible c.from_reader.ensures.trim c.from_reader.ensures.headers c.from_reader.ensures.expected c.from_reader.ensures.state
    (c.from_reader.ensures.source ∙ ap (λ input. option_map strip_bom (g.R.Read.remaining input)) c.new.ensures)
    c.then.ensures.variant refl
