use Rattle.tabled_table.proofs.Names.{sheet}
use Rattle.std.specs.Prelude.{string_bytes}
use Rattle.tabled_table.proofs.Titles.{titled-printable, titled-text}
use Rattle.tabled_table.proofs.table.Table.to_titled_text.Goals as goal

pub returns-clause-ok : goal.returns-clause-ok
returns-clause-ok c =
    titled-text c.args.title (sheet c.args.self.now) (string_bytes c.new-text.result) (string_bytes c.write_titled.new.sink) c.new-text.ensures.bytes
    c.in_ok-write_titled.ensures.printed

pub returns-clause-printable : goal.returns-clause-printable
returns-clause-printable c = titled-printable c.args.title (sheet c.args.self.now) _ _ c.in_ok-write_titled.ensures.printed
