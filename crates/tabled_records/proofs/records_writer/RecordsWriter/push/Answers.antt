use Rattle.tabled_records.proofs.Names.{ap, ◌∙◌}
use Rattle.tabled_records.proofs.Rows.{text-written}
use Rattle.tabled_records.specs.Joined.{with_text}
use Rattle.tabled_records.proofs.records_writer.RecordsWriter.push.Goals as goal

pub returns-clause-ok : goal.returns-clause-ok
returns-clause-ok c =
    let w = c.self.inside in
    text-written w.texts c.push.new.self w.rows w.ended c.args.text.now c.self.invariant c.in_ok-push.ensures.ok
    ∙ ap (λ w. with_text w c.args.text.now) c.self.view_is
