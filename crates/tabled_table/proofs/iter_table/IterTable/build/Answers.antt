use Rattle.tabled_table.proofs.Names.{ap, rules, ◌∙◌}
use Rattle.tabled_table.proofs.Stream.ToWriters.{prints-written}
use Rattle.tabled_table.proofs.iter_table.IterTable.build.Goals as goal

pub returns : goal.returns
returns g c =
    let a = c.new-sink.result in
    let b = c.fmt-result.new.sink in
    let contents = g.W.Write.contents in
    prints-written _ a.writer.ghost_name b.writer.ghost_name (contents c.args.writer.now) (contents b.writer.now) _
    b.failed_at c.fmt-result.result (λ n. let m = n ∙ c.new-sink.ensures.same_reference in ap contents (search rules))
    (rw (c.new-sink.ensures.unfailed, c.new-sink.ensures.writer) at c.fmt-result.ensures.printed)
