use Rattle.std.proofs.Common.{[], refl}
use Rattle.tabview_read.proofs.Lines.{HasLines-more, HasLines-wider}
use Rattle.tabview_read.proofs.sheet.Collector.write_names.Goals as goal

pub returns : goal.returns
returns c = λ w has.
    let found = record c.args.self.now { chosen = c.find.new.self } in
    HasLines-more w [] _ found c.write.new.self (HasLines-wider w [] c.args.self.now found has (record { columns = c.find.ensures.grows; writer = refl; wanted = refl }))
    c.write.ensures.wanted c.write.ensures.columns c.in_ok-write.ensures.texts
