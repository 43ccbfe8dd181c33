use Rattle.std.proofs.Common.{arith, rules, ◌≡◌}
use Rattle.std.proofs.lemmas.Grind.{common_steps}
use Rattle.tabview_print.proofs.stream.print_stream.Goals as goal

pub try_fmt-requires : goal.try_fmt-requires
try_fmt-requires g c =
    let changed = c.in-Ok.ensures.ok.changed.0 in
    let e : c.apply.new.self.records ≡ c.args.rows = first_of (search rules, grind (arith, common_steps)) in
    rw e c.requires
