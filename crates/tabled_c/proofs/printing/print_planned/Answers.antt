use Rattle.std.proofs.Common.{subst, sym}
use Rattle.tabled_config.specs.declared.spanned.SpannedConfig.{SpannedConfig}
use Rattle.tabled.specs.Planned.{measured}
use Rattle.tabled.specs.Rendered.{IsReadyOf}
use Rattle.tabled.proofs.Names.{effective, estimated, is_stored, not}
use Rattle.tabled.proofs.RenderedTables.{prints_made}
use Rattle.tabled_c.proofs.printing.print_planned.Goals as goal

pub returns : goal.returns
returns g c =
    let sizes = c.narrow.new.sizes in
    let rows = c.narrow.new.rows in
    let config = c.as_ref.result.now in
    let whole = estimated c.args.rows c.args.settings.config in
    let made = subst (λ (k : SpannedConfig). IsReadyOf (measured c.args.plan) whole (effective rows k sizes)) (sym c.as_ref.ensures) c.in_ok-narrow.ensures.made in
    prints_made (measured c.args.plan) whole (not (is_stored sizes)) (effective rows config sizes) (g.S.TextSink.sent c.args.sink.now)
    c.print_standing.result (g.S.TextSink.sent c.print_standing.new.sink) made c.print_standing.ensures
