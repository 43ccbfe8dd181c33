use Rattle.std.proofs.Common.{ap, arith, drop, length, sym, ◌+◌, ◌∙◌, ◌≤◌}
use Rattle.std.proofs.lemmas.List.{drop_all}
use Rattle.tabled_config.specs.Options.{colored, with_style}
use Rattle.tabled_config.specs.declared.spanned.SpannedConfig.{SpannedConfig}
use Rattle.tabview_print.proofs.Sides.{sides-more}
use Rattle.tabview_print.specs.Layouts.{with_sides}
use Rattle.tabview_print.proofs.layout.settings.Goals as goal

pub loop-column-preserved : goal.loop-column-preserved
loop-column-preserved c =
    let columns = c.args.columns.now in
    let i = c.loop-column.column in
    ap (λ (k : SpannedConfig). with_sides k (i + 1) (drop (i + 1) columns)) c.in_ok-set_side.ensures.ok
    ∙ sides-more c.loop-column.config i columns c.side_at-side.result c.loop-column-test.true c.side_at-side.ensures
    ∙ c.loop-column.invariant

pub returns-clause-ok : goal.returns-clause-ok
returns-clause-ok c =
    let columns = c.args.columns.now in
    let n = c.loop-column.column in
    let all : length columns ≤ n = omega arith in
    let sides = ap (with_sides c.loop-column.config n) (sym (drop_all n columns all)) ∙ c.loop-column.invariant ∙ ap (λ (k : SpannedConfig). with_sides k 0 columns) c.new_config-config.ensures in
    c.in_ok-change.ensures.ok.1.0 ∙ ap (λ (k : SpannedConfig). colored (with_style k c.args.style)) (c.new-config.ensures ∙ sides)
