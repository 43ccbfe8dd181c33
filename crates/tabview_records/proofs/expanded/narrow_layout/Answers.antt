use Rattle.std.proofs.Common.{ap, arith, max, min, ◌-◌, ◌/◌, ◌∙◌, ◌≡◌, ◌≤◌}
use Rattle.tabview_records.proofs.RecordFits.{laid-so, nine}
use Rattle.tabview_records.specs.Expanded.{least_width}
use Rattle.tabview_records.specs.Records.{name_columns, value_columns}
use Rattle.tabview_records.proofs.expanded.narrow_layout.Goals as goal

pub returns-clause-ok : goal.returns-clause-ok
returns-clause-ok c =
    let w = c.args.width in
    let n = c.args.name in
    let v = c.args.value in
    let least : least_width n v ≤ w =
    omega (arith, nine, c.if-width-least.false, c.min-least.ensures, c.saturating_add-needed.ensures, c.saturating_add.ensures) in
    let names : c.min-names.result ≡ name_columns w n v = omega (arith, c.min-names.ensures, c.max.ensures, c.saturating_sub.ensures) in
    let values : c.min.result ≡ value_columns w n v = omega (arith, c.min.ensures, names) in
    (least, laid-so c.args.cuts w n v c.min-names.result c.min.result names values)
