use Rattle.tabled_size.proofs.Names.{ap, arith, columns, needed_height, row_height, ◌+◌, ◌∙◌, ◌≡◌}
use Rattle.tabled_size.proofs.Greatest.{greatest_below, greatest_more}
use Rattle.tabled_config.specs.declared.sides.Indent.{Indent}
use Rattle.tabled_config.specs.declared.sides.Sides.{Sides}
use Rattle.tabled_size.proofs.estimate.row_height.Goals as goal

pub columns-preserved : goal.columns-preserved
columns-preserved g c =
    let f = needed_height (g.R.ExactRecords.cells c.args.records.now) c.args.config.now c.args.row in
    let e = greatest_more f c.columns.column in
    let style = c.at-padding.ensures ∙ c.paddings_in-paddings.ensures c.columns.column in
    omega (
      arith,
      e,
      c.columns.invariant,
      c.max-most.ensures,
      c.in_ok-height.ensures.1,
      c.in_ok-sides.ensures.1,
      ap (λ (padding : Sides Indent). padding.top.size + padding.bottom.size) style,
    )

pub returns : goal.returns
unfolding row_height
returns g c =
    let cells = g.R.ExactRecords.cells c.args.records.now in
    let f = needed_height cells c.args.config.now c.args.row in
    let e : c.columns.column ≡ columns cells = omega (arith, c.count_columns-column-end.ensures.columns) in
    c.columns.invariant ∙ ap (greatest_below f) e
