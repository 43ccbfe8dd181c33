use Rattle.tabled_size.proofs.Names.{ap, arith, column_width, length, needed_width, ℕ, ◌+◌, ◌∙◌, ◌≡◌}
use Rattle.tabled_size.proofs.Greatest.{greatest_below, greatest_more}
use Rattle.tabled_config.specs.declared.sides.Indent.{Indent}
use Rattle.tabled_config.specs.declared.sides.Sides.{Sides}
use Rattle.tabled_size.proofs.estimate.column_width.Goals as goal

pub rows-preserved : goal.rows-preserved
rows-preserved g c =
    let f = λ (row : ℕ). needed_width (g.R.ExactRecords.cells c.args.records.now) c.args.config.now row c.args.column in
    let e = greatest_more f c.rows.row in
    let sides = ap (λ (padding : Sides Indent). padding.left.size + padding.right.size) c.get_padding-padding.ensures.style in
    omega (arith, e, sides, c.rows.invariant, c.max-most.ensures, c.in_ok-width.ensures.1, c.in_ok-sides.ensures.1)

pub returns : goal.returns
unfolding column_width
returns g c =
    let cells = g.R.ExactRecords.cells c.args.records.now in
    let f = λ (row : ℕ). needed_width cells c.args.config.now row c.args.column in
    let e : c.rows.row ≡ length cells = omega (arith, c.count_rows-row-end.ensures) in
    c.rows.invariant ∙ ap (greatest_below f) e
