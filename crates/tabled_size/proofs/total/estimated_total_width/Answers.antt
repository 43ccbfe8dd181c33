use Rattle.tabled_size.proofs.Names.{MatchOption, ap, arith, columns, estimated_widths, framed_width, inl, inr, slice_index, subst, sum_below, sym}
use Rattle.tabled_size.proofs.Names.{ℕ, ◌<◌, ◌∙◌, ◌≡◌, ◌≤◌}
use Rattle.tabled_size.proofs.EstimatedTotals.{framed-width-total, none-width, sum-more, sum-passes}
use Rattle.tabled_size.proofs.Passing.{width_at}
use Rattle.tabled_size.proofs.total.estimated_total_width.Goals as goal

pub returns-in_err-column_width : goal.returns-in_err-column_width
returns-in_err-column_width g c =
    let cells = g.R.ExactRecords.cells c.args.records.now in
    let config = c.args.config.now in
    none-width cells config (sym c.is_empty.ensures.value ∙ c.if-is_empty.false) _ c.from_residual.ensures (inl c.in_err-column_width.ensures)

pub returns-in_err-total : goal.returns-in_err-total
returns-in_err-total g c =
    let cells = g.R.ExactRecords.cells c.args.records.now in
    let config = c.args.config.now in
    let lt : c.columns.column < columns cells = omega (arith, c.columns-test.true, c.count_columns-columns.ensures.columns) in
    let past = sum-passes (slice_index (estimated_widths cells config)) c.columns.column (columns cells) c.columns.total c.in_ok-column_width.field-0 lt
    c.columns.invariant (c.in_ok-column_width.ensures ∙ sym (width_at cells config c.columns.column lt)) c.in_err-total.ensures in
    none-width cells config (sym c.is_empty.ensures.value ∙ c.if-is_empty.false) _ c.from_residual-in_err-total.ensures (inr past)

pub columns-preserved : goal.columns-preserved
columns-preserved g c =
    let cells = g.R.ExactRecords.cells c.args.records.now in
    let config = c.args.config.now in
    let lt : c.columns.column < columns cells = omega (arith, c.columns-test.true, c.count_columns-columns.ensures.columns) in
    let here = c.in_ok-column_width.ensures ∙ sym (width_at cells config c.columns.column lt) in
    let more = sum-more (slice_index (estimated_widths cells config)) c.columns.column in
    omega (arith, here, more, c.columns.invariant, c.in_ok-total.ensures.1)

pub returns : goal.returns
returns g c =
    let cells = g.R.ExactRecords.cells c.args.records.now in
    let config = c.args.config.now in
    let f = slice_index (estimated_widths cells config) in
    let all : c.columns.column ≡ columns cells = omega (arith, c.columns.auto, c.columns-test.false, c.count_columns-columns.ensures.columns) in
    let same =
    ap (λ k. framed_width config k c.columns.total) c.count_columns-columns.ensures.columns
    ∙ ap (framed_width config (columns cells)) (c.columns.invariant ∙ ap (sum_below f) all)
    ∙ framed-width-total cells config (sym c.is_empty.ensures.value ∙ c.if-is_empty.false) in
    subst (λ (k : ℕ). MatchOption c.framed_width.result (18446744073709551616 ≤ k) (λ n. n ≡ k)) same c.framed_width.ensures
