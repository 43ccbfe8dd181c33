use Rattle.tabled_size.proofs.Names.{List, MatchOption, SpannedConfig, ap, arith, estimated_heights, framed_height, inl, inr, length}
use Rattle.tabled_size.proofs.Names.{part_height, row_height, rules_at, subst, sum_below, sym, ℕ, ◌+◌, ◌<◌, ◌∙◌, ◌≡◌, ◌≤◌}
use Rattle.tabled_size.proofs.EstimatedTotals.{framed-height-total, none-height, part-passes, sum-more, sum-passes}
use Rattle.tabled_size.proofs.Passing.{height_at}
use Rattle.tabled_size.proofs.total.estimated_total_height.Goals as goal

part : (cells : List (List (List ℕ))) (config : SpannedConfig) (rows row line height : ℕ) → rows ≡ length cells → row < length cells
    → line ≡ rules_at config rows row → height ≡ row_height cells config row
    → line + height ≡ part_height config (length cells) (estimated_heights cells config) row
unfolding part_height
part cells config rows row line height all inside lines tall =
    let at = height_at cells config row inside in
    let rules : rules_at config rows row ≡ rules_at config (length cells) row = ap (λ n. rules_at config n row) all in
    omega arith

pub returns-in_err-row_height : goal.returns-in_err-row_height
returns-in_err-row_height g c =
    let cells = g.R.ExactRecords.cells c.args.records.now in
    let config = c.args.config.now in
    none-height cells config (sym c.is_empty.ensures.value ∙ c.if-is_empty.false) _ c.from_residual.ensures (inl c.in_err-row_height.ensures)

pub returns-in_err-part : goal.returns-in_err-part
returns-in_err-part g c =
    let cells = g.R.ExactRecords.cells c.args.records.now in
    let config = c.args.config.now in
    let lt : c.rows.row < length cells = omega (arith, c.rows-test.true, c.count_rows-rows.ensures) in
    let e = part cells config c.count_rows-rows.result c.rows.row c.rules_above-line.result c.in_ok-row_height.field-0 c.count_rows-rows.ensures lt
    c.rules_above-line.ensures c.in_ok-row_height.ensures in
    let past = part-passes (part_height config (length cells) (estimated_heights cells config)) c.rows.row (length cells) lt
    (omega (arith, e, c.in_err-part.ensures)) in
    none-height cells config (sym c.is_empty.ensures.value ∙ c.if-is_empty.false) _ c.from_residual-in_err-part.ensures (inr past)

pub returns-in_err-total : goal.returns-in_err-total
returns-in_err-total g c =
    let cells = g.R.ExactRecords.cells c.args.records.now in
    let config = c.args.config.now in
    let lt : c.rows.row < length cells = omega (arith, c.rows-test.true, c.count_rows-rows.ensures) in
    let e = part cells config c.count_rows-rows.result c.rows.row c.rules_above-line.result c.in_ok-row_height.field-0 c.count_rows-rows.ensures lt
    c.rules_above-line.ensures c.in_ok-row_height.ensures in
    let past = sum-passes (part_height config (length cells) (estimated_heights cells config)) c.rows.row (length cells)
    c.rows.total c.in_ok-part.part lt c.rows.invariant (c.in_ok-part.ensures.1 ∙ e) c.in_err-total.ensures in
    none-height cells config (sym c.is_empty.ensures.value ∙ c.if-is_empty.false) _ c.from_residual-in_err-total.ensures (inr past)

pub rows-preserved : goal.rows-preserved
rows-preserved g c =
    let cells = g.R.ExactRecords.cells c.args.records.now in
    let config = c.args.config.now in
    let lt : c.rows.row < length cells = omega (arith, c.rows-test.true, c.count_rows-rows.ensures) in
    let e = part cells config c.count_rows-rows.result c.rows.row c.rules_above-line.result c.in_ok-row_height.field-0 c.count_rows-rows.ensures lt
    c.rules_above-line.ensures c.in_ok-row_height.ensures in
    let more = sum-more (part_height config (length cells) (estimated_heights cells config)) c.rows.row in
    omega (arith, e, more, c.rows.invariant, c.in_ok-part.ensures.1, c.in_ok-total.ensures.1)

pub returns : goal.returns
returns g c =
    let cells = g.R.ExactRecords.cells c.args.records.now in
    let config = c.args.config.now in
    let f = part_height config (length cells) (estimated_heights cells config) in
    let all : c.rows.row ≡ length cells = omega (arith, c.rows.auto, c.rows-test.false, c.count_rows-rows.ensures) in
    let same =
    ap (λ k. framed_height config k c.rows.total) c.count_rows-rows.ensures
    ∙ ap (framed_height config (length cells)) (c.rows.invariant ∙ ap (sum_below f) all)
    ∙ framed-height-total cells config (sym c.is_empty.ensures.value ∙ c.if-is_empty.false) in
    subst (λ (k : ℕ). MatchOption c.framed_height.result (18446744073709551616 ≤ k) (λ n. n ≡ k)) same c.framed_height.ensures
