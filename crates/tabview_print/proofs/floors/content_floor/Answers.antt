use Rattle.std.proofs.Common.{ap, arith, length, max, ℕ, ◌∙◌, ◌≡◌}
use Rattle.tabled_base.specs.Cells.{cell_at}
use Rattle.tabled_size.proofs.Greatest.{greatest_below, greatest_more}
use Rattle.tabview_print.specs.Floors.{cell_floor, content_floor, is_name}
use Rattle.tabview_print.proofs.floors.content_floor.Goals as goal

pub loop-row-preserved : goal.loop-row-preserved
loop-row-preserved g c =
    let f = λ (row : ℕ). cell_floor (is_name c.args.has_header row) c.args.keeps (cell_at (g.R.ExactRecords.cells c.args.records.now) row c.args.column) in
    let e = greatest_more f c.loop-row.row in
    let here : c.cell_floor.result ≡ f c.loop-row.row =
    c.cell_floor.ensures ∙ ap (λ text. cell_floor c.is_name-name.result c.args.keeps text) c.get_measured-columns.ensures.text
    ∙ ap (λ name. cell_floor name c.args.keeps (cell_at (g.R.ExactRecords.cells c.args.records.now) c.loop-row.row c.args.column)) c.is_name-name.ensures in
    omega (arith, e, here, c.loop-row.invariant, c.max-most.ensures)

pub returns : goal.returns
unfolding content_floor
returns g c =
    let cells = g.R.ExactRecords.cells c.args.records.now in
    let f = λ (row : ℕ). cell_floor (is_name c.args.has_header row) c.args.keeps (cell_at cells row c.args.column) in
    let e : c.loop-row.row ≡ length cells = omega (arith, c.count_rows-row-end.ensures) in
    c.loop-row.invariant ∙ ap (λ n. max 1 (greatest_below f n)) e
