use Rattle.tabled_table.proofs.Names.{ap, arith, get_or, length, min, widest, ◌<◌, ◌∙◌, ◌≡◌}
use Rattle.tabled_table.proofs.Stream.Measures.{fewer-texts, widest-next}
use Rattle.tabled_table.proofs.iter_table.first_rows.widest_cells.Goals as goal

pub rows-preserved : goal.rows-preserved
rows-preserved g c =
    let within : c.rows.index < length c.args.rows.now = omega (arith, c.rows-test.true, c.min-ahead.ensures, c.len.ensures) in
    λ k h. widest-next g.C.CellText.text c.args.rows.now c.rows.index k c.row.result.now (get_or c.rows.contents.items k 0)
    (get_or c.widen.new.contents.items k 0) within c.row.ensures (c.rows.invariant k h) (c.in_ok-widen.ensures k h)

pub returns : goal.returns
returns g c =
    λ k h. let last : c.rows.index ≡ min c.args.ahead (length c.args.rows.now) = omega (arith, c.min-ahead.ensures, c.len.ensures) in
    rw last at c.rows.invariant k h ∙ ap (λ l. widest l k) (fewer-texts g.C.CellText.text c.args.rows.now c.args.ahead)
