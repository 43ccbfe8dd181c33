use Rattle.tabled_table.proofs.Names.{inl, inr, layout_row, lengthened, lines-finished, lines-stopped-first, map, refl, row_lines, sym}
use Rattle.tabled_table.proofs.iter_table.stream.Stream.write_cut_row.Goals as goal

pub returns-in_err-cursors-clause-printed : goal.returns-in_err-cursors-clause-printed
returns-in_err-cursors-clause-printed g c = inl (c.from_residual.ensures.1, refl, refl)

pub returns-in_err-write_rule-clause-printed : goal.returns-in_err-write_rule-clause-printed
returns-in_err-write_rule-clause-printed g c =
    let row = c.args.row.now in
    let layout = row.layout.now in
    inr (lines-stopped-first _ (row_lines (layout_row layout row.height (lengthened layout.count (map g.C.CellText.text row.cells.now)))) _
    c.from_residual-in_err-write_rule.result _ (rw (c.rule.ensures, sym c.requires) at c.in_err-write_rule.ensures.printed)
    c.from_residual-in_err-write_rule.ensures.1 refl)

pub returns-clause-printed : goal.returns-clause-printed
returns-clause-printed g c =
    inr (lines-finished _ _ _ _ c.write_row.result (rw (c.rule.ensures, sym c.requires) at c.in_ok-write_rule.ensures.printed)
    c.write_row.ensures.printed refl)
