use Rattle.tabled_pool.proofs.Names.{append_assoc, lines-further, lines-stopped, map, margin_line, marks_of, refl, replicate, sheet_of, sym}
use Rattle.tabled_pool.proofs.Names.{true, within_margin}
use Rattle.tabled_line.proofs.Leading.{lines-finished, lines-stopped-first, lines-text}
use Rattle.tabled_pool.proofs.table_lines.draw_lines.Goals as goal

pub returns-in_err-draw_margin : goal.returns-in_err-draw_margin
returns-in_err-draw_margin g c =
    lines-text _ _ true _ _
    (lines-stopped-first true _ _ _ _ (rw c.size-width.ensures.width at c.in_err-draw_margin.ensures) c.from_residual.ensures.1 refl)

pub returns-in_err-draw_inner_lines : goal.returns-in_err-draw_inner_lines
returns-in_err-draw_inner_lines g c =
    let m = c.args.margin.now.indent in
    let ms = marks_of c.args.margin.now.colors in
    let w = (sheet_of c.args.lines).width in
    lines-text _ _ true _ _
    (lines-stopped true (replicate m.bottom.size (margin_line m ms ms.bottom m.bottom.fill w))
    _ _ _ (rw c.size-width.ensures.width at c.in_ok-draw_margin.ensures) c.in_err-draw_inner_lines.ensures
    c.from_residual-in_err-draw_inner_lines.ensures.1 refl)

pub returns : goal.returns
returns g c =
    let m = c.args.margin.now.indent in
    let ms = marks_of c.args.margin.now.colors in
    let w = (sheet_of c.args.lines).width in
    lines-text _ _ _ _ _
    (lines-finished _ _ _ _ _ (lines-further (rw c.size-width.ensures.width at c.in_ok-draw_margin.ensures) c.in_ok-draw_inner_lines.ensures refl)
    (rw c.size-width.ensures.width at c.draw_margin-2.ensures)
    (sym (append_assoc (replicate m.top.size (margin_line m ms ms.top m.top.fill w))
    (map (within_margin m ms) (sheet_of c.args.lines).lines)
    (replicate m.bottom.size (margin_line m ms ms.bottom m.bottom.fill w)))))
