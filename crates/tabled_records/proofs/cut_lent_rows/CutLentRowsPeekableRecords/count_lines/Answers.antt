use Rattle.tabled_records.proofs.Names.{None, ap, cell_at, get_or, length, lines_of, sym, ◌∙◌}
use Rattle.tabled_records.proofs.CutLent.{cell-cut, cell-one_line, inside-cut}
use Rattle.tabled_records.proofs.cut_lent_rows.CutLentRowsPeekableRecords.count_lines.Goals as goal

pub returns : goal.returns
returns c =
    let r = c.self.inside in
    let at = c.args.arg2 in
    let inside = inside-cut r.widths.items r.rows.now c.self.view_is c.requires in
    sym (cell-one_line (get_or r.widths.items at.column None) (cell_at r.rows.now at.row at.column) (c.are_texts.ensures.utf8 at.row at.column)
    (c.are_texts.ensures.lines at.row at.column))
    ∙ ap (λ text. length (lines_of text)) (cell-cut r.widths.items r.rows.now at.row at.column c.self.view_is inside.row_in)
