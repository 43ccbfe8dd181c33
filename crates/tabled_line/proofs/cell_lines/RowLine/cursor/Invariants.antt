use Rattle.tabled_line.proofs.Names.{IsAt, fill_above}
use Rattle.tabled_base.specs.Content.{content_text}
use Rattle.tabled_line.proofs.cell_lines.RowLine.cursor.Given as goal

abbrev pub invariant-lines : goal.invariant-lines
invariant-lines l =
    let text = content_text l.cell.content in
    IsAt text (fill_above l.cell.style l.cell.height text) l._index l.cursor
