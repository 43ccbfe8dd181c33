use Rattle.tabled_compact.proofs.Names.{[], ap, arith, length, sym, ◌<◌, ◌∙◌}
use Rattle.std.proofs.Common.{get_or}
use Rattle.std.proofs.lemmas.List.{get_or-map}
use Rattle.tabled_text.specs.Measure.{text_columns}
use Rattle.tabled_compact.proofs.Widths.{widest_cell-next}
use Rattle.tabled_compact.proofs.sizes.widest_cell.Goals as goal

pub rows-preserved : goal.rows-preserved
rows-preserved g c =
    let inside : c.rows.row-index < length c.args.rows.now = omega arith in
    let text = g.T.CellText.text in
    let row = get_or c.args.rows.now c.rows.row-index [] in
    let here = get_or-map text row c.args.column c.index-row-column.result [] (omega arith) in
    widest_cell-next text c.args.rows.now c.rows.row-index c.args.column c.rows.widest c.width.result
    c.max-widest.result inside c.rows.invariant (c.width.ensures ∙ ap text_columns (sym here)) c.max-widest.ensures
