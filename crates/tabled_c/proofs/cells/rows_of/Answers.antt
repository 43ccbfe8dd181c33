use Rattle.std.proofs.Common.{arith, map, length, take, drop, ◌-◌, ◌+◌, ◌≡◌, ◌++◌, min, ap, sym, ◌∙◌}
use Rattle.tabled_base.specs.Cells.{row_texts}
use Rattle.tabled_c.specs.Cells.{in_rows}
use Rattle.tabled_c.proofs.CellEnds.{now, rows_more, rows_pushed}
use Rattle.tabled_c.proofs.cells.rows_of.Goals as goal

pub rows-preserved : goal.rows-preserved
rows-preserved c =
    let texts = c.args.texts.now in
    let rows = c.args.rows in
    let start = c.rows.start in
    let end = c.min-end.result in
    let within = c.rows.invariant.within in
    let is : end ≡ min (start + c.args.columns) (length texts) = grind (arith) in
    let first = map now (take (end - start) (drop start texts)) in
    let rest = in_rows (rows - (c.rows._row + 1)) c.args.columns (map now (drop end texts)) in
    let more = rows_more texts start end c.args.columns rows c.rows._row c.rows-test.true within is in
    record {
      within = omega arith;
      made = ap (λ items. row_texts items ++ rest) c.in_ok-push.ensures.items
          ∙ rows_pushed c.rows.made.items c.in_ok-row_of.field-0 first rest (in_rows rows c.args.columns (map now texts)) c.in_ok-row_of.ensures.ok
          (ap (λ later. row_texts c.rows.made.items ++ later) (sym more) ∙ c.rows.invariant.made);
    }
