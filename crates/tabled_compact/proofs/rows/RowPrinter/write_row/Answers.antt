use Rattle.tabled_compact.proofs.Names.{Given, Sends, [], ap, arith, length, length-map, map, min, part_front, rules, subst, sym, ◌∙◌, ◌∷◌}
use Rattle.tabled_compact.proofs.Names.{◌≡◌}
use Rattle.std.proofs.Common.{length-append}
use Rattle.tabled_compact.proofs.RowPieces.{begun-step, given-skip, given-step, next-step, part-put, part-stopped}
use Rattle.tabled_compact.proofs.rows.RowPrinter.write_row.Goals.{in-Ok, in-Err}
use Rattle.tabled_compact.proofs.rows.RowPrinter.write_row.Goals as goal

pub cells-init : goal.cells-init
cells-init g c =
    let zero : min 0 c.args.self.now.lines.columns.count ≡ 0 = omega arith in
    record {
      same = c.begin_row-next.ensures.same;
      begun = c.begin_row-next.ensures.begun;
      next = rw zero c.begin_row-next.ensures.first;
      put = rw zero c.begin_row-next.ensures.put;
    }

pub cells-preserved : goal.cells-preserved
cells-preserved g c =
    let lines = c.args.self.now.lines in
    let t = lines.columns in
    let b = lines.begun in
    let text = g.C.Item.CellText.text in
    let xs = c.cells.yielded in
    let x = c.in-Some.cell in
    let a = g.S.TextSink.sent c.args.sink.now in
    let s = g.S.TextSink.sent c.cells.sink in
    let inv = c.cells.invariant in
    let long = length-append xs (x ∷ []) in
    elim c.match-next-2.branch [
      | in-Ok w ↦
          let at : w.in-Ok.column ≡ min (length xs) t.count = rw w.in-Ok.is at inv.next in
          record {
            same = inv.same;
            begun = begun-step c.cells.next c.match-next-2.next w.in-Ok.column _ w.in-Ok.is inv.begun;
            next = next-step c.match-next-2.next w.in-Ok.column (length xs) _ t.count at long
                (rw w.next-is (rw inv.same at w.write_next_cell-next.ensures.next));
            put = given-step t b text xs x a s _ c.cells.next c.match-next-2.next w.in-Ok.column w.in-Ok.is at inv.put
                (rw (w.next-is, w.sink-is) (rw inv.same at w.write_next_cell-next.ensures.put));
          }
      | in-Err w ↦
          record {
            same = inv.same;
            begun = rw w.next-is tt;
            next = rw w.next-is tt;
            put = rw (w.next-is, w.sink-is) (given-skip t b text xs x a s c.cells.next w.in-Err.error w.in-Err.is inv.put);
          }
    ]

pub end_row-requires : goal.end_row-requires
end_row-requires g c =
    let at = rw c.in_ok-column.was at c.cells.invariant.next in
    rw c.cells.invariant.same (omega (arith, at))

pub returns-in_err-column-clause-put : goal.returns-in_err-column-clause-put
returns-in_err-column-clause-put g c =
    let lines = c.args.self.now.lines in
    let xs = c.cells.yielded in
    let given : Given g.C.IntoIterator.into_iter_gives g.C.IntoIter.Iterator.next_gives c.args.cells xs = search rules in (
      xs,
      given,
      part-stopped lines.columns lines.begun (map g.C.Item.CellText.text xs) (min (length xs) lines.columns.count) _ _ _
          c.from_residual.result _ (omega arith) (rw c.in_err-column.was at c.cells.invariant.put) c.from_residual.ensures.1,
    )

pub returns-clause-put : goal.returns-clause-put
returns-clause-put g c =
    let lines = c.args.self.now.lines in
    let t = lines.columns in
    let xs = c.cells.yielded in
    let row = map g.C.Item.CellText.text xs in
    let a = g.S.TextSink.sent c.args.sink.now in
    let inv = c.cells.invariant in
    let given : Given g.C.IntoIterator.into_iter_gives g.C.IntoIter.Iterator.next_gives c.args.cells xs = search rules in
    let at : c.in_ok-column.column ≡ min (length xs) t.count = rw c.in_ok-column.was at inv.next in
    let begun = subst (λ n. Sends a (g.S.TextSink.sent c.cells.sink) (part_front t lines.begun row n)) (sym at)
    (rw c.in_ok-column.was at inv.put) in (
      xs,
      given,
      part-put t lines.begun row a _ _ c.end_row.result
          ((rw inv.same at (c.end_row.ensures a lines.begun row))
          (at ∙ ap (λ k. min k t.count) (sym (length-map xs g.C.Item.CellText.text))) begun)
          (rw c.in_ok-column.was at inv.begun),
    )
