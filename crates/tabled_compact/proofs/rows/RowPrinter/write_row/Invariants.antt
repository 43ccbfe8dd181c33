use Rattle.tabled_compact.proofs.Names.{IfOk, OnOk, Writes, length, map, min, part_front, true, ◌≡◌}
use Rattle.tabled_compact.proofs.rows.RowPrinter.write_row.Given as goal

abbrev pub invariant-cells : goal.invariant-cells
invariant-cells g l =
    let t = l.fn.self.lines.columns in
    let n = min (length l.yielded) t.count in
    record {
      same : l.self.lines.columns ≡ t;
      begun : OnOk l.next (l.self.lines.begun ≡ true);
      next : IfOk l.next (λ column. column ≡ n);
      put : Writes (g.S.TextSink.sent l.fn.sink) l.next (g.S.TextSink.sent l.sink)
          (part_front t l.fn.self.lines.begun (map g.C.Item.CellText.text l.yielded) n);
    }
