use Rattle.tabled_table.proofs.Names.{Memory, arith, content_at, length-map, map, refl, ◌<◌, ◌^◌}
use Rattle.std.proofs.lemmas.List.{map-id}
use Rattle.tabled_table.proofs.Stream.Marked.{cut_cell-whole}
use Rattle.tabled_table.proofs.Stream.Steps.{cut_first, next-put, next-refused}
use Rattle.tabled_table.proofs.iter_table.stream.Stream.write_next_record.Goals as goal

pub returns-in_err-cut-clause-printed : goal.returns-in_err-cut-clause-printed
returns-in_err-cut-clause-printed g c =
    let stream = c.args.self.now in
    next-refused c.from_residual.result Memory stream.lines.columns.layout.now stream.first stream.lines.begun
    (g.S.TextSink.sent c.args.sink.now) c.args.lines _ c.from_residual.ensures.1 refl

pub returns-then-all_fit-clause-printed : goal.returns-then-all_fit-clause-printed
returns-then-all_fit-clause-printed g c =
    let stream = c.args.self.now in
    let layout = stream.lines.columns.layout.now in
    let text = g.C.CellText.text in
    let first = c.split_at.result.0.now in
    let e = c.in-Some.ensures in
    let within : c.in-Some.height < 2 ^ 64 = omega (arith, e.0, e.1) in
    next-put c.write_cut_row.result layout stream.first _ stream.lines.begun _ _ _ c.in-Some.height c.args.lines _ (map text first)
    (cut_first layout.mark text (content_at layout) layout.count c.min.result c.args.cells.now first (map text first) c.split_at.ensures.front
    c.min.ensures (length-map first text)
    (λ k b. cut_cell-whole layout.mark (content_at layout k) _ (c.all_fit.ensures c.if-all_fit.true k b)))
    c.write_cut_row.ensures.printed c.write_cut_row.ensures.first e.0 within

pub returns-clause-printed : goal.returns-clause-printed
returns-clause-printed g c =
    let stream = c.args.self.now in
    let layout = stream.lines.columns.layout.now in
    let cut = c.in_ok-cut.cut.items in
    let e = c.in-Some.ensures in
    let within : c.in-Some.height < 2 ^ 64 = omega (arith, e.0, e.1) in
    next-put c.write_cut_row-2.result layout stream.first _ stream.lines.begun _ _ _ c.in-Some.height c.args.lines _ cut
    (cut_first layout.mark g.C.CellText.text (content_at layout) layout.count c.min.result c.args.cells.now c.split_at.result.0.now cut
    c.split_at.ensures.front c.min.ensures c.in_ok-cut.ensures.as_many c.in_ok-cut.ensures.each)
    (rw (c.as_slice.ensures.value, map-id cut) at c.write_cut_row-2.ensures.printed)
    c.write_cut_row-2.ensures.first e.0 within
