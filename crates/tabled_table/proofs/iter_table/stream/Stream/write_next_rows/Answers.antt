use Rattle.tabled_table.proofs.Names.{[], ap, arith, common_steps, length, length-append, map, map-append, reads-both, refl, rules, sym}
use Rattle.tabled_table.proofs.Names.{true, ◌++◌, ◌+◌, ◌∙◌, ◌∷◌, ◌≡◌}
use Rattle.tabled_records.proofs.RowsRead.{reads-none}
use Rattle.tabled_table.proofs.Stream.Going.{err-as, left-first, left-next, more-halts, more-next, more-none, more-refused, permitted-next}
use Rattle.tabled_table.proofs.iter_table.stream.Stream.write_next_rows.Goals as goal

pub rows-init : goal.rows-init
rows-init g c =
    let stream = c.args.self.now in
    record {
      more = [];
      reads = reads-none c.args.rows.now;
      may = c.requires;
      left = left-first c.args.limit;
      same = refl;
      puts = more-none stream.lines.columns.layout.now c.args.lines stream.first stream.lines.begun (g.S.TextSink.sent c.args.sink.now);
    }

pub rows-preserved : goal.rows-preserved
rows-preserved g c =
    let i = c.rows.invariant in
    let there : c.in_ok-append_cells.field-0 ≡ true = first_of (search rules, grind common_steps) in
    let ok = rw there at c.in_ok-append_cells.ensures.ok in
    let row = map g.C.CellText.text c.as_slice.result.now in
    let layout = c.args.self.now.lines.columns.layout.now in
    let longer : length (i.more ++ ok.0 ∷ []) ≡ length i.more + 1 = omega (arith, length-append i.more (ok.0 ∷ [])) in
    let cells = c.as_slice.ensures.value ∙ ok.2 ∙ ap (λ l. l ++ ok.0) c.clear.ensures.items in
    let texts : map (map g.C.CellText.text) (i.more ++ ok.0 ∷ []) ≡ map (map g.C.CellText.text) i.more ++ row ∷ [] =
    map-append (map g.C.CellText.text) i.more (ok.0 ∷ [])
    ∙ ap (λ r. map (map g.C.CellText.text) i.more ++ map g.C.CellText.text r ∷ []) (sym cells) in
    record {
      more = i.more ++ ok.0 ∷ [];
      reads = reads-both i.reads ok.1;
      may = (c.in_ok-append_cells.ensures.goes there).0;
      left = left-next c.args.limit c.rows.left c.fewer-left.result (length i.more) (length (i.more ++ ok.0 ∷ [])) i.left
          (c.is_none_left.ensures.going c.if-is_none_left.false) c.fewer-left.ensures longer;
      same = c.in_ok-write_next_record.ensures.same ∙ i.same;
      puts = rw texts (more-next row c.write_next_record.new.self.first c.write_next_record.new.self.lines.begun (g.S.TextSink.sent c.write_next_record.new.sink) i.puts
          (rw i.same at c.in_ok-write_next_record.ensures.printed));
    }

pub returns-in_err-append_cells-clause-err : goal.returns-in_err-append_cells-clause-err
returns-in_err-append_cells-clause-err g c =
    let i = c.rows.invariant in
    let e = c.in_err-append_cells.field-0.0 in
    let walked = c.in_err-append_cells.ensures.err in
    let row = map g.C.CellText.text walked.0 in
    let longer : length (i.more ++ walked.0 ∷ []) ≡ length i.more + 1 = omega (arith, length-append i.more (walked.0 ∷ [])) in
    let texts : map (map g.C.CellText.text) (i.more ++ walked.0 ∷ []) ≡ map (map g.C.CellText.text) i.more ++ row ∷ [] =
    map-append (map g.C.CellText.text) i.more (walked.0 ∷ []) in
    err-as c.from_residual.result e _ c.from_residual.ensures.1 (
      i.more ++ walked.0 ∷ [],
      rw longer (permitted-next c.args.limit c.rows.left (length i.more) i.left (c.is_none_left.ensures.going c.if-is_none_left.false)),
      reads-both i.reads walked.1,
      rw texts (more-refused row e i.puts c.in_err-append_cells.ensures.only),
    )

pub returns-in_err-write_next_record-clause-err : goal.returns-in_err-write_next_record-clause-err
returns-in_err-write_next_record-clause-err g c =
    let i = c.rows.invariant in
    let there : c.in_ok-append_cells.field-0 ≡ true = first_of (search rules, grind common_steps) in
    let ok = rw there at c.in_ok-append_cells.ensures.ok in
    let e = c.in_err-write_next_record.field-0.0 in
    let row = map g.C.CellText.text c.as_slice.result.now in
    let longer : length (i.more ++ ok.0 ∷ []) ≡ length i.more + 1 = omega (arith, length-append i.more (ok.0 ∷ [])) in
    let cells = c.as_slice.ensures.value ∙ ok.2 ∙ ap (λ l. l ++ ok.0) c.clear.ensures.items in
    let texts : map (map g.C.CellText.text) (i.more ++ ok.0 ∷ []) ≡ map (map g.C.CellText.text) i.more ++ row ∷ [] =
    map-append (map g.C.CellText.text) i.more (ok.0 ∷ [])
    ∙ ap (λ r. map (map g.C.CellText.text) i.more ++ map g.C.CellText.text r ∷ []) (sym cells) in
    err-as c.from_residual-in_err-write_next_record.result e _ c.from_residual-in_err-write_next_record.ensures.1 (
      i.more ++ ok.0 ∷ [],
      rw longer (permitted-next c.args.limit c.rows.left (length i.more) i.left (c.is_none_left.ensures.going c.if-is_none_left.false)),
      reads-both i.reads ok.1,
      rw texts (more-halts row c.write_next_record.new.self.first c.write_next_record.new.self.lines.begun (g.S.TextSink.sent c.write_next_record.new.sink) e i.puts
          (rw i.same at c.in_err-write_next_record.ensures.printed)),
    )
