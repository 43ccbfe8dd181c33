use Rattle.tabled_table.proofs.Names.{Err, Ok, [], ap, arith, get_or, get_or-take, length, length-map, length-take, map, nat_lt, sym, take}
use Rattle.tabled_table.proofs.Names.{take_all, ◌+◌, ◌<◌, ◌∙◌, ◌≡◌}
use Rattle.tabled_table.proofs.Stream.Measures.{row-at}
use Rattle.tabled_table.proofs.Stream.Going.{kept-next, match-err}
use Rattle.tabled_table.proofs.iter_table.stream.Stream.write_first_rows.Goals as goal

pub returns-in_err-write_next_record-clause-printed : goal.returns-in_err-write_next_record-clause-printed
returns-in_err-write_next_record-clause-printed g c =
    λ config ahead_rows start e p.
    let rows = c.args.rows.now in
    let text = g.C.CellText.text in
    let all = map (map text) rows in
    let texts = take c.args.shown all in
    let k = c.rows.index in
    let layout = c.args.self.now.lines.columns.layout.now in
    let stream = c.rows.self in
    let within : k < length texts = omega (arith, length-take c.args.shown all, length-map rows (map text), c.requires, c.rows-test.true) in
    let at : get_or texts k [] ≡ map text c.row-cells.result.now =
    get_or-take c.args.shown all k [] c.rows-test.true
    ∙ row-at text rows k c.row-cells.result.now (omega (arith, c.requires, c.rows-test.true)) c.row-cells.ensures in
    match-err c.from_residual.result c.in_err-write_next_record.field-0.0 _ _ c.from_residual.ensures.1 (
      k + 1,
      kept-next {R = Unit {0}} texts k c.content_height-lines.result (map text c.row-cells.result.now)
          (nat_lt k c.args.ahead) layout stream.first
          c.write_next_record.new.self.first stream.lines.begun c.write_next_record.new.self.lines.begun (g.S.TextSink.sent c.rows.sink) (g.S.TextSink.sent c.write_next_record.new.sink)
          (Err c.in_err-write_next_record.field-0.0) within at
          (rw c.rows.invariant.same at c.content_height-lines.ensures) (ap (nat_lt k) (sym e)) (c.rows.invariant.puts config ahead_rows start e p)
          (rw c.rows.invariant.same at c.in_err-write_next_record.ensures.printed),
    )

pub rows-preserved : goal.rows-preserved
rows-preserved g c =
    record {
      same = c.in_ok-write_next_record.ensures.same ∙ c.rows.invariant.same;
      puts = λ config ahead_rows start e p.
          let rows = c.args.rows.now in
          let text = g.C.CellText.text in
          let all = map (map text) rows in
          let texts = take c.args.shown all in
          let k = c.rows.index in
          let layout = c.args.self.now.lines.columns.layout.now in
          let stream = c.rows.self in
          let within : k < length texts = omega (arith, length-take c.args.shown all, length-map rows (map text), c.requires, c.rows-test.true) in
          let at : get_or texts k [] ≡ map text c.row-cells.result.now =
          get_or-take c.args.shown all k [] c.rows-test.true
          ∙ row-at text rows k c.row-cells.result.now (omega (arith, c.requires, c.rows-test.true)) c.row-cells.ensures in
          kept-next texts k c.content_height-lines.result (map text c.row-cells.result.now) (nat_lt k c.args.ahead) layout stream.first
          c.write_next_record.new.self.first stream.lines.begun c.write_next_record.new.self.lines.begun (g.S.TextSink.sent c.rows.sink) (g.S.TextSink.sent c.write_next_record.new.sink)
          (Ok c.in_ok-write_next_record.field-0) within at
          (rw c.rows.invariant.same at c.content_height-lines.ensures) (ap (nat_lt k) (sym e)) (c.rows.invariant.puts config ahead_rows start e p)
          (rw c.rows.invariant.same at c.in_ok-write_next_record.ensures.printed);
    }

pub returns-clause-printed : goal.returns-clause-printed
returns-clause-printed g c =
    λ config ahead_rows start e p.
    let rows = c.args.rows.now in
    let texts = take c.args.shown (map (map g.C.CellText.text) rows) in
    let many = length-take c.args.shown (map (map g.C.CellText.text) rows) in
    let all : take c.rows.index texts ≡ texts = take_all c.rows.index texts (omega (arith, many)) in
    rw all at (c.rows.invariant.puts config ahead_rows start e p)
