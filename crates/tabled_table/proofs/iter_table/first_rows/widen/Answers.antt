use Rattle.tabled_table.proofs.Names.{[], ap, arith, get_or, get_or-map, length, length-map, map, sym, text_columns, ◌<◌, ◌∙◌, ◌≡◌}
use Rattle.tabled_table.proofs.Stream.Measures.{widen-all, widen-done}
use Rattle.tabled_table.proofs.iter_table.first_rows.widen.Goals as goal

pub cells-preserved : goal.cells-preserved
cells-preserved g c =
    let n = c.cells.column in
    let cells = c.args.cells.now in
    let inside : n < length cells = omega arith in
    let cell = c.index-cells-column.result in
    let e = c.in_ok-raise.ensures in
    let i = c.cells.invariant in
    let same : c.width.result ≡ text_columns (get_or (map g.C.CellText.text cells) n []) =
    c.width.ensures ∙ ap text_columns (sym (get_or-map g.C.CellText.text cells n cell [] inside ∙ ap g.C.CellText.text (sym c.index-cells-column.is))) in
    record {
      done = widen-done c.args.contents.now.items c.cells.contents.items c.raise.new.contents.items n c.width.result
          (λ k. text_columns (get_or (map g.C.CellText.text cells) k [])) i.done i.kept e.at e.others same;
      kept = λ k h. e.others k (omega arith) ∙ i.kept k (omega arith);
      wide = let l = e.longer in omega arith;
    }

pub returns : goal.returns
returns g c =
    let cells = c.args.cells.now in
    widen-all c.args.contents.now.items c.cells.contents.items (map g.C.CellText.text cells) c.cells.column c.args.count
    c.cells.invariant.done c.cells.invariant.kept (omega (arith, length-map cells g.C.CellText.text))
