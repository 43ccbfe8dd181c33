use Rattle.tabled_table.proofs.Names.{List, [], ap, arith, content_at, get_or, get_or-map, length, length-append, map, subst, sym, ℕ}
use Rattle.tabled_table.proofs.Names.{◌+◌, ◌<◌, ◌∙◌, ◌∷◌, ◌≡◌}
use Rattle.tabled_table.specs.Stream.Marked.{IsMarked}
use Rattle.tabled_table.proofs.Stream.Steps.{each-pushed}
use Rattle.tabled_table.proofs.iter_table.marked.mark_cells.Goals as goal

pub cells-preserved : goal.cells-preserved
cells-preserved g c =
    let e = c.in_ok-push.ensures.items in
    let column = c.cells.column in
    let layout = c.args.layout.now in
    let cells = c.args.cells.now in
    let texts = map g.C.CellText.text cells in
    let inside : column < length cells = omega arith in
    let same : get_or texts column [] ≡ c.text.result.now =
    get_or-map g.C.CellText.text cells column c.index-cells-column.result [] inside
    ∙ ap g.C.CellText.text (sym c.index-cells-column.is) ∙ sym c.text.ensures in
    let P : ℕ → List ℕ → Type 0 = λ k t. IsMarked c.args.mark (content_at layout k) (get_or texts k []) t in
    let here : P column c.new.result = rw (c.new.ensures, same, ← c.content_width.ensures) c.in_ok-text.ensures in
    let Q : List (List ℕ) → Type 0 = λ l. (k : ℕ) → k < column + 1 → P k (get_or l k []) in
    record {
      as_many = omega (arith, ap length e, length-append c.cells.cut.items (c.new.result ∷ []), c.cells.invariant.as_many);
      each = subst Q (sym e) (each-pushed P c.cells.cut.items c.new.result [] column c.cells.invariant.as_many c.cells.invariant.each here);
    }
