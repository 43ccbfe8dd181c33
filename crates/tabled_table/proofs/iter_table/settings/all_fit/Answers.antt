use Rattle.tabled_table.proofs.Names.{IsCut, [], ap, arith, below_more, content_at, get_or, get_or-map, length, map, sym, ℕ, ◌<◌, ◌∙◌, ◌≡◌}
use Rattle.tabled_table.proofs.iter_table.settings.all_fit.Goals as goal

pub cells-preserved : goal.cells-preserved
cells-preserved g c =
    let cells = c.args.cells.now in
    let texts = map g.C.CellText.text cells in
    let column = c.cells.column in
    let inside : column < length cells = omega arith in
    let same : get_or texts column [] ≡ g.C.CellText.text c.index-cells-column.result =
    get_or-map g.C.CellText.text cells column c.index-cells-column.result [] inside ∙ ap g.C.CellText.text (sym c.index-cells-column.is) in
    let P : ℕ → Type 0 = λ k. IsCut (content_at c.args.layout.now k) (get_or texts k []) (get_or texts k []) in
    below_more P column c.cells.invariant (rw (same, ← c.content_width.ensures) (c.fits.ensures c.if-not-fits.false))
