use Rattle.std.proofs.Common.{ap, sym, ◌∙◌}
use Rattle.tabview_cells.proofs.Printed.{code-graphic}
use Rattle.tabview_cells.specs.Graphic.{is_graphic}
use Rattle.tabview_cells.proofs.kinds.is_code.Goals as goal

pub returns-then-is_graphic : goal.returns-then-is_graphic
returns-then-is_graphic c =
    let same = c.as_bytes.ensures.value in
    c.is_short.ensures ∙ code-graphic c.args.cell.now (ap is_graphic (sym same) ∙ sym c.is_graphic.ensures ∙ c.if-is_graphic.true)
