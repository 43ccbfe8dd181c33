use Rattle.std.proofs.Common.{ap, sym, ◌∙◌}
use Rattle.tabview_cells.proofs.Joined.{joined-text, with-code}
use Rattle.tabview_cells.specs.Kinds.{joined, kind_of}
use Rattle.tabview_cells.proofs.kinds.Kind.with_cell.Goals as goal

pub returns-in-Text : goal.returns-in-Text
returns-in-Text c =
    let cell = c.args.cell.now in
    sym (ap (λ k. joined k (kind_of cell)) c.in-Text.is ∙ joined-text (kind_of cell))

pub returns-in-Code : goal.returns-in-Code
returns-in-Code c =
    let cell = c.args.cell.now in
    sym (ap (λ k. joined k (kind_of cell)) c.in-Code.is ∙ with-code cell (sym c.is_code.ensures ∙ c.if-is_code.true))
