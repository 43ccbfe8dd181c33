use Rattle.std.proofs.Common.{ap, sym, ◌∙◌}
use Rattle.tabview_cells.proofs.Joined.{joined-text, number-digits, with-code, with-number}
use Rattle.tabview_cells.proofs.Printed.{code-graphic}
use Rattle.tabview_cells.specs.Kinds.{joined, kind_of}
use Rattle.tabview_cells.specs.Numbers.{is_digits}
use Rattle.tabview_cells.proofs.kinds.Kind.with_graphic.Goals as goal

pub returns-in-Text : goal.returns-in-Text
returns-in-Text c =
    let cell = c.args.cell.now in
    sym (ap (λ k. joined k (kind_of cell)) c.in-Text.is ∙ joined-text (kind_of cell))

pub returns-in-Number : goal.returns-in-Number
returns-in-Number c =
    let cell = c.args.cell.now in
    sym (ap (λ k. joined k (kind_of cell)) c.in-Number.is
    ∙ with-number cell (number-digits cell (ap is_digits (sym c.as_bytes.ensures.value) ∙ sym c.is_digits.ensures ∙ c.if-is_digits.true)))

pub returns-in-Code : goal.returns-in-Code
returns-in-Code c =
    let cell = c.args.cell.now in
    sym (ap (λ k. joined k (kind_of cell)) c.in-Code.is
    ∙ with-code cell (sym (code-graphic cell c.requires) ∙ sym c.is_short.ensures ∙ c.if-is_short.true))
