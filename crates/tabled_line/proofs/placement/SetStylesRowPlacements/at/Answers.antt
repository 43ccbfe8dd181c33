use Rattle.tabled_line.proofs.Names.{ap, ◌∙◌}
use Rattle.tabled_line.proofs.placement.SetStylesRowPlacements.at.Goals as goal

pub returns : goal.returns
returns c = λ row describes within width.
    let is = describes c.args.column within in
    let uniform = c.in_ok-of.ensures (row.style c.args.column) (c.sides-horizontal.ensures.padding ∙ ap (λ s. s.padding) is)
    (c.sides-horizontal.ensures.horizontal ∙ ap (λ s. s.horizontal) is) in
    c.placement.ensures (row.style c.args.column) uniform
