use Rattle.tabled_line.proofs.Names.{ap, arith, length-take-le, take, take-take, ◌++◌, ◌∙◌}
use Rattle.tabled_line.proofs.row_template.copy_part.Goals as goal

pub returns-then-part-ge-BLOCK-clause-copied : goal.returns-then-part-ge-BLOCK-clause-copied
returns-then-part-ge-BLOCK-clause-copied c =
    let block = length-take-le 16 c.args.part.now (omega (arith, c.if-part-ge-BLOCK.true)) in
    c.copy_at.ensures.copied c.args.count (omega (arith, c.if-count-le-BLOCK.true, block))
    ∙ ap (λ u. take c.args.place c.args.line.now ++ u) (take-take c.args.count 16 c.args.part.now (omega (arith, c.if-count-le-BLOCK.true)))
