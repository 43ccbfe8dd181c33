use Rattle.tabled_set.proofs.Names.{None, Some, [], ap, arith, suffix_columns, ◌+◌, ◌-◌, ◌<◌, ◌∙◌, ◌≡◌}
use Rattle.std.proofs.lemmas.Bool.{cond_below}
use Rattle.tabled_set.proofs.JoinedLines.{taken, left_beside}
use Rattle.tabled_set.proofs.truncate.columns_beside.Goals as goal

pub overflow_add-result : goal.overflow_add-result
overflow_add-result c =
    let content_size = c.args.content_size in
    let none : content_size + taken [] ≡ content_size = omega arith in
    let e = left_beside c.args.suffix.now content_size c.loop-line.left (c.loop-line.invariant ∙ (ap (λ lines. content_size + taken lines) c.in-None.ensures.steps.0 ∙ none)) in
    omega (arith, e, c.ranges.content_size.fits)

pub returns : goal.returns
returns c =
    let content_size = c.args.content_size in
    let none : content_size + taken [] ≡ content_size = omega arith in
    let suffix = c.args.suffix.now in
    let e = left_beside suffix content_size c.loop-line.left (c.loop-line.invariant ∙ (ap (λ lines. content_size + taken lines) c.in-None.ensures.steps.0 ∙ none)) in
    let below : suffix_columns suffix < content_size = omega (arith, e) in
    let left : c.loop-line.left + 1 ≡ content_size - suffix_columns suffix = omega (arith, e) in
    ap Some left ∙ cond_below (suffix_columns suffix) content_size (Some (content_size - suffix_columns suffix)) None below
