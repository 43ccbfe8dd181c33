use Rattle.tabled_base.specs.Content.{content_text}
use Rattle.tabled_pool.proofs.Names.{ap, rules, ◌∙◌, ◌≡◌}
use Rattle.tabled_priority.specs.Sums.{one_if}
use Rattle.tabled_pool.specs.Inherited.{inherited_by, is_bottom, is_top, plan_for}
use Rattle.tabled_pool.proofs.Bordered.{block_count}
use Rattle.tabled_pool.proofs.bordered_text.BorderedText.count_lines.Goals as goal

pub returns : goal.returns
returns c =
    let s = c.args.self.now in
    let first : c.one_if.result ≡ one_if (is_top s.own) = c.one_if.ensures ∙ ap one_if c.own_sides-sides.ensures.top in
    let last : c.one_if-2.result ≡ one_if (is_bottom s.own) = c.one_if-2.ensures ∙ ap one_if c.own_sides-sides.ensures.bottom in
    rw (block_count (plan_for s) s.own (inherited_by s) (content_text s.content.now), ← first, ← last) (search rules)
