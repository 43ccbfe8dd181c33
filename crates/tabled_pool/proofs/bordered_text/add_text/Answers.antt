use Rattle.tabled_base.specs.Content.{content_text}
use Rattle.tabled_pool.proofs.Names.{ap, block_sheet_of, inheriting_box, plan_of, sym, ◌∙◌}
use Rattle.tabled_pool.specs.Inherited.{beside}
use Rattle.tabled_pool.proofs.Besides.{blank_added, blank_text}
use Rattle.tabled_pool.proofs.Splits.{when_ok}
use Rattle.tabled_pool.proofs.bordered_text.add_text.Goals as goal

pub returns-then-inherited-eq0 : goal.returns-then-inherited-eq0
returns-then-inherited-eq0 c =
    let p = block_sheet_of c.args.block.now in
    when_ok c.begin_line.result (λ e. blank_added p (block_sheet_of c.begin_line.new.self) c.begin_line.ensures.width e
    ∙ ap (beside p) (sym (blank_text (plan_of c.args.drawing.now) (inheriting_box c.args.inherited.now) (content_text c.args.content.now)
    c.if-inherited-eq0.true))) c.begin_line.ensures.lines
