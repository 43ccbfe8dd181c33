use Rattle.tabled_base.specs.Content.{content_text}
use Rattle.tabled_pool.proofs.Names.{block_sheet_of, ◌-◌}
use Rattle.tabled_priority.specs.Sums.{one_if}
use Rattle.tabled_pool.proofs.Besides.{IsAdded}
use Rattle.tabled_pool.specs.Inherited.{IsInText, bordered_block, inherited_by, is_top, plan_for}
use Rattle.tabled_pool.proofs.bordered_text.BorderedText.add_to.Given as goal

abbrev pub invariant-loop-y : goal.invariant-loop-y
invariant-loop-y l = record {
  added : IsAdded (block_sheet_of l.initial.block)
      (bordered_block (plan_for l.self) l.self.own (inherited_by l.self) (content_text l.self.content.now)) l.y l.block;
  cursor : IsInText l.self (l.y - one_if (is_top l.self.own)) l.cursor;
}
