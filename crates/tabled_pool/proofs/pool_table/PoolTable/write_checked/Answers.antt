use Rattle.tabled_pool.proofs.Names.{AreSized, DrawingPlan, PoolTable, ap, arith, common_steps, false, has_zero_width, inr, marks_for, plan}
use Rattle.tabled_pool.proofs.Names.{subst, sym, true, ◌∙◌, ◌≡◌}
use Rattle.std.specs.Prelude.{Result, Ok, Err}
use Rattle.tabled_base.specs.declared.error.TableError.{TableError}
use Rattle.tabled_line.specs.Sent.{Sent, Writes}
use Rattle.tabled_pool.proofs.Padded.{sized_parts}
use Rattle.tabled_pool.proofs.PoolLemmas.{inherited_text, text_of}
use Rattle.tabled_pool.specs.Pool.{IsInRange, WritesPool, pool_text}
use Rattle.tabled_pool.proofs.pool_table.PoolTable.write_checked.Goals as goal

written : {T : Type 0} (t : PoolTable) (old new : Sent) (r : Result T TableError) → IsInRange t → Writes old r new (pool_text t) → WritesPool t old r new
written t old new (Ok _) i w = (i, w)
written t old new (Err e) i w = inr (i, inr w)

pub pieces-requires-clause-sizes : goal.pieces-requires-clause-sizes
pieces-requires-clause-sizes g c = λ complete. rw c.new-measured.ensures at (c.in-Some.ensures.list.items complete)

pub draw_lines-requires : goal.draw_lines-requires
draw_lines-requires g c =
    let columns : has_zero_width (plan c.args.self.now).parts ≡ false = grind (arith, common_steps) in
    subst (λ (q : DrawingPlan). AreSized q.parts) (sym c.drawing-drawing.ensures.plan) (sized_parts c.args.self.now columns)

pub returns-then-has_columns : goal.returns-then-has_columns
returns-then-has_columns g c =
    let t = c.args.self.now in
    let m = c.colored_margin-margin.ensures in
    let columns : has_zero_width (plan t).parts ≡ false = grind (arith, common_steps) in
    written t _ _ _ c.in-Some.ensures.size.2
    (rw (text_of t _ _ _ columns c.drawing-drawing.ensures.plan (m.indent ∙ c.get_margin.ensures)
    (m.colors ∙ ap (marks_for t) c.get_margin.ensures)) c.draw_lines.ensures)

pub draw_tree-requires-clause-wide : goal.draw_tree-requires-clause-wide
draw_tree-requires-clause-wide g c = rw c.drawing-drawing.ensures.spacing (omega (arith, c.drawing-drawing.ensures.width, c.in-Some.ensures.size.0))

pub draw_tree-requires-clause-tall : goal.draw_tree-requires-clause-tall
draw_tree-requires-clause-tall g c = rw c.drawing-drawing.ensures.spacing (omega (arith, c.drawing-drawing.ensures.height, c.in-Some.ensures.size.1))

pub returns : goal.returns
returns g c =
    let t = c.args.self.now in
    let m = c.colored_margin-margin-2.ensures in
    let bare : has_zero_width (plan t).parts ≡ true = grind (arith, common_steps) in
    let block = rw (c.drawing-drawing.ensures.plan, c.drawing-drawing.ensures.spacing) at c.in_ok-block.ensures in
    written t _ _ _ c.in-Some.ensures.size.2
    (rw (inherited_text t _ _ _ bare block (m.indent ∙ c.margin_around.ensures) (m.colors ∙ ap (marks_for t) (sym m.indent))) c.draw_lines-2.ensures)
