use Rattle.tabled_pool.proofs.Names.{arith, leaf_line, plan_of, rules, drawn_part, ◌<◌, ◌∙◌, ◌≡◌}
use Rattle.tabled_line.proofs.Sending.{sends-none}
use Rattle.tabled_pool.proofs.Runs.{run_inside, run_text}
use Rattle.tabled_pool.proofs.UpcomingCells.{leaf-begins, leaf-goes}
use Rattle.tabled_pool.proofs.draw.draw_run.Goals as goal

pub overflow_sub-line : goal.overflow_sub-line
overflow_sub-line g c =
    let l = c.args.line.now in
    let r = c.args.run.now in
    let i = run_inside (plan_of l.drawing.now) c.args.x l.y r.count r.c (drawn_part r.piece.now) c.requires in omega (arith, i.top)

pub draw_block_line-requires-clause-inside : goal.draw_block_line-requires-clause-inside
draw_block_line-requires-clause-inside g c =
    let l = c.args.line.now in
    let r = c.args.run.now in
    let i = run_inside (plan_of l.drawing.now) c.args.x l.y r.count r.c (drawn_part r.piece.now) c.requires in omega (arith, i.top, i.bottom)

pub returns-in-Leaf : goal.returns-in-Leaf
unfolding leaf_line
returns-in-Leaf g c =
    let l = c.args.line.now in
    let r = c.args.run.now in
    let t = plan_of l.drawing.now in
    let p = drawn_part r.piece.now in
    let here : p.place.x ≡ c.args.x = omega arith in
    rw (run_text t c.args.x l.y r.count r.c p c.requires (search rules) ∙ leaf-begins t p c.args.x l.y here)
    (rw c.text-text.ensures.text at c.draw_block_line.ensures)

pub returns-in-Leaf-2 : goal.returns-in-Leaf-2
returns-in-Leaf-2 g c =
    let l = c.args.line.now in
    let r = c.args.run.now in
    let t = plan_of l.drawing.now in
    let p = drawn_part r.piece.now in
    let i = run_inside t c.args.x l.y r.count r.c p c.requires in
    let before : p.place.x < c.args.x = omega (arith, i.left) in
    rw (run_text t c.args.x l.y r.count r.c p c.requires (search rules) ∙ leaf-goes t p c.args.x l.y before) (sends-none _)
