use Rattle.tabled_pool.proofs.Names.{ap, arith, around_at, encode_utf8, further, place_text, plan_of, drawn_part, stopped, sym, within_marks}
use Rattle.tabled_pool.proofs.Names.{◌+◌, ◌∙◌}
use Rattle.tabled_pool.proofs.Bare.{around-bare}
use Rattle.tabled_pool.proofs.Runs.{places_next, run_copies, run_place, run_rest}
use Rattle.tabled_pool.proofs.draw.draw_border.Goals as goal

pub returns-then-line : goal.returns-then-line
returns-then-line g c =
    let l = c.args.line.now in
    let r = c.args.run.now in
    let t = plan_of l.drawing.now in
    rw (run_copies t c.args.x l.y r.count r.c (drawn_part r.piece.now) c.requires.run c.requires.kind
    (λ v. sym (around-bare t (l.drawing.now.bare_borders c.if-line.true) v l.y))) c.write_fill.ensures

pub returns-in_err-draw_marked : goal.returns-in_err-draw_marked
returns-in_err-draw_marked g c =
    let l = c.args.line.now in
    let r = c.args.run.now in
    let t = plan_of l.drawing.now in
    let here = run_place t c.args.x l.y r.count r.c (drawn_part r.piece.now) c.requires.run c.requires.kind (c.args.x + c.places.at)
    (omega arith) (omega (arith, c.places-test.true)) ∙ ap (λ z. within_marks z (encode_utf8 r.c)) (sym {b = around_at t t.parts (c.args.x + c.places.at) l.y} c.marks_at.ensures) in
    stopped _ _ _ c.places.invariant c.in_err-draw_marked.ensures c.from_residual.ensures.1
    (run_rest (place_text t l.y) c.args.x c.places.at r.count _ c.places-test.true here)

pub places-preserved : goal.places-preserved
places-preserved g c =
    let l = c.args.line.now in
    let r = c.args.run.now in
    let t = plan_of l.drawing.now in
    let here = run_place t c.args.x l.y r.count r.c (drawn_part r.piece.now) c.requires.run c.requires.kind (c.args.x + c.places.at)
    (omega arith) (omega (arith, c.places-test.true)) ∙ ap (λ z. within_marks z (encode_utf8 r.c)) (sym {b = around_at t t.parts (c.args.x + c.places.at) l.y} c.marks_at.ensures) in
    further c.places.invariant c.in_ok-draw_marked.ensures (places_next (place_text t l.y) c.args.x c.places.at _ here)
