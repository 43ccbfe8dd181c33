use Rattle.tabled_pool.proofs.Names.{ap, get_or, map, option_map, plan_of, drawn_part, slice_get, slice_get-get_or, slice_get-map, ◌∙◌}
use Rattle.tabled_pool.proofs.TallCursors.{tall_of}
use Rattle.tabled_pool.proofs.tall_texts.TallTexts.add.Goals as goal

pub returns-in-Some : goal.returns-in-Some
returns-in-Some c = λ all.
    let d = c.args.drawing.now in
    let ps = d.pieces.now in
    let k = c.args.number in
    let piece = get_or ps k c.index-drawing-number.result in
    let made = c.in-Some.ensures in
    let listed = ap (slice_get (map drawn_part ps)) made.0 ∙ slice_get-map drawn_part ps k
    ∙ ap (option_map drawn_part) (slice_get-get_or ps k c.index-drawing-number.result c.requires) in
    c.push.ensures (plan_of d) c.args.y all (tall_of (plan_of d) c.args.y (drawn_part piece) c.in-Some.text listed made.1)
