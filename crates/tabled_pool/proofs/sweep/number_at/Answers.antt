use Rattle.tabled_pool.proofs.Names.{ap, length, option_map, plan_of, refl, drawn_part, slice_get-map, slice_get_read, sym}
use Rattle.tabled_pool.proofs.Names.{whole, ◌∙◌}
use Rattle.tabled_pool.proofs.Listed.{listed_owns}
use Rattle.tabled_pool.proofs.sweep.number_at.Goals as goal

pub returns : goal.returns
returns c =
    let d = c.args.drawing.now in
    let ps = d.pieces.now in
    let k = c.in-Some.number.now in
    let found = c.in-Some-get.ensures.lookup in
    let listed = found.3 in (
      listed.0,
      slice_get-map drawn_part ps k ∙ ap (option_map drawn_part) (slice_get_read ps (length ps) k c.in-Some-get.piece.now refl listed.0 found.1)
          ∙ listed_owns ps (whole (plan_of d)) k c.args.x c.args.y c.in-Some-get.piece.now d.tiles
          listed.0 found.1 (sym c.contains.ensures.value ∙ c.if-contains.true),
    )
