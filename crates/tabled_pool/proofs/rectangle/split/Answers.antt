use Rattle.tabled_pool.proofs.Names.{Fits, first_part, place_along, rest_part, rules, sized, subst, sym, ◌≡◌, ◌≤◌}
use Rattle.tabled_pool.specs.Boxes.{given_in}
use Rattle.tabled_pool.proofs.Directions.{Cut, cut_facts}
use Rattle.tabled_pool.proofs.rectangle.split.Goals.{Start, After-rest_part-behind}
use Rattle.tabled_pool.proofs.rectangle.split.Goals as goal

cut : (c : Start) → Cut c.args.direction c.args.spacing.now (sized c.args.size)
    (given_in c.args.direction c.args.spacing.now (sized c.args.size) c.args.left c.args.place) c.args.place
cut c =
    let q = c.requires in
    cut_facts c.args.direction c.args.spacing.now (sized c.args.size) c.args.left.size c.args.left.count c.args.place q.some
    q.own q.across q.along q.right q.low

behind : (c : After-rest_part-behind) → c.rest_part-behind.result
    ≡ rest_part c.args.direction (given_in c.args.direction c.args.spacing.now (sized c.args.size) c.args.left c.args.place) c.args.place
behind c = search rules

pub rest_part-requires-clause-within : goal.rest_part-requires-clause-within
rest_part-requires-clause-within c =
    let d = goal.at.rest_part-requires-clause-within c in
    subst (λ z. c.pick-border.result ≤ place_along c.args.direction z) (sym (behind d.After-rest_part-behind))
    (rw c.pick-border.ensures (cut d.Start).border)

pub rest_part-requires-clause-right : goal.rest_part-requires-clause-right
rest_part-requires-clause-right c =
    let d = goal.at.rest_part-requires-clause-right c in rw (behind d.After-rest_part-behind) (cut d.Start).right

pub rest_part-requires-clause-low : goal.rest_part-requires-clause-low
rest_part-requires-clause-low c =
    let d = goal.at.rest_part-requires-clause-low c in rw (behind d.After-rest_part-behind) (cut d.Start).low

pub returns-clause-fits : goal.returns-clause-fits
returns-clause-fits c =
    let n = given_in c.args.direction c.args.spacing.now (sized c.args.size) c.args.left c.args.place in
    let e : c.first_part.result ≡ first_part c.args.direction n c.args.place = search rules in
    subst (Fits (sized c.args.size)) (sym e) (cut (goal.at.returns-clause-fits c).Start).fits
