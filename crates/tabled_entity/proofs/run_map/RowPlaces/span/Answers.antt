use Rattle.tabled_entity.proofs.Names.{ap, get_or, length, ◌+◌, ◌∙◌}
use Rattle.tabled_entity.specs.RunMap.{in_dense}
use Rattle.tabled_entity.proofs.Spans.{span-found}
use Rattle.tabled_entity.proofs.run_map.RowPlaces.span.Goals as goal

pub returns : goal.returns
returns g c = λ column.
    let places = c.args.self.now.places in
    let start = get_or c.as_slice-run.result.now 0 0 in
    let is = c.as_slice-run.ensures.value in
    let part = c.in_ok-get.ensures.lookup.0 in
    ap (λ xs. in_dense places.first xs column) part.2
    ∙ span-found places c.args.changes.now start c.in_ok-end.end column (c.args.self.now.ordered c.if-not-self.false)
    (ap (λ xs. get_or xs 0 0) is) (c.in_ok-end.ensures.1 ∙ ap (λ xs. start + length xs) is) part.1
    (c.is_empty-else-is_empty.ensures.0 c.if-not-is_empty.false)
