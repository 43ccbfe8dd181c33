use Rattle.tabled_entity.proofs.Names.{IsIndexed, [], ap, arith, get_or, reverse, reverse-append, subst, suc, sym, take, ◌+◌}
use Rattle.tabled_entity.proofs.Names.{◌∙◌, ◌∷◌, ◌≡◌}
use Rattle.std.proofs.Math.Seq.{take-suc}
use Rattle.std.proofs.lemmas.List.{length-take-le}
use Rattle.tabled_entity.proofs.Indexed.{indexed-more, item-part}
use Rattle.tabled_entity.proofs.entity_map.index_of.Goals as goal

pub insert-requires : goal.insert-requires
insert-requires g c = item-part c.args.changes.now c.places.place c.index-changes-place.result c.requires c.places-test.true

pub places-preserved : goal.places-preserved
places-preserved g c =
    let xs = c.args.changes.now in
    let k = c.places.place in
    let item = get_or xs k c.index-changes-place.result in
    let step : suc k ≡ k + 1 = omega arith in
    let next : item ∷ reverse (take k xs) ≡ reverse (take (k + 1) xs) =
    sym (ap (λ n. reverse (take n xs)) (sym step) ∙ ap reverse (take-suc xs k c.index-changes-place.result c.places-test.true)
    ∙ reverse-append (take k xs) (item ∷ [])) in
    subst (IsIndexed c.insert.new.self) next
    (indexed-more c.places.places c.insert.new.self (take k xs) item.0 item.1 k c.places.invariant c.in_ok-insert.ensures.ok
    (sym (length-take-le k xs c.places.auto.place-end)))
