use Rattle.tabled_pool.proofs.Names.{Fits, IsSize, Some, [], ap, arith, box_of, boxes_left, length, list_box, map, nodes, nodes_in, rules, subst, sym, the_lemmas, ◌*◌, ◌++◌, ◌+◌, ◌<◌, ◌∙◌, ◌∷◌, ◌≡◌, ◌≤◌}
use Rattle.std.proofs.Common.{IfOk}
use Rattle.std.proofs.lemmas.List.{drop_all}
use Rattle.tabled_pool.specs.PieceText.{own_text}
use Rattle.tabled_pool.specs.Sizes.{EndsWith, measured, sizes_in, sizes_of_all, sizes_within}
use Rattle.tabled_pool.specs.Tree.{child_count}
use Rattle.tabled_pool.proofs.Measures.{can_split_size, fits_size, last_left, next_size, none_taken, placed_all, sized_along, sizes_inside, taken_all, values_left}
use Rattle.tabled_pool.proofs.NodeSums.{nodes_in_at, nodes_in_push}
use Rattle.tabled_pool.proofs.Steps.{can_split, list_facts, list_next, list_parts_next}
use Rattle.tabled_pool.proofs.places.+places.Goals as goal

pub place_list-split-cut-requires : goal.place_list-split-cut-requires
place_list-split-cut-requires t c =
    let d = c.args.boxes.direction in
    let g = c.args.spacing.now in
    let v = c.child-item.result in
    let f = list_facts d g _ c.in-Some.last.now _ _ c.loop-child-test.true c.child-item.is in
    let i = c.loop-child.invariant in
    let n = next_size g v _ _ _ _ _ _ _ (values_left _ c.in-Some.last.now _ v c.loop-child-test.true c.child-item.is) i.sizes c.take_size-own.ensures in
    can_split_size d g (box_of g v) _ _ _ n.size (can_split d g _ _ _ _ _ f i.placing.fits i.left)

pub place_list-place_value-requires : goal.place_list-place_value-requires
place_list-place_value-requires t c =
    let g = c.args.spacing.now in
    let v = c.child-item.result in
    let all : nodes_in c.args.boxes.children.now ≡ nodes_in (c.in-Some.front.now ++ (c.in-Some.last.now ∷ [])) = ap nodes_in c.in-Some.ensures.cases.0 in
    let one : nodes v ≤ nodes_in c.in-Some.front.now = subst (λ u. nodes u ≤ nodes_in c.in-Some.front.now) (sym c.child-item.is)
    (nodes_in_at c.in-Some.front.now c.loop-child.child-index v c.loop-child-test.true) in
    let fewer : 2 * nodes v < 2 * nodes_in c.args.boxes.children.now + 1 = omega (arith, all, one, nodes_in_push c.in-Some.front.now c.in-Some.last.now) in
    let n = next_size g v _ _ _ _ _ _ _ (values_left _ c.in-Some.last.now _ v c.loop-child-test.true c.child-item.is)
    c.loop-child.invariant.sizes c.take_size-own.ensures in
    let sizes : EndsWith c.take_size-own.new.sizes.items (sizes_within g v) = n.ends in
    let own : IsSize (Some c.split-cut.result.given.own) (box_of g v) = rw c.split-cut.ensures.size n.size in
    let fits : Fits (box_of g v) c.split-cut.result.given.place = fits_size (box_of g v) _ _ n.size c.split-cut.ensures.fits in
    search (rules, the_lemmas)

pub place_list-overflow_sub-left : goal.place_list-overflow_sub-left
place_list-overflow_sub-left t c =
    let d = c.args.boxes.direction in
    let g = c.args.spacing.now in
    let v = c.child-item.result in
    let f = list_facts d g _ c.in-Some.last.now _ _ c.loop-child-test.true c.child-item.is in
    let i = c.loop-child.invariant in
    let n = next_size g v _ _ _ _ _ _ _ (values_left _ c.in-Some.last.now _ v c.loop-child-test.true c.child-item.is) i.sizes c.take_size-own.ensures in
    omega (arith, c.split-cut.ensures.own, sized_along d (box_of g v) c.take_size-own.result n.size, c.pick-border.ensures, f.along, i.left.size)

pub place_list-loop-child-preserved : goal.place_list-loop-child-preserved
place_list-loop-child-preserved t c =
    let d = c.args.boxes.direction in
    let g = c.args.spacing.now in
    let v = c.child-item.result in
    let f = list_facts d g _ c.in-Some.last.now _ _ c.loop-child-test.true c.child-item.is in
    let i = c.loop-child.invariant in
    let n = next_size g v _ _ _ _ _ _ _ (values_left _ c.in-Some.last.now _ v c.loop-child-test.true c.child-item.is) i.sizes c.take_size-own.ensures in
    let own = sized_along d (box_of g v) c.take_size-own.result n.size in
    let cut = c.split-cut.ensures in
    let given = rw own at cut.given in
    let border = rw own at cut.line in
    let rest = rw own at cut.rest in
    let line = c.in_ok-place_border.ensures in
    let p = c.loop-child.place in
    let l = c.loop-child.left in
    record {
      placing = record {
        parts = list_parts_next d g _ _ _ p l.size l.count c.split-cut.result.given.place
            c.split-cut.result.line c.split-cut.result.rest _ _ _ _ f i.left.size i.left.count given border
            rest i.placing.parts c.in_ok-place_value.ensures.pieces line;
        fits = list_next d g _ _ _ p l.size l.count c.split-cut.result.rest f i.placing.fits i.left.size i.left.count rest;
      };
      left = record {
        size = omega (arith, f.along, cut.own, own, c.pick-border.ensures, i.left.size);
        count = omega (arith, f.count, i.left.count);
      };
      sizes = n.next _ c.in_ok-place_value.ensures.sizes;
    }

pub place_list-place_value-requires-2 : goal.place_list-place_value-requires-2
place_list-place_value-requires-2 t c =
    let d = c.args.boxes.direction in
    let g = c.args.spacing.now in
    let v = c.in-Some.last.now in
    let i = c.loop-child.invariant in
    let all : nodes_in c.args.boxes.children.now ≡ nodes_in (c.in-Some.front.now ++ (v ∷ [])) = ap nodes_in c.in-Some.ensures.cases.0 in
    let fewer : 2 * nodes v < 2 * nodes_in c.args.boxes.children.now + 1 = omega (arith, all, nodes_in_push c.in-Some.front.now v) in
    let n = next_size g v _ _ _ _ _ _ _ (last_left _ v _ c.loop-child-test.false) i.sizes c.take_size-own-2.ensures in
    let sizes : EndsWith c.take_size-own-2.new.sizes.items (sizes_within g v) = n.ends in
    let own : IsSize (Some c.take_size-own-2.result) (box_of g v) = n.size in
    let fits : Fits (box_of g v) c.loop-child.place =
    subst (λ ts. Fits (list_box d g (boxes_left g ts v)) c.loop-child.place)
    (drop_all c.loop-child.child-index c.in-Some.front.now c.loop-child-test.false) i.placing.fits in
    search (rules, the_lemmas)

pub place_list-returns-clause-sizes : goal.place_list-returns-clause-sizes
place_list-returns-clause-sizes t c =
    let g = c.args.spacing.now in
    let v = c.in-Some.last.now in
    let n = next_size g v [] _ _ _ _ _ _ (last_left _ v _ c.loop-child-test.false) c.loop-child.invariant.sizes c.take_size-own-2.ensures in
    let all = c.args.placer.now.sizes.items in
    let whole = sizes_of_all g c.args.boxes.children.now in
    let later = c.place_value-2.new.placer.sizes.items in
    taken_all c.place_value-2.result all whole c.take_size-own-2.new.sizes.items later (sizes_within g v)
    (λ h. placed_all all whole later (n.next later h)) c.place_value-2.ensures.sizes

pub place_value-place_list-requires : goal.place_value-place_list-requires
place_value-place_list-requires t c =
    let g = c.args.spacing.now in
    let vs = c.as_slice.result.now in
    let e = c.inner-inner.ensures.same.box g in
    let n : nodes c.inner-inner.result.now ≡ nodes_in vs + 1 = search (rules, the_lemmas) in
    let inside : sizes_within g c.inner-inner.result.now ≡ sizes_in (map (measured g) vs) = search (rules, the_lemmas) in
    let count : child_count c.inner-inner.result.now ≡ length (map child_count vs) = search (rules, the_lemmas) in
    let same = sizes_inside g c.args.value.now _ vs (c.inner-inner.ensures.same.sizes g) inside count c.inner-inner.ensures.several in
    let fewer : 2 * nodes_in vs + 1 < 2 * nodes c.args.value.now = omega (arith, n, c.inner-inner.ensures.same.fewer) in
    let sizes : EndsWith c.args.placer.now.sizes.items (sizes_of_all g vs) = subst (EndsWith c.args.placer.now.sizes.items) (sym same) c.requires.sizes in
    let none : own_text c.inner-inner.result.now ≡ [] = search (rules, the_lemmas) in
    let own : IsSize (Some c.args.whole.now.own) (box_of g c.inner-inner.result.now) = rw e at c.requires.own in
    let fits : Fits (box_of g c.inner-inner.result.now) c.args.whole.now.place = rw e at c.requires.fits in
    search (rules, the_lemmas)

pub place_value-place_list-requires-in-Column : goal.place_value-place_list-requires-in-Column
place_value-place_list-requires-in-Column t c =
    let g = c.args.spacing.now in
    let vs = c.as_slice-in-Column.result.now in
    let e = c.inner-inner.ensures.same.box g in
    let n : nodes c.inner-inner.result.now ≡ nodes_in vs + 1 = search (rules, the_lemmas) in
    let inside : sizes_within g c.inner-inner.result.now ≡ sizes_in (map (measured g) vs) = search (rules, the_lemmas) in
    let count : child_count c.inner-inner.result.now ≡ length (map child_count vs) = search (rules, the_lemmas) in
    let same = sizes_inside g c.args.value.now _ vs (c.inner-inner.ensures.same.sizes g) inside count c.inner-inner.ensures.several in
    let fewer : 2 * nodes_in vs + 1 < 2 * nodes c.args.value.now = omega (arith, n, c.inner-inner.ensures.same.fewer) in
    let sizes : EndsWith c.args.placer.now.sizes.items (sizes_of_all g vs) = subst (EndsWith c.args.placer.now.sizes.items) (sym same) c.requires.sizes in
    let none : own_text c.inner-inner.result.now ≡ [] = search (rules, the_lemmas) in
    let own : IsSize (Some c.args.whole.now.own) (box_of g c.inner-inner.result.now) = rw e at c.requires.own in
    let fits : Fits (box_of g c.inner-inner.result.now) c.args.whole.now.place = rw e at c.requires.fits in
    search (rules, the_lemmas)

pub place_value-returns-in-Cell-clause-pieces : goal.place_value-returns-in-Cell-clause-pieces
place_value-returns-in-Cell-clause-pieces t c = rw (c.inner-inner.ensures.same.box c.args.spacing.now) (search (rules, the_lemmas))

pub place_value-returns-in-Cell-clause-sizes : goal.place_value-returns-in-Cell-clause-sizes
place_value-returns-in-Cell-clause-sizes t c =
    let g = c.args.spacing.now in
    let none : sizes_within g c.inner-inner.result.now ≡ [] = search (rules, the_lemmas) in
    none_taken c.place_text.result c.args.placer.now.sizes.items (sizes_within g c.args.value.now) (c.inner-inner.ensures.same.sizes g ∙ none)

pub place_value-returns-in-Row-clause-pieces : goal.place_value-returns-in-Row-clause-pieces
place_value-returns-in-Row-clause-pieces t c = rw (c.inner-inner.ensures.same.box c.args.spacing.now) (search (rules, the_lemmas))

pub place_value-returns-in-Row-clause-sizes : goal.place_value-returns-in-Row-clause-sizes
place_value-returns-in-Row-clause-sizes t c =
    let g = c.args.spacing.now in
    let vs = c.as_slice.result.now in
    let inside : sizes_within g c.inner-inner.result.now ≡ sizes_in (map (measured g) vs) = search (rules, the_lemmas) in
    let count : child_count c.inner-inner.result.now ≡ length (map child_count vs) = search (rules, the_lemmas) in
    let same = sizes_inside g c.args.value.now _ vs (c.inner-inner.ensures.same.sizes g) inside count c.inner-inner.ensures.several in
    subst (λ ss. IfOk c.place_list.result (λ _. c.args.placer.now.sizes.items ≡ c.place_list.new.placer.sizes.items ++ ss)) same
    c.place_list.ensures.sizes

pub place_value-returns-in-Column-clause-pieces : goal.place_value-returns-in-Column-clause-pieces
place_value-returns-in-Column-clause-pieces t c = rw (c.inner-inner.ensures.same.box c.args.spacing.now) (search (rules, the_lemmas))

pub place_value-returns-in-Column-clause-sizes : goal.place_value-returns-in-Column-clause-sizes
place_value-returns-in-Column-clause-sizes t c =
    let g = c.args.spacing.now in
    let vs = c.as_slice-in-Column.result.now in
    let inside : sizes_within g c.inner-inner.result.now ≡ sizes_in (map (measured g) vs) = search (rules, the_lemmas) in
    let count : child_count c.inner-inner.result.now ≡ length (map child_count vs) = search (rules, the_lemmas) in
    let same = sizes_inside g c.args.value.now _ vs (c.inner-inner.ensures.same.sizes g) inside count c.inner-inner.ensures.several in
    subst (λ ss. IfOk c.place_list-in-Column.result (λ _. c.args.placer.now.sizes.items ≡ c.place_list-in-Column.new.placer.sizes.items ++ ss)) same
    c.place_list-in-Column.ensures.sizes

pub place_value-place_text-requires : goal.place_value-place_text-requires
place_value-place_text-requires t c =
    let own : IsSize (Some c.args.whole.now.own) (box_of c.args.spacing.now c.inner-inner.result.now) =
    rw (c.inner-inner.ensures.same.box c.args.spacing.now) at c.requires.own in
    search (rules, the_lemmas)
