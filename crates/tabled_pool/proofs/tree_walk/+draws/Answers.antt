use Rattle.tabled_pool.proofs.Names.{Fits, InheritedSheet, IsSize, Some, [], ap, arith, block_sheet_of, box_of, boxes_left, drawer, inheriting_box, list_box, map, map-append, nodes, nodes_in, pick, plan_of, refl, rules, subst, sym, the_lemmas, ◌*◌, ◌++◌, ◌+◌, ◌<◌, ◌∙◌, ◌∷◌, ◌≡◌, ◌≤◌}
use Rattle.tabled_pool.proofs.NodeSums.{nodes_in_at, nodes_in_push}
use Rattle.std.proofs.lemmas.List.{drop_all}
use Rattle.tabled_pool.specs.Sizes.{EndsWith, measured, sizes_in, sizes_within}
use Rattle.tabled_pool.proofs.Directions.{fits_along, fits_bound}
use Rattle.tabled_pool.specs.Inherited.{Children, PassedOn, beside, no_block, sizes_left, passes_across, passes_along, with_passed}
use Rattle.tabled_pool.proofs.Collected.{SoFar, all_joined, more_so_far, none_so_far}
use Rattle.tabled_pool.proofs.Drawers.{drawers_left, list_added, list_done, list_of, passed_across}
use Rattle.tabled_pool.proofs.Splits.{when_ok}
use Rattle.tabled_pool.proofs.Measures.{can_split_size, fits_size, in_any_case, last_size, next_there, next_to_draw, own_along, to_draw_first, unplaced_first, sized_along, some_size}
use Rattle.tabled_pool.proofs.Steps.{can_split, left_all, left_count, list_facts, list_next}
use Rattle.tabled_pool.proofs.tree_walk.+draws.Goals as goal

pub draw_list-pass_to-requires : goal.draw_list-pass_to-requires
draw_list-pass_to-requires t c =
    let d = c.args.boxes.direction in
    let g = c.args.drawing.now.spacing in
    let v = c.child-item.result in
    let f = list_facts d g _ c.in-Some.last.now _ _ c.loop-child-test.true c.child-item.is in
    let i = c.loop-child.invariant in
    let n = next_to_draw g _ c.in-Some.last.now _ v _ _ _ _ _ c.loop-child-test.true c.child-item.is i.sizes c.take_size-own.ensures in
    can_split_size d g (box_of g v) _ _ _ n.size (can_split d g _ _ _ _ _ f i.fits i.left)

pub draw_list-draw_value-requires : goal.draw_list-draw_value-requires
draw_list-draw_value-requires t c =
    let g = c.args.drawing.now.spacing in
    let v = c.child-item.result in
    let i = c.loop-child.invariant in
    let n = next_to_draw g _ c.in-Some.last.now _ v _ _ _ _ _ c.loop-child-test.true c.child-item.is i.sizes c.take_size-own.ensures in
    let all : nodes_in c.args.boxes.children.now ≡ nodes_in (c.in-Some.front.now ++ (c.in-Some.last.now ∷ [])) = ap nodes_in c.in-Some.ensures.cases.0 in
    let one : nodes v ≤ nodes_in c.in-Some.front.now = subst (λ u. nodes u ≤ nodes_in c.in-Some.front.now) (sym c.child-item.is)
    (nodes_in_at c.in-Some.front.now c.loop-child.child-index v c.loop-child-test.true) in
    let fewer : 2 * nodes v < 2 * nodes_in c.args.boxes.children.now + 1 =
    omega (arith, all, one, nodes_in_push c.in-Some.front.now c.in-Some.last.now) in
    let sizes : EndsWith c.take_size-own.new.sizes.items (sizes_within g v) = n.ends in
    let own : IsSize (Some c.take_size-own.result) (box_of g v) = n.size in
    let fits : Fits (box_of g v) c.pass_to.new.first.place = fits_size (box_of g v) _ _ n.size c.in_ok-needed.ensures.fits in
    search (rules, the_lemmas)

pub draw_list-draw_value-requires-2 : goal.draw_list-draw_value-requires-2
draw_list-draw_value-requires-2 t c =
    let d = c.args.boxes.direction in
    let g = c.args.drawing.now.spacing in
    let v = c.in-Some.last.now in
    let i = c.loop-child.invariant in
    let all : nodes_in c.args.boxes.children.now ≡ nodes_in (c.in-Some.front.now ++ (v ∷ [])) = ap nodes_in c.in-Some.ensures.cases.0 in
    let fewer : 2 * nodes v < 2 * nodes_in c.args.boxes.children.now + 1 = omega (arith, all, nodes_in_push c.in-Some.front.now v) in
    let n = last_size d g c.in-Some.front.now v _ _ _ _ _ _ _ c.loop-child-test.false
    (rw c.in-Some.ensures.cases.0 at c.requires.own) i.sizes c.take_last_size-own.ensures.only c.take_last_size-own.ensures.other in
    let sizes : EndsWith c.take_last_size-own.new.sizes.items (sizes_within g v) = n.ends in
    let own : IsSize (Some c.take_last_size-own.result) (box_of g v) = n.size in
    let place : c.pass_rest.new.last.place ≡ c.loop-child.inherited.place = ap (λ (u : InheritedSheet). u.place) c.in_ok-pass_rest.ensures.last in
    let fits : Fits (box_of g v) c.pass_rest.new.last.place = subst (Fits (box_of g v)) (sym place)
    (subst (λ ts. Fits (list_box d g (boxes_left g ts v)) c.loop-child.inherited.place)
    (drop_all c.loop-child.child-index c.in-Some.front.now c.loop-child-test.false) i.fits) in
    search (rules, the_lemmas)

pub draw_list-returns-clause-sizes : goal.draw_list-returns-clause-sizes
draw_list-returns-clause-sizes t c =
    let d = c.args.boxes.direction in
    let g = c.args.drawing.now.spacing in
    let n = last_size d g c.in-Some.front.now c.in-Some.last.now _ _ _ _ _ _ _ c.loop-child-test.false
    (rw c.in-Some.ensures.cases.0 at c.requires.own) c.loop-child.invariant.sizes c.take_last_size-own.ensures.only
    c.take_last_size-own.ensures.other in
    in_any_case c.join.result (n.next _ c.in_ok-draw_value-2.ensures.sizes)

pub draw_value-draw_list-result-requires : goal.draw_value-draw_list-result-requires
draw_value-draw_list-result-requires t c =
    let vs = c.as_slice.result.now in
    let n : nodes c.args.value.now ≡ nodes_in vs + 1 = search (rules, the_lemmas) in
    let fewer : 2 * nodes_in vs + 1 < 2 * nodes c.args.value.now = omega (arith, n) in
    search (rules, the_lemmas)

pub draw_value-draw_list-result-requires-in-Column : goal.draw_value-draw_list-result-requires-in-Column
draw_value-draw_list-result-requires-in-Column t c =
    let vs = c.as_slice-in-Column.result.now in
    let n : nodes c.args.value.now ≡ nodes_in vs + 1 = search (rules, the_lemmas) in
    let fewer : 2 * nodes_in vs + 1 < 2 * nodes c.args.value.now = omega (arith, n) in
    search (rules, the_lemmas)

pub draw_list-overflow_add-left : goal.draw_list-overflow_add-left
draw_list-overflow_add-left t c =
    let d = c.args.boxes.direction in
    let g = c.args.drawing.now.spacing in
    let v = c.child-item.result in
    let f = list_facts d g _ c.in-Some.last.now _ _ c.loop-child-test.true c.child-item.is in
    let i = c.loop-child.invariant in
    let n = next_to_draw g _ c.in-Some.last.now _ v _ _ _ _ _ c.loop-child-test.true c.child-item.is i.sizes c.take_size-own.ensures in
    omega (
      arith,
      c.in_ok-needed.ensures.own,
      sized_along d (box_of g v) c.take_size-own.result n.size,
      c.pick-border.ensures,
      f.along,
      i.left.size,
      fits_along d _ _ i.fits,
      fits_bound d _ _ i.fits,
    )

pub draw_list-overflow_sub-left : goal.draw_list-overflow_sub-left
draw_list-overflow_sub-left t c =
    let d = c.args.boxes.direction in
    let g = c.args.drawing.now.spacing in
    let v = c.child-item.result in
    let f = list_facts d g _ c.in-Some.last.now _ _ c.loop-child-test.true c.child-item.is in
    let i = c.loop-child.invariant in
    let n = next_to_draw g _ c.in-Some.last.now _ v _ _ _ _ _ c.loop-child-test.true c.child-item.is i.sizes c.take_size-own.ensures in
    omega (arith, c.in_ok-needed.ensures.own, sized_along d (box_of g v) c.take_size-own.result n.size, c.pick-border.ensures, f.along, i.left.size)

pub draw_list-loop-child-preserved : goal.draw_list-loop-child-preserved
draw_list-loop-child-preserved t c =
    let d = c.args.boxes.direction in
    let g = c.args.drawing.now.spacing in
    let v = c.child-item.result in
    let f = list_facts d g _ c.in-Some.last.now _ _ c.loop-child-test.true c.child-item.is in
    let i = c.loop-child.invariant in
    let n = next_to_draw g _ c.in-Some.last.now _ v _ _ _ _ _ c.loop-child-test.true c.child-item.is i.sizes c.take_size-own.ensures in
    let l = c.loop-child.left in
    let own = sized_along d (box_of g v) c.take_size-own.result n.size in
    let first = rw own at c.in_ok-needed.ensures.first in
    let others = rw own at c.in_ok-needed.ensures.others in
    let place = ap (λ (u : InheritedSheet). u.place) c.in_ok-add.ensures.others ∙ ap (λ (u : InheritedSheet). u.place) others in
    let one = inheriting_box c.pass_to.new.first in
    let drawn = (drawer (plan_of c.args.drawing.now) g v).draw one in
    let passed = c.in_ok-draw_value.ensures.passed in
    let block = ap (λ (u : PassedOn). u.block) passed ∙ ap (λ u. beside u drawn.block) c.pass_to.ensures.blocks.1 in
    record {
      so_far = record {
        drawn = i.so_far.drawn ++ (drawn.block ∷ []);
        walk = list_added d (plan_of c.args.drawing.now) g c.in-Some.front.now c.in-Some.last.now c.loop-child.child-index v _ one _ _ _
            l.size l.count drawn _ _ _ _ _ c.loop-child-test.true c.child-item.is i.left.size i.left.count first others refl refl
            (c.in_ok-add.ensures.sizes ∙ ap (λ u. c.loop-child.drawn.sizes.items ++ passes_along d u) passed)
            (c.in_ok-add.ensures.others ∙ ap (λ u. with_passed d (inheriting_box c.pass_to.new.self) (passes_across d u)) passed) i.so_far.walk;
        so_far = more_so_far d _ _ _ _ _ _ _ drawn.block i.so_far.so_far block c.in_ok-add.ensures.blocks c.in_ok-add.ensures.next;
      };
      all = c.add.ensures.all ∙ c.pass_to.ensures.blocks.0 ∙ i.all;
      fits = list_next d g _ _ _ _ l.size l.count _ f i.fits i.left.size i.left.count place;
      left = record {
        size = omega (arith, f.along, c.in_ok-needed.ensures.own, own, c.pick-border.ensures, i.left.size);
        count = omega (arith, f.count, i.left.count);
      };
      sizes = n.next _ c.in_ok-draw_value.ensures.sizes;
    }

pub draw_list-take_last_size-own-requires : goal.draw_list-take_last_size-own-requires
draw_list-take_last_size-own-requires t c =
    some_size c.args.drawing.now.spacing c.in-Some.front.now c.in-Some.last.now _ _ _ _ c.loop-child-test.false c.loop-child.invariant.sizes

pub draw_list-take_size-own-requires : goal.draw_list-take_size-own-requires
draw_list-take_size-own-requires t c =
    let n = next_there c.args.drawing.now.spacing _ c.in-Some.last.now _ c.child-item.result _ _ _ c.loop-child-test.true c.child-item.is
    c.loop-child.invariant.sizes in
    omega (arith, n)

pub draw_list-loop-child-init : goal.draw_list-loop-child-init
draw_list-loop-child-init t c =
    let d = c.args.boxes.direction in
    let g = c.args.drawing.now.spacing in
    let p = plan_of c.args.drawing.now in
    let front = c.in-Some.front.now in
    let last = c.in-Some.last.now in
    let h = inheriting_box c.args.inherited.now in
    let all : c.args.boxes.children.now ≡ front ++ (last ∷ []) = c.in-Some.ensures.cases.0 in
    let boxes : map (box_of g) c.args.boxes.children.now ≡ boxes_left g front last = ap (map (box_of g)) all ∙ sym (left_all g front last) in
    let drawers : map (drawer p g) c.args.boxes.children.now ≡ drawers_left p g front last =
    ap (map (drawer p g)) all ∙ map-append (drawer p g) front (last ∷ []) in
    let whole : list_of d g (drawers_left p g front last) (inheriting_box c.begin.new.all)
    ≡ list_of d g (map (drawer p g) c.args.boxes.children.now) h =
    ap (list_of d g (drawers_left p g front last)) c.begin.ensures.inherited ∙ ap (λ ds. list_of d g ds h) (sym drawers) in
    let sizes = c.begin.ensures.kept.1 ∙ c.requires.drawn_sizes in
    let own = rw boxes at c.requires.own in
    record {
      so_far = record {
        drawn = [];
        walk = record {
          blocks = ap (λ (u : Children). u.blocks) whole;
          sizes_all = ap (λ u. u ++ (list_of d g (drawers_left p g front last) (inheriting_box c.begin.new.all)).sizes) sizes
              ∙ ap (λ (u : Children). u.sizes) whole;
          passed = ap (λ (u : Children). u.passed) whole;
        };
        so_far = none_so_far d _ _ _ _ (ap (map block_sheet_of) (c.begin.ensures.kept.0 ∙ c.requires.blocks)) c.requires.next c.begin.ensures.next;
      };
      all = c.begin.ensures.all ∙ ap (λ u. pick d u (block_sheet_of c.args.inherited.now.block)) c.requires.next;
      fits = subst (Fits (list_box d g (boxes_left g front last))) (sym (ap (λ (u : InheritedSheet). u.place) c.begin.ensures.inherited))
          (rw boxes at c.requires.fits);
      left = record {
        size = c.pick-size.ensures ∙ own_along d (list_box d g (boxes_left g front last)) c.args.drawn.now.own own;
        count = omega (arith, c.in-Some.ensures.cases.1, left_count g front last);
      };
      sizes = unplaced_first _ _ _ c.requires.sizes (ap (λ vs. sizes_in (map (measured g) vs)) all ∙ to_draw_first g front last);
    }

pub draw_list-returns-clause-passed : goal.draw_list-returns-clause-passed
draw_list-returns-clause-passed t c =
    let d = c.args.boxes.direction in
    let g = c.args.drawing.now.spacing in
    let i = c.loop-child.invariant in
    let one = inheriting_box c.pass_rest.new.last in
    let drawn = (drawer (plan_of c.args.drawing.now) g c.in-Some.last.now).draw one in
    let passed = c.in_ok-draw_value-2.ensures.passed in
    let block = ap (λ (u : PassedOn). u.block) passed ∙ ap (λ u. beside u drawn.block) c.pass_rest.ensures.blocks.1 in
    let last = c.in_ok-add-2.ensures in
    let start = block_sheet_of c.args.inherited.now.block in
    let boxes = c.add-2.new.self in
    let whole = c.add-2.new.all in
    let blocks = i.so_far.drawn ++ (drawn.block ∷ []) in
    let so_far : SoFar d start blocks (map block_sheet_of boxes.blocks.items) (block_sheet_of boxes.next.block) =
    more_so_far d start i.so_far.drawn _ _ _ _ _ drawn.block i.so_far.so_far block last.blocks last.next in
    let all : block_sheet_of whole.block ≡ pick d no_block start = c.add-2.ensures.all ∙ c.pass_rest.ensures.blocks.0 ∙ i.all in
    let sizes = c.loop-child.drawn.sizes.items in
    let passed_on = pick d (sizes_left whole.before) (sizes_left whole.above) in
    let e = list_done d (plan_of c.args.drawing.now) g c.args.boxes.children.now c.in-Some.front.now c.in-Some.last.now c.loop-child.child-index
    (inheriting_box c.args.inherited.now) (inheriting_box c.loop-child.inherited) one i.so_far.drawn blocks sizes boxes.sizes.items passed_on drawn
    (omega (arith, c.loop-child-test.false)) c.in-Some.ensures.cases i.so_far.walk c.in_ok-pass_rest.ensures.last refl refl
    (last.sizes ∙ ap (λ u. sizes ++ passes_along d u) passed)
    (passed_across d (inheriting_box c.pass_rest.new.self) (inheriting_box whole) (passes_across d drawn)
    (last.others ∙ ap (λ u. with_passed d (inheriting_box c.pass_rest.new.self) (passes_across d u)) passed)) in
    when_ok c.join.result (all_joined d start blocks (map block_sheet_of boxes.blocks.items) (block_sheet_of boxes.next.block)
    (block_sheet_of whole.block) boxes.sizes.items (sizes_left whole.above) (sizes_left whole.before) _ _ so_far all e) c.join.ensures
