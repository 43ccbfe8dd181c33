use Rattle.tabled_pool.proofs.Names.{[], length, map, rules, subst, the_lemmas, ◌∙◌, ◌≡◌}
use Rattle.std.proofs.Common.{IfSome}
use Rattle.tabled_pool.specs.Sizes.{AreAdded, measured, sizes_in, sizes_within}
use Rattle.tabled_pool.specs.Tree.{child_count}
use Rattle.tabled_pool.proofs.Measures.{sizes_inside, some_added}
use Rattle.tabled_pool.proofs.Sums.{both_exceed, last_exceeds, measured_all, measured_last, measured_more, own_exceeds}
use Rattle.tabled_pool.proofs.sizes.+sizes.Goals as goal

pub measure-returns-in-Cell-clause-size : goal.measure-returns-in-Cell-clause-size
measure-returns-in-Cell-clause-size t c = rw (c.inner.ensures.same.box c.args.spacing.now) (search (rules, the_lemmas))

pub measure-returns-in-Cell-clause-list : goal.measure-returns-in-Cell-clause-list
measure-returns-in-Cell-clause-list t c =
    let g = c.args.spacing.now in
    let none : sizes_within g c.inner.result.now ≡ [] = search (rules, the_lemmas) in
    some_added c.leaf_size.result c.args.list.now (sizes_within g c.args.value.now) (c.inner.ensures.same.sizes g ∙ none)

pub measure-returns-in-Row-clause-size : goal.measure-returns-in-Row-clause-size
measure-returns-in-Row-clause-size t c = rw (c.inner.ensures.same.box c.args.spacing.now) (search (rules, the_lemmas))

pub measure-returns-in-Row-clause-list : goal.measure-returns-in-Row-clause-list
measure-returns-in-Row-clause-list t c =
    let g = c.args.spacing.now in
    let vs = c.as_slice.result.now in
    let sizes : sizes_within g c.inner.result.now ≡ sizes_in (map (measured g) vs) = search (rules, the_lemmas) in
    let count : child_count c.inner.result.now ≡ length (map child_count vs) = search (rules, the_lemmas) in
    let same = sizes_inside g c.args.value.now _ vs (c.inner.ensures.same.sizes g) sizes count c.inner.ensures.several in
    subst (λ ss. IfSome c.measure_list.result (λ _. AreAdded c.args.list.now c.measure_list.new.list ss)) same c.measure_list.ensures.list

pub measure-returns-in-Column-clause-size : goal.measure-returns-in-Column-clause-size
measure-returns-in-Column-clause-size t c = rw (c.inner.ensures.same.box c.args.spacing.now) (search (rules, the_lemmas))

pub measure-returns-in-Column-clause-list : goal.measure-returns-in-Column-clause-list
measure-returns-in-Column-clause-list t c =
    let g = c.args.spacing.now in
    let vs = c.as_slice-in-Column.result.now in
    let sizes : sizes_within g c.inner.result.now ≡ sizes_in (map (measured g) vs) = search (rules, the_lemmas) in
    let count : child_count c.inner.result.now ≡ length (map child_count vs) = search (rules, the_lemmas) in
    let same = sizes_inside g c.args.value.now _ vs (c.inner.ensures.same.sizes g) sizes count c.inner.ensures.several in
    subst (λ ss. IfSome c.measure_list-in-Column.result (λ _. AreAdded c.args.list.now c.measure_list-in-Column.new.list ss)) same
    c.measure_list-in-Column.ensures.list

pub measure_list-returns-in_err-all-clause-size : goal.measure_list-returns-in_err-all-clause-size
measure_list-returns-in_err-all-clause-size t c =
    rw c.from_residual.ensures (last_exceeds c.args.direction c.args.spacing.now _ _ c.in-Some.last.now c.in-Some.ensures.cases.0 c.in_err-all.ensures.size)

pub measure_list-children-init : goal.measure_list-children-init
measure_list-children-init t c =
    measured_last c.args.direction c.args.spacing.now _ _ c.in-Some.last.now c.in_ok-all.all _ _ _ c.in-Some.ensures.cases.0
    c.in_ok-all.ensures.size c.in_ok-all.ensures.list c.add.ensures

pub measure_list-returns-in_err-own-clause-size : goal.measure_list-returns-in_err-own-clause-size
measure_list-returns-in_err-own-clause-size t c =
    rw c.from_residual-in_err-own.ensures (own_exceeds c.args.direction c.args.spacing.now _ _ _ c.in-Some-split_last.child.now _ _ _
    c.children.invariant c.in-Some-split_last.ensures.cases.0 c.in_err-own.ensures.size)

pub measure_list-returns-in_err-all-2-clause-size : goal.measure_list-returns-in_err-all-2-clause-size
measure_list-returns-in_err-all-2-clause-size t c =
    rw c.from_residual-in_err-all-2.ensures (both_exceed c.args.direction c.args.spacing.now _ _ _ c.in-Some-split_last.child.now _ _ _
    c.children.invariant c.in-Some-split_last.ensures.cases.0 c.in_ok-own.own c.in_ok-own.ensures.size c.in_err-all-2.ensures)

pub measure_list-children-preserved : goal.measure_list-children-preserved
measure_list-children-preserved t c =
    measured_more c.args.direction c.args.spacing.now _ _ _ c.in-Some-split_last.child.now _ _ _ c.children.invariant
    c.in-Some-split_last.ensures.cases.0 c.in_ok-own.own c.in_ok-all-2.all _ _ c.in_ok-own.ensures.size c.in_ok-own.ensures.list
    c.add-in-Some-split_last.ensures c.in_ok-all-2.ensures

pub measure_list-returns-clause-list : goal.measure_list-returns-clause-list
measure_list-returns-clause-list t c =
    measured_all c.args.direction c.args.spacing.now _ _ _ _ _ c.children.invariant c.in_default-split_last.ensures.cases
