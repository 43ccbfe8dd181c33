use Rattle.tabled_priority.proofs.Names.{arith, greatest_usize, length, sym, taken, ◌∙◌, ◌≡◌}
use Rattle.tabled_priority.specs.Laws.Shrunk.{IsMinShrunk-still}
use Rattle.tabled_priority.proofs.Between.{min_between}
use Rattle.tabled_priority.proofs.Givers.{spare_up_to-all}
use Rattle.tabled_priority.proofs.Passes.{min-shrunk}
use Rattle.tabled_priority.proofs.Visiting.{IsBounded-whole, IsBounded-passes, shrinking}
use Rattle.tabled_priority.proofs.in_order.shrink_smallest.Goals as goal

pub returns-then-wanted-eq0-clause-shrinks : goal.returns-then-wanted-eq0-clause-shrinks
returns-then-wanted-eq0-clause-shrinks c =
    IsMinShrunk-still _ _ _ _ (sym c.amount_by-wanted.ensures.amount ∙ c.if-wanted-eq0.true)

pub returns-then-wanted-eq0-clause-between : goal.returns-then-wanted-eq0-clause-between
returns-then-wanted-eq0-clause-between c = min_between _ _ _ _ _ (returns-then-wanted-eq0-clause-shrinks c)

pub returns-then-wanted-eq0-clause-shrinking : goal.returns-then-wanted-eq0-clause-shrinking
returns-then-wanted-eq0-clause-shrinking c =
    let w = c.amount_by-wanted.ensures.amount in
    shrinking _ _ _ _ _ _ _ (returns-then-wanted-eq0-clause-shrinks c).takes (sym (sym w ∙ c.if-wanted-eq0.true))
    (IsBounded-whole _ _ _ _ (length c.args.values.now) (omega arith) c.amount_by-wanted.ensures.steps (omega arith))

pub find_sizes-sizes-requires-clause-enough : goal.find_sizes-sizes-requires-clause-enough
find_sizes-sizes-requires-clause-enough c =
    let old = c.args.values.now in
    let w : c.amount_by-wanted.result ≡ taken old c.args.mins.now c.args.by = c.amount_by-wanted.ensures.amount in
    let a = spare_up_to-all old c.args.mins.now greatest_usize c.amount_by-wanted.ensures.values_fit in
    omega arith

pub returns-clause-shrinks : goal.returns-clause-shrinks
returns-clause-shrinks c =
    let s = c.find_sizes-sizes.ensures in
    min-shrunk _ _ _ _ _ c.take-taken.new.values _ c.amount_by-wanted.result c.take-taken.result c.take.result
    (record {
      is = c.amount_by-wanted.ensures.amount;
      less = s.below;
      enough = s.enough;
      outside = s.outside;
      smaller = c.take-taken.ensures.taken;
      next = c.take.ensures.taken;
    })

pub returns-clause-between : goal.returns-clause-between
returns-clause-between c = min_between _ _ _ _ _ (returns-clause-shrinks c)

pub returns-clause-shrinking : goal.returns-clause-shrinking
returns-clause-shrinking c =
    let a = c.find_sizes-sizes.ensures.fewest in
    let b = c.find_sizes-sizes.ensures.most in
    let d = c.take-taken.ensures.steps in
    let e = c.take.ensures.steps in
    let len = c.take-taken.ensures.taken.permitted.same_length in
    shrinking _ _ _ _ _ _ _ (returns-clause-shrinks c).takes c.amount_by-wanted.ensures.amount
    (IsBounded-passes _ _ _ _ _ c.amount_by-wanted.ensures.steps (omega arith) (omega arith))
