use Rattle.tabled_compact.proofs.Names.{[], arith, length-append, refl, rules, ◌++◌, ◌∷◌}
use Rattle.tabled_records.proofs.RowsRead.{may-cells, may-step, reads-both, reads-none, reads-one, reads-open, reads-whole}
use Rattle.tabled_compact.proofs.rows.refuse.Goals as goal

pub rows-init : goal.rows-init
rows-init g c = record { cells = []; reads = reads-none c.args.rows.now; may = c.requires; count = omega arith }

pub walk-requires : goal.walk-requires
walk-requires g c = may-cells c.rows.invariant.may c.in-Some.ensures.steps

pub returns-then-left-eq0 : goal.returns-then-left-eq0
returns-then-left-eq0 g c =
    let i = c.rows.invariant in
    let row = c.walk.ensures in
    let one = length-append i.cells (row.0 ∷ []) in
    let zero = c.if-left-eq0.true in
    let count = i.count in
    (i.cells ++ row.0 ∷ [], _, reads-open (reads-both i.reads (reads-one c.in-Some.ensures.steps row.1)), (omega (arith, one, zero, count), refl))

pub rows-preserved : goal.rows-preserved
rows-preserved g c =
    let i = c.rows.invariant in
    let row = c.walk.ensures in
    let one = length-append i.cells (row.0 ∷ []) in
    let some = c.if-left-eq0.false in
    let count = i.count in
    let on = c.in-Some.ensures.goes.on i.may.ends in
    record {
      cells = i.cells ++ row.0 ∷ [];
      reads = reads-both i.reads (reads-one c.in-Some.ensures.steps row.1);
      may = may-step i.may c.in-Some.ensures.steps on.0 on.1;
      count = omega (arith, one, some, count);
    }

pub returns : goal.returns
returns g c =
    let i = c.rows.invariant in
    let count = i.count in
    (i.cells, _, reads-whole i.reads (search rules), (omega (arith, count), refl))
