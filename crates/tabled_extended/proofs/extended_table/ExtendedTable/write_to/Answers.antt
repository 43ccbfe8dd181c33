use Rattle.tabled_extended.proofs.Names.{arith, length-map, sym}
use Rattle.tabled_extended.proofs.Records.{so_far-none, so_far-more, so_far-all, records-stopped}
use Rattle.tabled_extended.proofs.extended_table.ExtendedTable.write_to.Goals as goal

pub records-init : goal.records-init
records-init g c = so_far-none _ _ _

pub records-preserved : goal.records-preserved
records-preserved g c =
    let p = c.in_ok-write_record.ensures in
    let e = c.in-Some.ensures in
    so_far-more p.0 c.records.invariant p.1 (rw (sym e.fields, sym e.values) p.2)

pub returns-in_err-write_record : goal.returns-in_err-write_record
returns-in_err-write_record g c =
    let e = c.in-Some.ensures in
    let w = c.in-Some.widths in
    records-stopped c.write_record.new.begun c.from_residual.result _ c.records.invariant
    (rw length-map (omega arith)) (λ t. absurd (omega (arith, t.past, w.in_range, e.fields, e.values)))
    (rw (e.fields, e.values) at c.in_err-write_record.ensures) c.from_residual.ensures.1

pub returns : goal.returns
returns g c =
    let e = c.in-Some.ensures in
    let w = c.in-Some.widths in
    (λ t. absurd (omega (arith, t.past, w.in_range, e.fields, e.values)), so_far-all c.records.invariant (rw length-map (omega arith)))
