use Rattle.tabled_records.proofs.Names.{[], ap, arith, length, length-append, length-map, part, true, ◌-◌, ◌∷◌, ◌≡◌}
use Rattle.std.proofs.Common.{rules}
use Rattle.std.proofs.lemmas.Grind.{common_steps}
use Rattle.tabled_records.proofs.Joining.{on-err}
use Rattle.tabled_records.proofs.Rows.{parts-added, ranges-added}
use Rattle.tabled_records.proofs.RowsRead.{reads-both, reads-some}
use Rattle.tabled_records.proofs.flat_rows.take_flat_rows.Goals as goal

pub rows-preserved : goal.rows-preserved
rows-preserved g c =
    let more : c.in_ok-append_cells.field-0 ≡ true = first_of (search rules, grind common_steps) in
    let a = rw more at c.in_ok-append_cells.ensures.ok in
    let cells = c.rows.cells.items in
    let new = c.append_cells.new.list in
    let ranges = c.rows.ranges in
    let start = c.len-start.result in
    let count = c.len-in-rows.result - start in
    let first : start ≡ length cells = omega (arith, c.len-start.ensures, c.rows.cells.ok.0) in
    let long : count ≡ length a.0 = omega (arith, first, c.len-in-rows.ensures, new.ok.0, ap length a.2, length-append cells a.0) in
    let e = c.in_ok-push.ensures.ok in
    record {
      reads = rw (parts-added cells a.0 new.items ranges c.push.new.self start count c.rows.invariant.inside a.2 first long e)
          (reads-both c.rows.invariant.reads a.1);
      may = (c.in_ok-append_cells.ensures.goes more).0;
      inside = ranges-added cells a.0 new.items ranges c.push.new.self start count c.rows.invariant.inside a.2 first long e;
      within = omega (arith, ap length e, length-append ranges ((start, count) ∷ []), c.len.ensures, c.rows-test.true);
    }

pub returns-in_err-append_cells-clause-err : goal.returns-in_err-append_cells-clause-err
returns-in_err-append_cells-clause-err g c =
    let walked = c.in_err-append_cells.ensures.err in
    on-err c.from_residual.result
    (reads-some c.args.count c.rows.invariant.reads walked.1
    (omega (arith, length-map c.rows.ranges (part c.rows.cells.items), c.len.ensures, c.rows-test.true)))

pub returns-in_err-push-clause-err : goal.returns-in_err-push-clause-err
returns-in_err-push-clause-err g c =
    let more : c.in_ok-append_cells.field-0 ≡ true = first_of (search rules, grind common_steps) in
    let a = rw more at c.in_ok-append_cells.ensures.ok in
    on-err c.from_residual-in_err-push.result
    (reads-some c.args.count c.rows.invariant.reads a.1
    (omega (arith, length-map c.rows.ranges (part c.rows.cells.items), c.len.ensures, c.rows-test.true)))
