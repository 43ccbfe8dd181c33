use Rattle.tabled_entity.proofs.Names.{arith}
use Rattle.tabled_entity.proofs.Runs.{run-row-held, run-row-same}
use Rattle.tabled_entity.proofs.run_map.RunMap+RowPlaces.insert_cell.Goals as goal

pub returns-in-Some-clause-ok : goal.returns-in-Some-clause-ok
returns-in-Some-clause-ok c =
    run-row-held c.args.self.now c.in-Some.index c.index_mut.result.now c.insert.new.self c.args.row c.args.column c.args.value
    c.insert.result c.in-Some.ensures.some.1 (grind (arith, c.if-index-len.true, c.len.ensures, c.args.self.now.run.ok.0)) c.index_mut.ensures.value c.insert.ensures.ok

pub returns-in-Some-clause-err : goal.returns-in-Some-clause-err
returns-in-Some-clause-err c =
    run-row-same c.args.self.now c.in-Some.index c.index_mut.result.now c.insert.new.self c.insert.result
    (grind (arith, c.if-index-len.true, c.len.ensures, c.args.self.now.run.ok.0)) c.index_mut.ensures.value c.insert.ensures.err
