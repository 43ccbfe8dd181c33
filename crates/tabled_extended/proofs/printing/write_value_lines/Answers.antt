use Rattle.tabled_extended.proofs.Names.{arith, lines-further, sym, value_line}
use Rattle.tabled_line.proofs.Leading.{lines-stopped}
use Rattle.tabled_extended.proofs.Zipped.{zip-next, zip-rest, zip-all}
use Rattle.tabled_extended.proofs.printing.write_value_lines.Goals as goal

pub values-preserved : goal.values-preserved
values-preserved g c =
    lines-further c.values.invariant c.in_ok-write_value_line.ensures
    (zip-next (value_line c.args.columns) _ _ c.index-fields-index.is c.index-values-index.is (omega arith) (omega arith))

pub returns-in_err-write_value_line : goal.returns-in_err-write_value_line
returns-in_err-write_value_line g c =
    lines-stopped _ _ _ _ _ c.values.invariant c.in_err-write_value_line.ensures c.from_residual.ensures.1
    (zip-rest (value_line c.args.columns) _ _ c.index-fields-index.is c.index-values-index.is (omega arith) (omega arith))

pub returns : goal.returns
returns g c = rw (sym (zip-all c.args.fields.now c.args.values.now c.values.index (omega arith))) c.values.invariant
