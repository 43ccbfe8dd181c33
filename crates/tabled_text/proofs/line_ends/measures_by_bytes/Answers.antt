use Rattle.tabled_text.proofs.Names.{arith, length, sym}
use Rattle.tabled_text.proofs.ByteLines.{ceiled, ends_printable, several_lines, takes_lines}
use Rattle.tabled_text.proofs.line_ends.measures_by_bytes.Goals as goal

pub returns : goal.returns
returns c =
    let n = c.args.n in
    let text = c.args.text.now in
    let count = c.div_ceil.result in
    let ends = ends_printable n text c.requires.ends in
    let bounds = ceiled n count (length text) ends.some c.div_ceil.ensures in
    let own = takes_lines n count text ends.some ends.printable (omega arith) bounds.0 bounds.1 in
    record { columns = omega (arith, own.columns); lines = sym own.lines; several = several_lines n count (length text) c.requires.more bounds.0 }
