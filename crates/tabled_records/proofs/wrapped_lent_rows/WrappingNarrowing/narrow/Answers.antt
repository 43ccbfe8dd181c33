use Rattle.tabled_records.proofs.Names.{arith}
use Rattle.tabled_text.proofs.Bridge.{some_line}
use Rattle.tabled_text.specs.LineEnds.{wrapped_text}
use Rattle.tabled_records.proofs.wrapped_lent_rows.WrappingNarrowing.narrow.Goals as goal

pub returns-in-Some : goal.returns-in-Some
returns-in-Some c =
    let lines = c.in-Some.ensures.lines_are in
    (omega (arith, lines, some_line (wrapped_text c.args.n c.args.self.now.words c.args.line.now)), c.in-Some.ensures)
