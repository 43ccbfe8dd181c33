use Rattle.tabled_pool.proofs.Names.{arith}
use Rattle.tabled_line.proofs.Contents.{columns-one, line-first}
use Rattle.tabled_pool.proofs.tall_texts.BoxText.line.Goals as goal

pub returns-clause-line : goal.returns-clause-line
returns-clause-line c = line-first c.args.self.now.content c.args.row (omega (arith, c.if-lines-ne1.false)) (omega (arith, c.if-row-gt0.false))

pub returns-clause-columns : goal.returns-clause-columns
returns-clause-columns c = columns-one c.args.self.now.content (omega (arith, c.if-lines-ne1.false))
