use Rattle.tabled_pool.proofs.Names.{spacing_of}
use Rattle.tabled_pool.proofs.pool_table.PoolTable.inner_size.Goals as goal

pub returns-clause-size : goal.returns-clause-size
returns-clause-size c = rw (c.requires.box (spacing_of c.args.self.now)) (rw c.spacing.ensures at c.measure.ensures.size)

pub returns-clause-list : goal.returns-clause-list
returns-clause-list c = rw c.spacing.ensures at c.measure.ensures.list
