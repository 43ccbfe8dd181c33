use Rattle.tabled_pool.proofs.Names.{arith, false, has_zero_width, nat_tests, plan, ◌≡◌}
use Rattle.tabled_pool.proofs.Padded.{padded_columns}
use Rattle.tabled_pool.proofs.pool_table.PoolTable.has_columns.Goals as goal

pub returns-then-more-gt0 : goal.returns-then-more-gt0
returns-then-more-gt0 c =
    let most = rw c.get_padding-padding.ensures at c.max-more.ensures in
    let columns : has_zero_width (plan c.args.self.now).parts ≡ false =
    padded_columns c.args.self.now (omega (arith, most, c.if-more-gt0.true)) in
    grind (arith, nat_tests)
