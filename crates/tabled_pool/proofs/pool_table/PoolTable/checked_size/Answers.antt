use Rattle.tabled_pool.proofs.Names.{arith, inl, inr, ⊎_elim}
use Rattle.tabled_pool.proofs.pool_table.PoolTable.checked_size.Goals as goal

pub returns-in_err-own-clause-size : goal.returns-in_err-own-clause-size
returns-in_err-own-clause-size c =
    let e = c.in_err-own.ensures.size in
    rw c.from_residual.ensures (⊎_elim (λ h. inl (omega (arith, h))) (λ h. inr (omega (arith, h))) e)

pub returns-clause-size : goal.returns-clause-size
returns-clause-size c =
    let own = c.in_ok-own.ensures.size in
    let width = rw (c.frame_of-frame.ensures, c.get_borders.ensures, own.0) at c.in_ok-width.ensures in
    let height = rw (c.frame_of-frame.ensures, c.get_borders.ensures, own.1) at c.in_ok-height.ensures in
    let across = rw (c.get_margin-margin.ensures, width) at c.in_ok-sum.ensures in
    let down = rw (c.get_margin-margin.ensures, height) at c.in_ok-sum-2.ensures in
    (width, height, record { width = omega (arith, across); height = omega (arith, down) })
