use Rattle.tabled_size.proofs.Names.{is_some, true, ℕ, ◌<◌, ◌≡◌}
use Rattle.tabled_size.proofs.total.check_heights.Given as goal

abbrev pub invariant-rows : goal.invariant-rows
invariant-rows g l = (i : ℕ) → i < l.row → is_some (g.D.Dimension.height_at l.sizes i) ≡ true
