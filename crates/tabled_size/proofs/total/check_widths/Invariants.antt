use Rattle.tabled_size.proofs.Names.{is_some, true, ℕ, ◌<◌, ◌≡◌}
use Rattle.tabled_size.proofs.total.check_widths.Given as goal

abbrev pub invariant-columns : goal.invariant-columns
invariant-columns g l = (i : ℕ) → i < l.column → is_some (g.D.Dimension.width_at l.sizes i) ≡ true
