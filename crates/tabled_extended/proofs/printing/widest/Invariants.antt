use Rattle.tabled_extended.proofs.Names.{drop, max, widest, ◌≡◌}
use Rattle.tabled_extended.proofs.printing.widest.Given as goal

abbrev pub invariant-texts : goal.invariant-texts
invariant-texts l = max l.columns (widest (drop l.text-index l.texts)) ≡ widest l.texts
