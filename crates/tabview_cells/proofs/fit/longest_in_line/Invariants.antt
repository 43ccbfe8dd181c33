use Rattle.std.proofs.Common.{◌≡◌, List, ℕ, map}
use Rattle.std.specs.Borrow.{Bor}
use Rattle.tabled_text.specs.Measure.{greatest, line_columns}
use Rattle.tabview_cells.proofs.fit.longest_in_line.Given as goal

abbrev pub invariant-loop-word : goal.invariant-loop-word
invariant-loop-word l = l.most ≡ greatest (map (λ (w : Bor (List ℕ)). line_columns w.now) l.yielded)
