use Rattle.std.proofs.Common.{ℕ, ◌-◌, ◌<◌, ◌≤◌}
use Rattle.tabled_text.specs.Cut.{NeedsFill}
use Rattle.tabview_records.proofs.narrowed.whole_cut.Given as goal

abbrev pub invariant-loop-fewer : goal.invariant-loop-fewer
invariant-loop-fewer l = (more : ℕ) → l.n - l.fewer < more → more ≤ l.n → NeedsFill more l.line
