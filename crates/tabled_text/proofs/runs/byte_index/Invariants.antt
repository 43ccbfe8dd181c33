use Rattle.tabled_text.proofs.Names.{length, ◌-◌, ◌≤◌}
use Rattle.tabled_text.specs.Runs.{IsMissing}
use Rattle.tabled_text.proofs.runs.byte_index.Given as goal

abbrev pub invariant-runs : goal.invariant-runs
invariant-runs l = record {
  end : l.at ≤ length l.bytes;
  before : IsMissing l.byte l.bytes l.at;
}

abbrev pub decreases-runs : goal.decreases-runs
decreases-runs l = length l.bytes - l.at
