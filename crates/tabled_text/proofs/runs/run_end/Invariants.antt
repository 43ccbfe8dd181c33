use Rattle.tabled_text.proofs.Names.{LieWithin, length, ◌-◌, ◌≤◌}
use Rattle.tabled_text.proofs.runs.run_end.Given as goal

abbrev pub invariant-whole : goal.invariant-whole
invariant-whole l = record {
  from : l.from ≤ l.at;
  end : l.at ≤ length l.bytes;
  passed : LieWithin l.first l.last l.bytes l.from l.at;
}

abbrev pub decreases-whole : goal.decreases-whole
decreases-whole l = length l.bytes - l.at
