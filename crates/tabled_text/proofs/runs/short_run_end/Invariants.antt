use Rattle.tabled_text.proofs.Names.{LieWithin, length, ◌-◌, ◌≤◌}
use Rattle.tabled_text.proofs.runs.short_run_end.Given as goal

abbrev pub invariant-bytes : goal.invariant-bytes
invariant-bytes l = record {
  from : l.from ≤ l.at;
  end : l.at ≤ length l.bytes;
  passed : LieWithin l.first l.last l.bytes l.from l.at;
}

abbrev pub decreases-bytes : goal.decreases-bytes
decreases-bytes l = length l.bytes - l.at
