use Rattle.tabled_text.proofs.Names.{get_or, ℕ, ◌<◌, ◌≡◌, ◌≤◌}
use Rattle.tabled_text.proofs.wrap.after_space.Given as goal

abbrev pub invariant-bytes : goal.invariant-bytes
invariant-bytes l = record {
  end : l.at ≤ l.end;
  none : (k : ℕ) → l.at ≤ k → k < l.end → get_or l.bytes k 0 ≡ 32 → ⊥;
}

abbrev pub decreases-bytes : goal.decreases-bytes
decreases-bytes l = l.at
