use Rattle.tabled_text.proofs.Names.{AreLetters, drop, length, ℕ, ◌*◌, ◌+◌, ◌-◌, ◌≤◌}
use Rattle.tabled_text.proofs.letters.letter_columns.Given as goal

abbrev pub invariant-whole : goal.invariant-whole
invariant-whole l = record {
  end : l.at ≤ length l.bytes;
  bound : l.columns ≤ 2 * l.at;
  before : (n : ℕ) → AreLetters (drop l.at l.bytes) n → AreLetters (drop l.start l.bytes) (l.columns + n);
}

abbrev pub decreases-whole : goal.decreases-whole
decreases-whole l = length l.bytes - l.at
