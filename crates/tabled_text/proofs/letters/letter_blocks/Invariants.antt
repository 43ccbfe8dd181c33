use Rattle.tabled_text.proofs.Names.{AreLetters, length, take, ◌-◌, ◌≤◌}
use Rattle.tabled_text.proofs.letters.letter_blocks.Given as goal

abbrev pub invariant-whole : goal.invariant-whole
invariant-whole l = record {
  end : l.at ≤ length l.bytes;
  letters : AreLetters (take l.at l.bytes) l.columns;
  fits : l.columns ≤ l.n;
}

abbrev pub decreases-whole : goal.decreases-whole
decreases-whole l = length l.bytes - l.at
