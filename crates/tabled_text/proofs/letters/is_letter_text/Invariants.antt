use Rattle.tabled_text.proofs.Names.{is_letter_or_break, length, list_all, take, true, ◌-◌, ◌≡◌, ◌≤◌}
use Rattle.tabled_text.proofs.letters.is_letter_text.Given as goal

abbrev pub invariant-whole : goal.invariant-whole
invariant-whole l = record {
  end : l.at ≤ length l.bytes;
  passed : list_all is_letter_or_break (take l.at l.bytes) ≡ true;
}

abbrev pub decreases-whole : goal.decreases-whole
decreases-whole l = length l.bytes - l.at
