use Rattle.tabled_text.proofs.Names.{Utf8, chars, length, shadow, ℕ, ◌*◌, ◌+◌, ◌≤◌}
use Rattle.tabled_text.proofs.LetterBytes.{AreCounted}
use Rattle.tabled_text.proofs.measure.few_letters_width.Given as goal

abbrev pub invariant-letters : goal.invariant-letters
invariant-letters l = record {
  counted : (n : ℕ) → AreCounted (chars l.rest) n → AreCounted (chars l.line) (l.columns + n);
  bound : l.columns + 2 * length l.rest ≤ 2 * length l.line;
  utf8 : shadow (Utf8 l.rest);
}

abbrev pub decreases-letters : goal.decreases-letters
decreases-letters l = length l.rest
