use Rattle.tabled_text.proofs.Names.{Utf8, chars, fits_word, length, list_all, shadow, words_of, ◌≡◌}
use Rattle.tabled_text.proofs.fewest_lines.words_fit.Given as goal

abbrev pub invariant-words : goal.invariant-words
invariant-words l = (list_all (fits_word l.n) (words_of (chars l.rest)) ≡ list_all (fits_word l.n) (words_of (chars l.line))) × shadow (Utf8 l.rest)

abbrev pub decreases-words : goal.decreases-words
decreases-words l = length l.rest
