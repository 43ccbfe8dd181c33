use Rattle.tabled_text.proofs.Names.{Utf8, append_all, chars, encode_utf8_all, length, shadow, units_of_words, words_of}
use Rattle.tabled_text.proofs.wrap.append_words.Given as goal

abbrev pub invariant-words : goal.invariant-words
invariant-words g l =
    ((t : _) → g.S.Sink.adds l.out (encode_utf8_all (append_all l.n l.column (units_of_words l.n (words_of (chars l.rest))))) t
    → g.S.Sink.adds l.fn.out (encode_utf8_all (append_all l.n 0 (units_of_words l.n (words_of (chars l.line))))) t)
    × shadow (Utf8 l.rest)

abbrev pub decreases-words : goal.decreases-words
decreases-words g l = length l.rest
