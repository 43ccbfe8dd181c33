use Rattle.tabled_text.proofs.Names.{Utf8, chars, encode_utf8_all, length, shadow, words_of}
use Rattle.tabled_text.specs.WordWalk.{next_words}
use Rattle.tabled_text.proofs.word_wrap.append_next_words.Given as goal

abbrev pub invariant-words : goal.invariant-words
invariant-words g l =
    ((t : _) → g.S.Sink.adds l.out (encode_utf8_all (next_words l.n l.column (words_of (chars l.rest)))) t
    → g.S.Sink.adds l.fn.out (encode_utf8_all (next_words l.n l.used (words_of (chars l.words)))) t)
    × shadow (Utf8 l.rest)

abbrev pub decreases-words : goal.decreases-words
decreases-words g l = length l.rest
