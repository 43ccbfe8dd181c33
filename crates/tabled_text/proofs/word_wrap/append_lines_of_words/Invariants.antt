use Rattle.tabled_text.proofs.Names.{chars, encode_utf8_all, false, lines_left, lines_of, map}
use Rattle.tabled_text.specs.WordWalk.{pending_words}
use Rattle.tabled_text.proofs.word_wrap.append_lines_of_words.Given as goal

abbrev pub invariant-loop-line : goal.invariant-loop-line
invariant-loop-line g l =
    (t : _) → g.S.Sink.adds l.out (encode_utf8_all (pending_words l.n l.begun (map chars (lines_left l.line-iterator)))) t
    → g.S.Sink.adds l.fn.out (encode_utf8_all (pending_words l.n false (lines_of (chars l.text)))) t
