use Rattle.tabled_text.proofs.Names.{chars, encode_utf8_all, false, lines_left, lines_of, map, pending}
use Rattle.tabled_text.proofs.wrap.append_lines.Given as goal

abbrev pub invariant-loop-line : goal.invariant-loop-line
invariant-loop-line g l =
    (t : _) → g.S.Sink.adds l.out (encode_utf8_all (pending l.n l.words l.begun (map chars (lines_left l.line-iterator)))) t
    → g.S.Sink.adds l.fn.out (encode_utf8_all (pending l.n l.words false (lines_of (chars l.text)))) t
