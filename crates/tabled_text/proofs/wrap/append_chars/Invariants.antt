use Rattle.tabled_text.proofs.Names.{Utf8, append_all, chars, encode_utf8_all, length, map, shadow, unit_of_char, used_after, ◌≡◌}
use Rattle.tabled_text.proofs.wrap.append_chars.Given as goal

abbrev pub invariant-pieces : goal.invariant-pieces
invariant-pieces g l =
    (used_after l.n l.column (map unit_of_char (chars l.rest)) ≡ used_after l.n l.used (map unit_of_char (chars l.text)))
    × ((t : _) → g.S.Sink.adds l.out (encode_utf8_all (append_all l.n l.column (map unit_of_char (chars l.rest)))) t
    → g.S.Sink.adds l.fn.out (encode_utf8_all (append_all l.n l.used (map unit_of_char (chars l.text)))) t)
    × shadow (Utf8 l.rest)

abbrev pub decreases-pieces : goal.decreases-pieces
decreases-pieces g l = length l.rest
