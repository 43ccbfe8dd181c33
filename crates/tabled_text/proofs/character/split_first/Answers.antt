use Rattle.tabled_text.proofs.Names.{ap, arith, chars_past_char, encode_utf8, len_utf8_bounds, length, length-append, length-encode, ◌++◌}
use Rattle.tabled_text.proofs.Names.{◌≡◌}
use Rattle.tabled_text.proofs.character.split_first.Goals as goal

pub returns : goal.returns
returns c =
    let x = c.in_ok-first.first in
    let rest = c.as_str.result.now in
    let h = c.in_ok-first.ensures.steps.0 in
    let s = c.as_str.ensures in
    let e : c.args.text.now ≡ encode_utf8 x ++ rest = cc (h, s) in (
      e,
      omega (arith, ap length e, length-append (encode_utf8 x) rest, length-encode x, len_utf8_bounds x),
      chars_past_char c.args.text.now rest x c.utf8.text e,
    )
