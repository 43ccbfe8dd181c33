-- Texts with line feeds inserted.
use Rattle.std.specs.Prelude.{◌≡◌, ℕ, Bool, nat_le, List, chars, map}
use Rattle.std.specs.List.{AllZip, flat_map, join_with_byte, list_all}
use Rattle.tabled_text.specs.Measure.{lines_of, char_count}

-- each line of the old text is cut into parts, and each part is a line of the new text: without the
-- line feeds between the parts of a line, the new text is the old one. Texts are bytes, parts are
-- characters
pub record HasOldText (old new : List ℕ) : Type 0 where
  pub parts : List (List (List ℕ))
  pub each : AllZip (λ line cut. flat_map (λ part. part) cut ≡ line) (lines_of (chars old)) parts
  pub joined : chars new ≡ join_with_byte 10 (map (join_with_byte 10) parts)

-- no character counts more than n
abbrev pub all_chars_fit : ℕ → List ℕ → Bool
all_chars_fit n cs = list_all (λ c. nat_le (char_count c) n) cs
