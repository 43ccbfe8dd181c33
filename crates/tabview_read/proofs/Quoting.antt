-- Names in quotes.
use Rattle.std.proofs.Common.{◌≡◌, ℕ, ◌==◌, List, [], ◌∷◌, ◌++◌, ◌∙◌, ap, arith, chars, encode_utf8, encode_utf8_all, flat_map, IsUtf8, length}
use Rattle.std.proofs.lemmas.Str.{chars-nil, chars_past_char, encodes-append}
use Rattle.tabview_read.specs.Tables.{double_char, doubled}

-- one more character is written
pub doubled-step : (c : ℕ) (bs rest : List ℕ) → IsUtf8 bs → bs ≡ encode_utf8 c ++ rest
    → doubled bs ≡ encode_utf8_all (double_char c) ++ doubled rest
doubled-step c bs rest u e =
    ap (λ cs. encode_utf8_all (flat_map double_char cs)) (chars_past_char bs rest c u e)
    ∙ encodes-append (double_char c) (flat_map double_char (chars rest))

pub doubled-empty : (bs : List ℕ) → length bs ≡ 0 → doubled bs ≡ []
doubled-empty [] h = ap (λ cs. encode_utf8_all (flat_map double_char cs)) chars-nil
doubled-empty (b ∷ bs) h = absurd (omega arith)
