-- Escaped texts: control characters, quotes and backslashes are written as visible characters.
use Rattle.std.specs.Prelude.{ℕ, ◌==◌, ◌||◌, false, List, [], ◌∷◌, ◌++◌, if◌then◌else◌, chars, codes, encode_utf8}
use Rattle.std.specs.Char.{is_control}
use Rattle.std.specs.Fmt.{digits}
use Rattle.std.specs.List.{flat_map}

-- an escaped character: quotes and backslashes after a backslash; tab, carriage return, line feed
-- and U+0000 as a letter or 0; other control characters as lower-case hexadecimal numbers
abbrev pub escape : ℕ → List ℕ
escape c =
    if c == 34 || (c == 39 || c == 92) then 92 ∷ c ∷ []
    else (if c == 9 then codes "\\t"
    else (if c == 13 then codes "\\r"
    else (if c == 10 then codes "\\n"
    else (if c == 0 then codes "\\0"
    else (if is_control c then codes "\\u{" ++ (digits 16 false c ++ codes "}")
    else encode_utf8 c)))))

abbrev pub escaped : List ℕ → List ℕ
escaped text = flat_map escape (chars text)
