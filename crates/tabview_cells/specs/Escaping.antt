-- Control characters and directional marks as visible ones. A text is a list of its characters, unless
-- it is one of bytes.
use Rattle.std.specs.Prelude.{◌≡◌, ℕ, refl, ◌+◌, ◌-◌, ◌==◌, ◌&&◌, ◌||◌, Bool, true, false, not, List, [], ◌∷◌, if◌then◌else◌, nat_lt, chars, encode_utf8_all}
use Rattle.std.specs.Int.{is_in_range}
use Rattle.std.specs.List.{flat_map}

-- the control characters of Unicode: U+0000 to U+001F, and U+007F to U+009F
abbrev pub is_control : ℕ → Bool
is_control c = is_in_range 0 0x1F c || is_in_range 0x7F 0x9F c

-- the marks that turn the direction of a text: U+202A to U+202E, and U+2066 to U+2069
abbrev pub is_directional : ℕ → Bool
is_directional c = is_in_range 0x202A 0x202E c || is_in_range 0x2066 0x2069 c

-- a character that would act on a terminal where it is printed
abbrev pub is_acting : ℕ → Bool
is_acting c = is_control c || is_directional c

-- the signs that represent these characters: the pictures from U+2400, and the mark U+2426
abbrev pub is_sign : ℕ → Bool
is_sign c = is_in_range 0x2400 0x2426 c

-- a character that escaping changes: one that acts, unless it is a line feed that stays, or a sign
abbrev pub is_escaped : Bool → ℕ → Bool
is_escaped lines c = if c == 10 then not lines else (is_sign c || is_acting c)

-- a character that escaping changes: its picture, that of U+007F, the mark and a letter, or the mark
-- and the sign itself
abbrev pub sign_of : ℕ → List ℕ
sign_of c =
    if nat_lt c 0x20 then (0x2400 + c) ∷ []
    else if c == 0x7F then 0x2421 ∷ []
    else if is_in_range 0x80 0x9F c then 0x2426 ∷ (c - 0x40) ∷ []
    else if is_in_range 0x202A 0x202E c then 0x2426 ∷ (c - 0x1FC9) ∷ []
    else if is_in_range 0x2066 0x2069 c then 0x2426 ∷ (c - 0x2000) ∷ []
    else 0x2426 ∷ c ∷ []

-- what is shown for a character
abbrev pub escape_char : Bool → ℕ → List ℕ
escape_char lines c = if is_escaped lines c then sign_of c else c ∷ []

-- what is shown for a text
abbrev pub escape : Bool → List ℕ → List ℕ
escape lines text = flat_map (escape_char lines) text

-- that of a text of bytes
abbrev pub escaped : Bool → List ℕ → List ℕ
escaped lines text = encode_utf8_all (escape lines (chars text))

-- the character that a sign represents
abbrev pub meaning : ℕ → ℕ
meaning c = if is_in_range 0x2400 0x241F c then c - 0x2400 else if c == 0x2421 then 0x7F else c

-- the character that one after the mark represents: a letter below U+0060 a control character, one
-- from `a` to `i` a directional mark, and a sign itself
abbrev pub marked_meaning : ℕ → ℕ
marked_meaning c =
    if nat_lt c 0x60 then c + 0x40
    else if nat_lt c 0x66 then c + 0x1FC9
    else if nat_lt c 0x6A then c + 0x2000
    else c

-- the text that is read from what is shown, after a mark or not
abbrev pub unescape_after : Bool → List ℕ → List ℕ
unescape_after marked [] = []
unescape_after true (c ∷ cs) = marked_meaning c ∷ unescape_after false cs
unescape_after false (c ∷ cs) = if c == 0x2426 then unescape_after true cs else meaning c ∷ unescape_after false cs

abbrev pub unescape : List ℕ → List ℕ
unescape text = unescape_after false text

-- a character that may be shown: none that acts, but line feeds if they stay
abbrev pub is_shown : Bool → ℕ → Bool
is_shown lines c = (lines && (c == 10)) || not (is_acting c)

-- ---- examples

right_to_left : escape true (0x202E ∷ []) ≡ 0x2426 ∷ 0x65 ∷ []
right_to_left = refl

first_isolate : escape true (0x2066 ∷ []) ≡ 0x2426 ∷ 0x66 ∷ []
first_isolate = refl
