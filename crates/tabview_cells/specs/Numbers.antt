-- Decimal numbers. A text is a list of bytes.
use Rattle.std.specs.Prelude.{ℕ, ◌==◌, ◌&&◌, ◌||◌, Bool, true, false, List, [], ◌∷◌, if◌then◌else◌, length}
use Rattle.std.specs.Char.{is_ascii_digit}

abbrev pub begins_with_digit : List ℕ → Bool
begins_with_digit [] = false
begins_with_digit (c ∷ cs) = is_ascii_digit c

-- a sign, `+` or `-`
abbrev pub is_sign : ℕ → Bool
is_sign c = (c == 43) || (c == 45)

-- the text after a sign, if there is one
abbrev pub skip_sign : List ℕ → List ℕ
skip_sign [] = []
skip_sign (c ∷ cs) = if is_sign c then cs else c ∷ cs

-- the text after digits
abbrev pub skip_digits : List ℕ → List ℕ
skip_digits [] = []
skip_digits (c ∷ cs) = if is_ascii_digit c then skip_digits cs else c ∷ cs

-- the text after digits, and commas before digits
abbrev pub skip_whole : List ℕ → List ℕ
skip_whole [] = []
skip_whole (c ∷ cs) = if is_ascii_digit c || (c == 44 && begins_with_digit cs) then skip_whole cs else c ∷ cs

-- the text after a point and digits, if they are there
abbrev pub skip_fraction : List ℕ → List ℕ
skip_fraction [] = []
skip_fraction (c ∷ cs) = if c == 46 && begins_with_digit cs then skip_digits cs else c ∷ cs

-- digits alone, at least one
abbrev pub is_digits : List ℕ → Bool
is_digits text = begins_with_digit text && (length (skip_digits text) == 0)

-- nothing, `%`, or an exponent: `e` or `E`, a sign or none, and digits
abbrev pub is_suffix : List ℕ → Bool
is_suffix [] = true
is_suffix (c ∷ cs) = if c == 37 then length cs == 0 else (((c == 101) || (c == 69)) && is_digits (skip_sign cs))

-- a sign or none, digits that commas may group, a fraction or none, and then a suffix
abbrev pub is_number : List ℕ → Bool
is_number text = begins_with_digit (skip_sign text) && is_suffix (skip_fraction (skip_whole (skip_sign text)))
