-- Letters that take the same columns in every text, and how their first byte determines these.
use Rattle.std.specs.Prelude.{◌≡◌, ◌<◌, ◌≤◌, ◌==◌, ◌||◌, ◌∷◌, ◌++◌, ℕ, Bool, true, List, chars, encode_utf8, length, sum_by, if◌then◌else◌}
use Rattle.std.specs.Int.{is_in_range}
use Rattle.std.specs.List.{list_all, slice_index_or}
use Rattle.unicode_width.proofs.Rules.{is_simple}
use Rattle.tabled_text.specs.Measure.{char_columns}

-- the first byte of a character
abbrev pub lead_byte : ℕ → ℕ
lead_byte c = slice_index_or (encode_utf8 c) 0 0

-- the first byte of printable ASCII, or of a character from U+00C0 to U+02FF or from U+0380 to
-- U+047F: Latin, Greek and Cyrillic letters, × and ÷
abbrev pub is_narrow_lead : ℕ → Bool
is_narrow_lead lead = is_in_range 0x20 0x7E lead || (is_in_range 0xC3 0xCB lead || is_in_range 0xCE 0xD1 lead)

-- the first byte of a character from U+4000 to U+9FFF: ideographs, and the hexagrams among them
abbrev pub is_wide_lead : ℕ → Bool
is_wide_lead lead = is_in_range 0xE4 0xE9 lead

-- a character of n columns that ends no special sequence of `unicode_width`
pub record IsLetter (c n : ℕ) : Type 0 where
  pub simple : is_simple c ≡ true
  pub columns : char_columns c ≡ n
  pub some : 0 < n
  pub few : n ≤ 2

-- a text, given by its bytes, is a character for which P holds and then `after`
pub record BeginsBy (P : ℕ → Type 0) (text after : List ℕ) : Type 0 where
  pub first : ℕ
  pub is : P first
  pub parts : text ≡ encode_utf8 first ++ after
  pub shorter : length after < length text
  pub characters : chars text ≡ first ∷ chars after

-- ---- letters by their bytes

-- a byte within a character, which continues it
abbrev pub is_inner_byte : ℕ → Bool
is_inner_byte byte = is_in_range 0x80 0xBF byte

-- a byte that begins a letter or is within a character
abbrev pub is_letter_byte : ℕ → Bool
is_letter_byte byte = is_narrow_lead byte || (is_wide_lead byte || is_inner_byte byte)

-- the columns of the letter that a byte begins
abbrev pub byte_columns : ℕ → ℕ
byte_columns byte = if is_inner_byte byte then 0 else (if is_wide_lead byte then 2 else 1)

-- the bytes of letters alone, which take n columns together
pub record AreLetters (bytes : List ℕ) (n : ℕ) : Type 0 where
  pub all : list_all is_letter_byte bytes ≡ true
  pub columns : n ≡ sum_by byte_columns bytes

-- a tab, a line feed, or a byte of a letter
abbrev pub is_letter_or_break : ℕ → Bool
is_letter_or_break byte = (byte == 9) || ((byte == 10) || is_letter_byte byte)
