-- Plain and additive characters, and the texts and lines made of them. The columns of additive ones
-- add up.
use Rattle.std.specs.Prelude.{◌≡◌, ℕ, Bool, true, ◌==◌, ◌&&◌, ◌||◌, List, chars}
use Rattle.std.specs.Int.{is_in_range}
use Rattle.std.specs.List.{list_all}
use Rattle.std.specs.Str.{IsUtf8}
use Rattle.unicode_width.proofs.Rules.{is_simple}
use Rattle.tabled_text.specs.Measure.{char_columns, line_columns}

-- the characters listed as plain: printable ASCII, Latin letters, Cyrillic letters, box-drawing
-- lines, ideographs, and U+FFFD
abbrev pub is_listed : ℕ → Bool
is_listed c =
    is_in_range 0x20 0x7E c || (is_in_range 0xC0 0xFF c || (is_in_range 0x410 0x44F c
    || (is_in_range 0x2500 0x257F c || (is_in_range 0x4E00 0x9FFF c || (c == 0xFFFD)))))

-- further characters that borders and fills are drawn with: dashes, dots and daggers, blocks, and
-- braille
abbrev pub is_drawn : ℕ → Bool
is_drawn c =
    is_in_range 0x2010 0x2017 c || (is_in_range 0x201A 0x201B c || (is_in_range 0x201E 0x2027 c
    || (is_in_range 0x2580 0x259F c || is_in_range 0x2800 0x28FF c)))

abbrev pub is_listed_or_drawn : ℕ → Bool
is_listed_or_drawn c = is_listed c || is_drawn c

-- one or two columns
abbrev pub has_plain_width : ℕ → Bool
has_plain_width c = (char_columns c == 1) || (char_columns c == 2)

-- a listed character of one or two columns that ends no special sequence of `unicode_width`
abbrev pub is_plain_character : ℕ → Bool
is_plain_character c = is_listed c && (has_plain_width c && is_simple c)

-- a listed or drawn character of one or two columns that ends no special sequence
abbrev pub is_additive : ℕ → Bool
is_additive c = is_listed_or_drawn c && (has_plain_width c && is_simple c)

abbrev pub is_plain_or_feed : ℕ → Bool
is_plain_or_feed c = (c == 10) || is_plain_character c

abbrev pub is_additive_or_feed : ℕ → Bool
is_additive_or_feed c = (c == 10) || is_additive c

-- a text of plain characters and line feeds
pub record IsPlain (text : List ℕ) : Type 0 where
  pub utf8 : IsUtf8 text
  pub characters : list_all is_plain_or_feed (chars text) ≡ true

-- a text of additive characters and line feeds
pub record IsAdditive (text : List ℕ) : Type 0 where
  pub utf8 : IsUtf8 text
  pub characters : list_all is_additive_or_feed (chars text) ≡ true

-- a line of additive characters that takes n columns
pub record IsAdditiveLine (line : List ℕ) (n : ℕ) : Type 0 where
  pub utf8 : IsUtf8 line
  pub characters : list_all is_additive (chars line) ≡ true
  pub columns : line_columns line ≡ n

-- a plain character of one column
pub record IsPlainColumn (c : ℕ) : Type 0 where
  pub character : is_plain_character c ≡ true
  pub columns : char_columns c ≡ 1

-- an additive character of one column
pub record IsAdditiveColumn (c : ℕ) : Type 0 where
  pub character : is_additive c ≡ true
  pub columns : char_columns c ≡ 1
