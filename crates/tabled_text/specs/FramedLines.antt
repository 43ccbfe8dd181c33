-- Separators, which are characters around which columns add up, whatever the texts; lines of any
-- characters, and the frames around them. Separators are in lists of characters; lines and frames
-- are lists of bytes.
use Rattle.std.specs.Prelude.{◌≡◌, ℕ, Bool, true, false, not, ◌==◌, List, chars, ◌&&◌, ◌||◌, [], ◌∷◌}
use Rattle.std.specs.List.{list_all}
use Rattle.std.specs.Str.{IsUtf8}
use Rattle.tabled_text.specs.Measure.{line_columns}
use Rattle.tabled_text.specs.Plain.{IsAdditiveColumn, is_additive}
use Rattle.std.specs.Int.{is_in_range}

-- the number sign, the asterisk and the digits. They take two columns before U+FE0F
abbrev pub is_keycap_base : ℕ → Bool
is_keycap_base c = (c == 0x23) || ((c == 0x2A) || is_in_range 0x30 0x39 c)

-- an additive character around which columns add up, whatever follows
abbrev pub is_separator : ℕ → Bool
is_separator c = is_additive c && not (is_keycap_base c)

abbrev pub begins_with_selector : List ℕ → Bool
begins_with_selector [] = false
begins_with_selector (c ∷ cs) = c == 0xFE0F

-- an additive character, except a keycap base before U+FE0F: columns add up around it
abbrev pub stands_before : ℕ → List ℕ → Bool
stands_before c back = is_additive c && not (is_keycap_base c && begins_with_selector back)

-- the text is empty, or its first character is such a one: its columns add up with any text before
-- it
abbrev pub begins_apart : List ℕ → Bool
begins_apart [] = true
begins_apart (c ∷ cs) = stands_before c cs

-- the text is empty, or its last character is such a one: its columns add up with `back` after it
abbrev pub ends_before : List ℕ → List ℕ → Bool
ends_before [] back = true
ends_before (c ∷ []) back = stands_before c back
ends_before (c ∷ d ∷ cs) back = ends_before (d ∷ cs) back

-- the second text begins apart or the first ends before it: their columns add up
abbrev pub meet : List ℕ → List ℕ → Bool
meet front back = begins_apart back || ends_before front back

abbrev pub is_no_feed : ℕ → Bool
is_no_feed c = not (c == 10)

-- a separator of one column
pub record IsSeparatorColumn (c : ℕ) : Type 0 where
  pub additive : IsAdditiveColumn c
  pub steady : is_keycap_base c ≡ false

-- a line of any characters except line feeds, which takes n columns
pub record IsLine (line : List ℕ) (n : ℕ) : Type 0 where
  pub utf8 : IsUtf8 line
  pub feedless : list_all is_no_feed (chars line) ≡ true
  pub columns : line_columns line ≡ n

-- separators, as in borders, fills and padding, which take n columns
pub record IsFrame (text : List ℕ) (n : ℕ) : Type 0 where
  pub utf8 : IsUtf8 text
  pub separators : list_all is_separator (chars text) ≡ true
  pub columns : line_columns text ≡ n

-- the text is empty, or its last character's columns add up with whatever follows
abbrev pub EndsApart : List ℕ → Type 0
EndsApart text = (back : List ℕ) → ends_before (chars text) back ≡ true
