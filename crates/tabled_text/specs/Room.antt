-- Additive texts of at most n columns.
use Rattle.std.specs.Prelude.{◌≡◌, ℕ, ◌+◌, Bool, true, nat_le, ◌==◌, ◌&&◌, List, [], ◌∷◌, chars, if◌then◌else◌}
use Rattle.std.specs.List.{list_all}
use Rattle.std.specs.Str.{IsUtf8}
use Rattle.tabled_text.specs.Measure.{char_columns}
use Rattle.tabled_text.specs.Plain.{is_additive, is_additive_or_feed}

-- whether all characters are additive or line feeds
abbrev pub is_additive_text : List ℕ → Bool
is_additive_text cs = list_all is_additive_or_feed cs

-- the characters are additive or line feeds, and each line takes at most n columns; `used` columns
-- of the first line are taken before
abbrev pub stays : ℕ → ℕ → List ℕ → Bool
stays n used [] = nat_le used n
stays n used (c ∷ cs) = if c == 10 then nat_le used n && stays n 0 cs else is_additive c && stays n (used + char_columns c) cs

-- an additive text of at most n columns, given by its bytes
pub record StaysWithin (n : ℕ) (text : List ℕ) : Type 0 where
  pub utf8 : IsUtf8 text
  pub stays : stays n 0 (chars text) ≡ true
