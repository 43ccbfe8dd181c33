-- The listed characters end no special sequence, by the tables of `unicode_width`, so that their columns add up.
use Rattle.tabled_text.proofs.Names.{Bool, Kind, List, NoJoiningGroup, None, Option, Range, [], and_from, and_parts, ap, arith}
use Rattle.tabled_text.proofs.Names.{char_columns, char_count, cond, count_of, eqb-true, false, has_plain_width, in_ranges, is_additive}
use Rattle.tabled_text.proofs.Names.{is_drawn, is_emoji_variation_base, is_in_range, is_keycap_base, is_lam, is_listed, is_listed_or_drawn}
use Rattle.tabled_text.proofs.Names.{is_plain_character, is_simple, is_simple_kind, joining_group, joining_group_rows, kind, leb-true}
use Rattle.tabled_text.proofs.Names.{list_all, lit<, lt-ltb, max, nat_le, nat_lt, nat_tests, or_cases, or_left, or_right, refl, str_width}
use Rattle.tabled_text.proofs.Names.{str_width-simple, subst, sum_by, sum_by-cons, sym, true, ℕ, ⊎_elim, ◌&&◌, ◌<◌, ◌==◌, ◌||◌, ◌∙◌, ◌∷◌}
use Rattle.tabled_text.proofs.Names.{◌≡◌, ◌≤◌}
use Rattle.ucd_table.specs.Rows.{Row, value_in}
use Rattle.ucd_emoji.specs.Binary.{is_emoji_modifier, is_emoji_modifier_base, is_emoji_presentation}
use Rattle.ucd_emoji.specs.Ranges.{emoji_modifier_base_ranges, emoji_modifier_ranges, emoji_presentation_ranges}
use Rattle.ucd_emoji.specs.Ranges.{emoji_variation_base_ranges}
use Rattle.ucd_props.specs.Binary.{is_regional_indicator}
use Rattle.ucd_props.specs.Ranges.{regional_indicator_ranges}
use Rattle.unicode_width.specs.Kind.{by_width, is_ambiguous, is_wide, is_zero_width, letter_kind, named_kind, named_rows, unnamed_kind}
use Rattle.unicode_width.specs.Kind.{width_kind}
use Rattle.ucd_bidi.specs.JoiningGroup.{joining_group_eq}
use Rattle.ucd_bidi.specs.declared.JoiningGroup.TheVariants.{Lam}
use Rattle.ucd_derived.specs.Binary.{is_default_ignorable_code_point}
use Rattle.ucd_derived.specs.DefaultIgnorableCodePointRanges.{default_ignorable_code_point_ranges}
use Rattle.tabled_text.proofs.Basics.{all-weaker}

-- ---- the listed characters by their ranges: what holds of each range holds of each listed character

-- a fact of each range, and of printable ASCII but the keycap bases
pub record EachRange (Q : ℕ → ℕ → Type 0) : Type 0 where
  pub signs : Q 0x20 0x22
  pub dollar : Q 0x24 0x29
  pub plus : Q 0x2B 0x2F
  pub letters : Q 0x3A 0x7E
  pub latin : Q 0xC0 0xFF
  pub cyrillic : Q 0x410 0x44F
  pub dashes : Q 0x2010 0x2017
  pub low_quotes : Q 0x201A 0x201B
  pub dots : Q 0x201E 0x2027
  pub boxes : Q 0x2500 0x257F
  pub blocks : Q 0x2580 0x259F
  pub braille : Q 0x2800 0x28FF
  pub ideographs : Q 0x4E00 0x9FFF
  pub replacement : Q 0xFFFD 0xFFFD

module _ (P : ℕ → Type 0) (Q : ℕ → ℕ → Type 0)
    (within : (low high : ℕ) → Q low high → 0xA0 < low → (c : ℕ) → is_in_range low high c ≡ true → P c)
    (q : EachRange Q) where
  listed : ((c : ℕ) → is_in_range 0x20 0x7E c ≡ true → P c) → (c : ℕ) → is_listed c ≡ true → P c
  listed ascii c h =
      ⊎_elim (ascii c)
      (λ h₁. ⊎_elim (within 0xC0 0xFF q.latin (lit< tt) c)
      (λ h₂. ⊎_elim (within 0x410 0x44F q.cyrillic (lit< tt) c)
      (λ h₃. ⊎_elim (within 0x2500 0x257F q.boxes (lit< tt) c)
      (λ h₄. ⊎_elim (within 0x4E00 0x9FFF q.ideographs (lit< tt) c)
      (λ a. within 0xFFFD 0xFFFD q.replacement (lit< tt) c
      (subst (λ x. is_in_range 0xFFFD 0xFFFD x ≡ true) (sym (eqb-true c 0xFFFD a)) refl))
      (or_cases _ _ h₄)) (or_cases _ _ h₃)) (or_cases _ _ h₂))
      (or_cases _ _ h₁)) (or_cases _ _ h)

  drawn : (c : ℕ) → is_drawn c ≡ true → P c
  drawn c h =
      ⊎_elim (within 0x2010 0x2017 q.dashes (lit< tt) c)
      (λ h₁. ⊎_elim (within 0x201A 0x201B q.low_quotes (lit< tt) c)
      (λ h₂. ⊎_elim (within 0x201E 0x2027 q.dots (lit< tt) c)
      (λ h₃. ⊎_elim (within 0x2580 0x259F q.blocks (lit< tt) c)
      (within 0x2800 0x28FF q.braille (lit< tt) c)
      (or_cases _ _ h₃)) (or_cases _ _ h₂)) (or_cases _ _ h₁)) (or_cases _ _ h)

  pub listed_or_drawn : ((c : ℕ) → is_in_range 0x20 0x7E c ≡ true → P c) → (c : ℕ) → is_listed_or_drawn c ≡ true → P c
  listed_or_drawn ascii c h = ⊎_elim (listed ascii c) (drawn c) (or_cases _ _ h)

-- ---- characters that the tables do not have

-- no range has a member from low to high
abbrev pub misses : ℕ → ℕ → List Range → Bool
misses low high [] = true
misses low high (r ∷ rs) = (nat_lt high r.0 || nat_lt r.1 low) && misses low high rs

outside : (a b low high c : ℕ) → (nat_lt high a || nat_lt b low) ≡ true → low ≤ c → c ≤ high → (nat_le a c && nat_le c b) ≡ false
outside a b low high c h l u = grind (arith, nat_tests)

pub in_ranges-missed : (low high : ℕ) (rs : List Range) → misses low high rs ≡ true → (c : ℕ) → low ≤ c → c ≤ high → in_ranges rs c ≡ false
unfolding in_ranges
in_ranges-missed low high [] h c l u = refl
in_ranges-missed low high (r ∷ rs) h c l u =
    let parts = and_parts (nat_lt high r.0 || nat_lt r.1 low) (misses low high rs) h in
    ap (λ t. t || in_ranges rs c) (outside r.0 r.1 low high c parts.0 l u) ∙ in_ranges-missed low high rs parts.1 c l u

-- no row has a member from low to high
abbrev pub misses_rows : {V : Type 0} → ℕ → ℕ → List (Row V) → Bool
misses_rows low high [] = true
misses_rows low high (r ∷ rs) = (nat_lt high r.0 || nat_lt r.1 low) && misses_rows low high rs

pub value_in-missed : {V : Type 0} (d : V) (low high : ℕ) (rs : List (Row V)) → misses_rows low high rs ≡ true → (c : ℕ)
    → low ≤ c → c ≤ high → value_in d rs c ≡ d
unfolding value_in
value_in-missed d low high [] h c l u = refl
value_in-missed d low high (r ∷ rs) h c l u =
    let parts = and_parts (nat_lt high r.0 || nat_lt r.1 low) (misses_rows low high rs) h in
    ap (λ t. cond t r.2 (value_in d rs c)) (outside r.0 r.1 low high c parts.0 l u) ∙ value_in-missed d low high rs parts.1 c l u

-- ---- listed characters

is_simple_kind-by_width : (a b c : Bool) → is_simple_kind (by_width a b c) ≡ true
is_simple_kind-by_width true b c = refl
is_simple_kind-by_width false true c = refl
is_simple_kind-by_width false false true = refl
is_simple_kind-by_width false false false = refl

-- none of the tables that name a special sequence, or what joins one, has a character from low to high
record IsMissed (low high : ℕ) : Type 0 where
  flags : misses low high regional_indicator_ranges ≡ true
  tones : misses low high emoji_modifier_ranges ≡ true
  emoji : misses low high emoji_presentation_ranges ≡ true
  groups : misses_rows low high joining_group_rows ≡ true
  names : misses_rows low high named_rows ≡ true
  forms : misses low high emoji_variation_base_ranges ≡ true
  bases : misses low high emoji_modifier_base_ranges ≡ true
  hidden : misses low high default_ignorable_code_point_ranges ≡ true

is_simple_kind-missed : (low high : ℕ) → IsMissed low high → (c : ℕ) → low ≤ c → c ≤ high → is_simple_kind (kind c) ≡ true
unfolding kind named_kind unnamed_kind letter_kind width_kind is_regional_indicator is_emoji_modifier is_emoji_presentation joining_group
is_simple_kind-missed low high m c l u =
    let e₀ = value_in-missed (let n : Option Kind = None in n) low high named_rows m.names c l u in
    let e₁ = in_ranges-missed low high regional_indicator_ranges m.flags c l u in
    let e₂ = in_ranges-missed low high emoji_modifier_ranges m.tones c l u in
    let e₃ = in_ranges-missed low high emoji_presentation_ranges m.emoji c l u in
    let e₄ = value_in-missed NoJoiningGroup low high joining_group_rows m.groups c l u in
    rw (e₀, e₁, e₂, e₃, e₄) (is_simple_kind-by_width (is_zero_width c) (is_wide c) (is_ambiguous c))

unfoldable sequence_tables : Unit {0}
unfolding regional_indicator_ranges emoji_modifier_ranges emoji_presentation_ranges joining_group_rows named_rows
sequence_tables = tt

missed : EachRange IsMissed
unfolding sequence_tables emoji_variation_base_ranges emoji_modifier_base_ranges default_ignorable_code_point_ranges
missed = record {
  signs = record { flags = refl; tones = refl; emoji = refl; groups = refl; names = refl; forms = refl; bases = refl; hidden = refl };
  dollar = record { flags = refl; tones = refl; emoji = refl; groups = refl; names = refl; forms = refl; bases = refl; hidden = refl };
  plus = record { flags = refl; tones = refl; emoji = refl; groups = refl; names = refl; forms = refl; bases = refl; hidden = refl };
  letters = record { flags = refl; tones = refl; emoji = refl; groups = refl; names = refl; forms = refl; bases = refl; hidden = refl };
  latin = record { flags = refl; tones = refl; emoji = refl; groups = refl; names = refl; forms = refl; bases = refl; hidden = refl };
  cyrillic = record { flags = refl; tones = refl; emoji = refl; groups = refl; names = refl; forms = refl; bases = refl; hidden = refl };
  dashes = record { flags = refl; tones = refl; emoji = refl; groups = refl; names = refl; forms = refl; bases = refl; hidden = refl };
  low_quotes = record { flags = refl; tones = refl; emoji = refl; groups = refl; names = refl; forms = refl; bases = refl; hidden = refl };
  dots = record { flags = refl; tones = refl; emoji = refl; groups = refl; names = refl; forms = refl; bases = refl; hidden = refl };
  boxes = record { flags = refl; tones = refl; emoji = refl; groups = refl; names = refl; forms = refl; bases = refl; hidden = refl };
  blocks = record { flags = refl; tones = refl; emoji = refl; groups = refl; names = refl; forms = refl; bases = refl; hidden = refl };
  braille = record { flags = refl; tones = refl; emoji = refl; groups = refl; names = refl; forms = refl; bases = refl; hidden = refl };
  ideographs = record { flags = refl; tones = refl; emoji = refl; groups = refl; names = refl; forms = refl; bases = refl; hidden = refl };
  replacement = record { flags = refl; tones = refl; emoji = refl; groups = refl; names = refl; forms = refl; bases = refl; hidden = refl };
}

is_simple-high : (low high : ℕ) → IsMissed low high → 0xA0 < low → (c : ℕ) → is_in_range low high c ≡ true → is_simple c ≡ true
is_simple-high low high m h c e =
    let parts = and_parts (nat_le low c) (nat_le c high) e in
    let l : low ≤ c = leb-true low c parts.0 in
    let k = is_simple_kind-missed low high m c l (leb-true c high parts.1) in
    or_right (is_in_range 0x20 0x7E c) (nat_lt 0xA0 c && is_simple_kind (kind c))
    (and_from (nat_lt 0xA0 c) (is_simple_kind (kind c)) (lt-ltb 0xA0 c (omega arith)) k)

pub is_simple-listed : (c : ℕ) → is_listed_or_drawn c ≡ true → is_simple c ≡ true
is_simple-listed = listed_or_drawn (λ c. is_simple c ≡ true) IsMissed is_simple-high missed
    (λ c h. or_left (is_in_range 0x20 0x7E c) (nat_lt 0xA0 c && is_simple_kind (kind c)) h)

width-simple : (a b w : Bool) → a ≡ true → b ≡ true → w ≡ (a && (w && b))
width-simple true true true h s = refl
width-simple true true false h s = refl
width-simple true false w h s = cc
width-simple false b w h s = cc

-- that a listed character ends no sequence needs no test
pub is_plain-listed : (c : ℕ) → is_listed c ≡ true → has_plain_width c ≡ is_plain_character c
is_plain-listed c h = width-simple (is_listed c) (is_simple c) (has_plain_width c) h (is_simple-listed c (or_left (is_listed c) (is_drawn c) h))

-- nor does that of one that is drawn
pub is_additive-listed : (c : ℕ) → is_listed_or_drawn c ≡ true → has_plain_width c ≡ is_additive c
is_additive-listed c h = width-simple (is_listed_or_drawn c) (is_simple c) (has_plain_width c) h (is_simple-listed c h)

-- plain characters are additive
pub is_additive-plain : (c : ℕ) → is_plain_character c ≡ true → is_additive c ≡ true
is_additive-plain c h =
    let parts = and_parts (is_listed c) (has_plain_width c && is_simple c) h in
    and_from (is_listed_or_drawn c) (has_plain_width c && is_simple c) (or_left (is_listed c) (is_drawn c) parts.0) parts.1

pub is_simple-plain : (cs : List ℕ) → list_all is_additive cs ≡ true → list_all is_simple cs ≡ true
is_simple-plain = all-weaker is_additive is_simple
    (λ c h. (and_parts (has_plain_width c) (is_simple c) (and_parts (is_listed_or_drawn c) (has_plain_width c && is_simple c) h).1).1)

-- characters that are plain take as many columns as they do one by one
pub line_columns-plain : (cs : List ℕ) → list_all is_additive cs ≡ true → str_width false cs ≡ sum_by char_columns cs
line_columns-plain cs h = str_width-simple false cs (is_simple-plain cs h)

pub char_count-plain : (w : ℕ) → ((w == 1) || (w == 2)) ≡ true → max 1 w ≡ w
char_count-plain w h = ⊎_elim (λ a. let e = eqb-true w 1 a in omega arith) (λ a. let e = eqb-true w 2 a in omega arith) (or_cases _ _ h)

-- and count as much
pub count_of-plain : (cs : List ℕ) → list_all is_additive cs ≡ true → count_of cs ≡ sum_by char_columns cs
count_of-plain [] h = refl
count_of-plain (c ∷ cs) h =
    let parts = and_parts (is_additive c) (list_all is_additive cs) h in
    let own = and_parts (has_plain_width c) (is_simple c) (and_parts (is_listed_or_drawn c) (has_plain_width c && is_simple c) parts.0).1 in
    let e : char_count c ≡ char_columns c = char_count-plain (char_columns c) own.0 in
    omega (arith, e, count_of-plain cs parts.1, sum_by-cons char_count c cs, sum_by-cons char_columns c cs)

-- ---- a character that joins nothing by the tables

pub record IsUnmarked (c : ℕ) : Type 0 where
  pub variation : is_emoji_variation_base c ≡ false
  pub base : is_emoji_modifier_base c ≡ false
  pub ignorable : is_default_ignorable_code_point c ≡ false
  pub lam : is_lam c ≡ false

unmarked-missed : (low high : ℕ) → IsMissed low high → (c : ℕ) → is_in_range low high c ≡ true → IsUnmarked c
unfolding is_emoji_variation_base is_emoji_modifier_base is_default_ignorable_code_point joining_group
unmarked-missed low high m c h =
    let parts = and_parts (nat_le low c) (nat_le c high) h in
    let l = leb-true low c parts.0 in
    let u = leb-true c high parts.1 in
    let group = value_in-missed NoJoiningGroup low high joining_group_rows m.groups c l u in
    record {
      variation = in_ranges-missed low high emoji_variation_base_ranges m.forms c l u;
      base = in_ranges-missed low high emoji_modifier_base_ranges m.bases c l u;
      ignorable = in_ranges-missed low high default_ignorable_code_point_ranges m.hidden c l u;
      lam = ap (λ g. joining_group_eq g Lam) group;
    }

printable_parts : (c : ℕ) → is_in_range 0x20 0x7E c ≡ true → is_keycap_base c ≡ false
    → (is_in_range 0x20 0x22 c || (is_in_range 0x24 0x29 c || (is_in_range 0x2B 0x2F c || is_in_range 0x3A 0x7E c))) ≡ true
printable_parts c h k = grind (arith, nat_tests)

unmarked-printable : (c : ℕ) → is_in_range 0x20 0x7E c ≡ true → is_keycap_base c ≡ false → IsUnmarked c
unmarked-printable c h k =
    ⊎_elim (unmarked-missed 0x20 0x22 missed.signs c)
    (λ h₁. ⊎_elim (unmarked-missed 0x24 0x29 missed.dollar c)
    (λ h₂. ⊎_elim (unmarked-missed 0x2B 0x2F missed.plus c) (unmarked-missed 0x3A 0x7E missed.letters c)
    (or_cases _ _ h₂)) (or_cases _ _ h₁)) (or_cases _ _ (printable_parts c h k))

pub unmarked-listed : (c : ℕ) → is_listed_or_drawn c ≡ true → is_keycap_base c ≡ false → IsUnmarked c
unmarked-listed = listed_or_drawn (λ c. is_keycap_base c ≡ false → IsUnmarked c) IsMissed
    (λ low high m _ c h _. unmarked-missed low high m c h) missed unmarked-printable
