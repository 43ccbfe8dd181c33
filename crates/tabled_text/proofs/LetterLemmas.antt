-- What letters take, by the tables of `unicode_width`.
use Rattle.tabled_text.proofs.Names.{BeginsBy, Bool, IsCharBoundary, IsCharBoundary-at_seam, IsLetter, IsUtf8, IsUtf8-past_char, Kind, List}
use Rattle.tabled_text.proofs.Names.{Range, [], alone, and_from, ap, arith, cases_lt, char_columns, char_count, char_width, chars}
use Rattle.tabled_text.proofs.Names.{chars_past_char, cond, drop, drop_at, encode_ascii, encode_utf8_all, encodes-chars, eqb-true, false}
use Rattle.tabled_text.proofs.Names.{get_or, in_ranges, inl, inr, is_in_range, is_inner_byte, is_narrow_lead, is_simple, is_simple_kind}
use Rattle.tabled_text.proofs.Names.{is_wide_lead, kind, kind_stepped, lead_byte, len_utf8, len_utf8_bounds, length, length-append}
use Rattle.tabled_text.proofs.Names.{length-encode, lit<, lt-ltb, nat_lt, nat_tests, not, of_kind, of_ranges, or_left, or_right, refl}
use Rattle.tabled_text.proofs.Names.{subst, sym, tables, true, zip_stepped, ℕ, ◌&&◌, ◌*◌, ◌++◌, ◌+◌, ◌-◌, ◌/◌, ◌<◌, ◌==◌, ◌||◌, ◌∙◌, ◌∷◌}
use Rattle.tabled_text.proofs.Names.{◌≡◌, ◌≤◌}
use Rattle.std.specs.Char.{encode_utf8}
use Rattle.std.proofs.lemmas.Str.{len_utf8_ascii}
use Rattle.ucd_table.proofs.Facts.{Stepped-always}
use Rattle.unicode_width.specs.declared.kind.Kind.TheVariants.{Ambiguous, Narrow, Wide}

-- a kind of characters that take n columns and end no special sequence
is_letter_kind : ℕ → Kind → Bool
is_letter_kind n Narrow = n == 1
is_letter_kind n Ambiguous = n == 1
is_letter_kind n Wide = n == 2
is_letter_kind n _ = false

letter-kind : (n c : ℕ) (k : Kind) → is_letter_kind n k ≡ true → ((of_kind false c k).0 ≡ n) × (is_simple_kind k ≡ true)
unfolding is_letter_kind
letter-kind n c Narrow h = (sym (eqb-true n 1 h), refl)
letter-kind n c Ambiguous h = (sym (eqb-true n 1 h), refl)
letter-kind n c Wide h = (sym (eqb-true n 2 h), refl)
letter-kind n c _ h = cc

abbrev narrow_ranges : List Range
narrow_ranges = (0xC0, 0x2FF) ∷ (0x380, 0x47F) ∷ []

abbrev wide_ranges : List Range
wide_ranges = (0x4000, 0x9FFF) ∷ []

are-narrow : (c : ℕ) → c ≤ 0x10_FFFF → (not (in_ranges narrow_ranges c) || is_letter_kind 1 (kind c)) ≡ true
unfolding tables kind_stepped is_letter_kind
are-narrow c within =
    Stepped-always (λ c. not (in_ranges narrow_ranges c) || is_letter_kind 1 (kind c))
    (zip_stepped (λ inside k. not inside || is_letter_kind 1 k) (in_ranges narrow_ranges) kind (of_ranges narrow_ranges refl) kind_stepped)
    refl c within

are-wide : (c : ℕ) → c ≤ 0x10_FFFF → (not (in_ranges wide_ranges c) || is_letter_kind 2 (kind c)) ≡ true
unfolding tables kind_stepped is_letter_kind
are-wide c within =
    Stepped-always (λ c. not (in_ranges wide_ranges c) || is_letter_kind 2 (kind c))
    (zip_stepped (λ inside k. not inside || is_letter_kind 2 k) (in_ranges wide_ranges) kind (of_ranges wide_ranges refl) kind_stepped)
    refl c within

-- what a test of ranges lets through
passed : (inside ok : Bool) → (not inside || ok) ≡ true → inside ≡ true → ok ≡ true
passed true ok h i = h
passed false ok h i = cc

simple-high : (c : ℕ) → 0xA0 < c → is_simple_kind (kind c) ≡ true → is_simple c ≡ true
simple-high c high simple =
    or_right (is_in_range 0x20 0x7E c) (nat_lt 0xA0 c && is_simple_kind (kind c))
    (and_from (nat_lt 0xA0 c) (is_simple_kind (kind c)) (lt-ltb 0xA0 c high) simple)

-- the columns of a character above U+00A0 are those of its kind
columns-high : (c : ℕ) → 0xA0 < c → char_columns c ≡ (of_kind false c (kind c)).0
unfolding char_width alone
columns-high c high = grind (arith, nat_tests)

pub columns-printable : (c : ℕ) → is_in_range 0x20 0x7E c ≡ true → char_columns c ≡ 1
unfolding char_width
columns-printable c h = grind (arith, nat_tests)

-- the first byte of a character, alone and before others
lead-is : (c : ℕ)
    → lead_byte c ≡ cond (nat_lt c 128) c (cond (nat_lt c 2048) (192 + c / 64) (cond (nat_lt c 65536) (224 + c / 4096) (240 + c / 262144)))
unfolding encode_utf8
lead-is c = join (nat_lt c 128) (nat_lt c 2048) (nat_lt c 65536) c (192 + c / 64) (224 + c / 4096) (240 + c / 262144) _ _ _
  where
    join : (x y z : Bool) (i j k l : ℕ) (js ks ls : List ℕ)
        → get_or (cond x (i ∷ []) (cond y (j ∷ js) (cond z (k ∷ ks) (l ∷ ls)))) 0 0 ≡ cond x i (cond y j (cond z k l))
    join true y z i j k l js ks ls = refl
    join false true z i j k l js ks ls = refl
    join false false true i j k l js ks ls = refl
    join false false false i j k l js ks ls = refl

pub lead-here : (c : ℕ) (rest : List ℕ) → get_or (encode_utf8 c ++ rest) 0 0 ≡ lead_byte c
unfolding encode_utf8
lead-here c rest = join (nat_lt c 128) (nat_lt c 2048) (nat_lt c 65536) _ _ _ _ _ _ _
  where
    join : (x y z : Bool) (i j k l : ℕ) (js ks ls : List ℕ)
        → get_or (cond x (i ∷ []) (cond y (j ∷ js) (cond z (k ∷ ks) (l ∷ ls))) ++ rest) 0 0
        ≡ get_or (cond x (i ∷ []) (cond y (j ∷ js) (cond z (k ∷ ks) (l ∷ ls)))) 0 0
    join true y z i j k l js ks ls = refl
    join false true z i j k l js ks ls = refl
    join false false true i j k l js ks ls = refl
    join false false false i j k l js ks ls = refl

not-below : (m n : ℕ) → n ≤ m → nat_lt m n ≡ false
not-below m n h = grind (arith, nat_tests)

-- how many bytes a character takes tells its first one
record HasLead (c lead : ℕ) : Type 0 where
  one : c < 128 → lead ≡ c
  two : 128 ≤ c → c < 2048 → lead ≡ 192 + c / 64
  three : 2048 ≤ c → c < 65536 → lead ≡ 224 + c / 4096
  four : 65536 ≤ c → 240 ≤ lead

led : (c : ℕ) → HasLead c (lead_byte c)
led c =
    record {
      one = λ a. lead-is c ∙ ap (λ t. cond t c (cond (nat_lt c 2048) (192 + c / 64) (cond (nat_lt c 65536) (224 + c / 4096) (240 + c / 262144)))) (lt-ltb c 128 a);
      two = λ a b. past c a ∙ ap (λ t. cond t (192 + c / 64) (cond (nat_lt c 65536) (224 + c / 4096) (240 + c / 262144))) (lt-ltb c 2048 b);
      three = λ a b. past_two c a ∙ ap (λ t. cond t (224 + c / 4096) (240 + c / 262144)) (lt-ltb c 65536 b);
      four = λ a. (let e = past_two c (omega arith) ∙ ap (λ t. cond t (224 + c / 4096) (240 + c / 262144)) (not-below c 65536 a) in omega (arith, e));
    }
  where
    past : (c : ℕ) → 128 ≤ c → lead_byte c ≡ cond (nat_lt c 2048) (192 + c / 64) (cond (nat_lt c 65536) (224 + c / 4096) (240 + c / 262144))
    past c a =
        lead-is c ∙ ap (λ t. cond t c (cond (nat_lt c 2048) (192 + c / 64) (cond (nat_lt c 65536) (224 + c / 4096) (240 + c / 262144)))) (not-below c 128 a)

    past_two : (c : ℕ) → 2048 ≤ c → lead_byte c ≡ cond (nat_lt c 65536) (224 + c / 4096) (240 + c / 262144)
    past_two c a =
        past c (omega arith) ∙ ap (λ t. cond t (192 + c / 64) (cond (nat_lt c 65536) (224 + c / 4096) (240 + c / 262144))) (not-below c 2048 a)

-- printable ASCII is its first byte
ascii-led : (c lead : ℕ) → HasLead c lead → lead < 128 → lead ≡ c
ascii-led c lead h a = elim (cases_lt c 128) [
  | inl lt ↦ h.one lt
  | inr ge ↦ elim (cases_lt c 2048) [
    | inl below ↦ omega (arith, h.two ge below, a)
    | inr above ↦ elim (cases_lt c 65536) [
      | inl below ↦ omega (arith, h.three above below, a)
      | inr most ↦ omega (arith, h.four most, a)
    ]
  ]
]

-- the first of two bytes tells 64 characters
two-led : (c lead : ℕ) → HasLead c lead → 192 ≤ lead → lead < 224 → ((lead - 192) * 64 ≤ c) × (c < (lead - 191) * 64)
two-led c lead h low high = elim (cases_lt c 128) [
  | inl lt ↦ (omega (arith, h.one lt, low, lt), omega (arith, h.one lt, low, lt))
  | inr ge ↦ elim (cases_lt c 2048) [
    | inl below ↦ (omega (arith, h.two ge below), omega (arith, h.two ge below))
    | inr above ↦ elim (cases_lt c 65536) [
      | inl below ↦ (omega (arith, h.three above below, high), omega (arith, h.three above below, high))
      | inr most ↦ (omega (arith, h.four most, high), omega (arith, h.four most, high))
    ]
  ]
]

-- and that of three 4,096
three-led : (c lead : ℕ) → HasLead c lead → 224 ≤ lead → lead < 240 → ((lead - 224) * 4096 ≤ c) × (c < (lead - 223) * 4096)
three-led c lead h low high = elim (cases_lt c 128) [
  | inl lt ↦ (omega (arith, h.one lt, low, lt), omega (arith, h.one lt, low, lt))
  | inr ge ↦ elim (cases_lt c 2048) [
    | inl below ↦ (omega (arith, h.two ge below, low, below), omega (arith, h.two ge below, low, below))
    | inr above ↦ elim (cases_lt c 65536) [
      | inl below ↦ (omega (arith, h.three above below), omega (arith, h.three above below))
      | inr most ↦ (omega (arith, h.four most, high), omega (arith, h.four most, high))
    ]
  ]
]

low-outer : (lead : ℕ) → lead < 128 → is_inner_byte lead ≡ false
low-outer lead h = grind (arith, nat_tests)

high-outer : (lead : ℕ) → 194 ≤ lead → is_inner_byte lead ≡ false
high-outer lead h = grind (arith, nat_tests)

-- no character begins with a byte within one
pub lead-outer : (c : ℕ) → is_inner_byte (lead_byte c) ≡ false
lead-outer c =
    let h = led c in
    elim (cases_lt c 128) [
      | inl lt ↦ low-outer (lead_byte c) (omega (arith, h.one lt, lt))
      | inr ge ↦ elim (cases_lt c 2048) [
        | inl below ↦ high-outer (lead_byte c) (omega (arith, h.two ge below, ge))
        | inr above ↦ elim (cases_lt c 65536) [
          | inl below ↦ high-outer (lead_byte c) (omega (arith, h.three above below))
          | inr most ↦ high-outer (lead_byte c) (omega (arith, h.four most))
        ]
      ]
    ]

letter-high : (n c : ℕ) → 0xA0 < c → 0 < n → n ≤ 2 → is_letter_kind n (kind c) ≡ true → IsLetter c n
letter-high n c high some few h =
    let is = letter-kind n c (kind c) h in
    record { simple = simple-high c high is.1; columns = columns-high c high ∙ is.0; some = some; few = few }

-- a character from U+00C0 to U+02FF or from U+0380 to U+047F, which takes one column
abbrev is_narrow_letter : ℕ → Bool
is_narrow_letter c = is_in_range 0xC0 0x2FF c || is_in_range 0x380 0x47F c

-- a character from U+4000 to U+9FFF, which takes two
abbrev is_wide_letter : ℕ → Bool
is_wide_letter c = is_in_range 0x4000 0x9FFF c

-- the letters of the ranges
narrow-high : (c : ℕ) → is_narrow_letter c ≡ true → IsLetter c 1
unfolding in_ranges
narrow-high c h =
    let inside : in_ranges narrow_ranges c ≡ true = grind (arith, nat_tests) in
    let ends : (0xA0 < c) × (c ≤ 0x10_FFFF) = grind (arith, nat_tests) in
    letter-high 1 c ends.0 (lit< tt) (lit< tt) (passed (in_ranges narrow_ranges c) (is_letter_kind 1 (kind c)) (are-narrow c ends.1) inside)

wide-high : (c : ℕ) → is_wide_letter c ≡ true → IsLetter c 2
unfolding in_ranges
wide-high c h =
    let inside : in_ranges wide_ranges c ≡ true = grind (arith, nat_tests) in
    let ends : (0xA0 < c) × (c ≤ 0x10_FFFF) = grind (arith, nat_tests) in
    letter-high 2 c ends.0 (lit< tt) (lit< tt) (passed (in_ranges wide_ranges c) (is_letter_kind 2 (kind c)) (are-wide c ends.1) inside)

-- the same by their first bytes
narrow-led : (c : ℕ) → is_narrow_lead (lead_byte c) ≡ true → 128 ≤ lead_byte c → (is_narrow_letter c ≡ true) × (c < 2048)
narrow-led c h high =
    let lead = lead_byte c in
    let range : (0xC3 ≤ lead) × (lead ≤ 0xD1) = grind (arith, nat_tests) in
    let ends = two-led c lead (led c) (omega arith) (omega arith) in
    let low = ends.0 in
    let below = ends.1 in
    let is : is_narrow_letter c ≡ true = grind (arith, nat_tests) in
    (is, omega arith)

wide-led : (c : ℕ) → is_wide_lead (lead_byte c) ≡ true → is_wide_letter c ≡ true
wide-led c h =
    let lead = lead_byte c in
    let range : (0xE4 ≤ lead) × (lead ≤ 0xE9) = grind (arith, nat_tests) in
    let ends = three-led c lead (led c) (omega arith) (omega arith) in
    let low = ends.0 in
    let below = ends.1 in
    grind (arith, nat_tests)

pub narrow-letter : (c : ℕ) → is_narrow_lead (lead_byte c) ≡ true → IsLetter c 1
narrow-letter c h =
    let lead = lead_byte c in
    elim (cases_lt lead 128) [
      | inl ascii ↦
          let same = ascii-led c lead (led c) ascii in
          let range : is_in_range 0x20 0x7E lead ≡ true = grind (arith, nat_tests) in
          let printed : is_in_range 0x20 0x7E c ≡ true = sym (ap (is_in_range 0x20 0x7E) same) ∙ range in
          record {
            simple = or_left (is_in_range 0x20 0x7E c) (nat_lt 0xA0 c && is_simple_kind (kind c)) printed;
            columns = columns-printable c printed;
            some = lit< tt;
            few = lit< tt;
          }
      | inr high ↦ narrow-high c (narrow-led c h high).0
    ]

pub wide-letter : (c : ℕ) → is_wide_lead (lead_byte c) ≡ true → IsLetter c 2
wide-letter c h = wide-high c (wide-led c h)

-- how many bytes they take
pub ascii-length : (c : ℕ) → lead_byte c < 128 → length (encode_utf8 c) ≡ 1
ascii-length c h = let e = ascii-led c (lead_byte c) (led c) h in length-encode c ∙ len_utf8_ascii c (omega arith)

pub narrow-length : (c : ℕ) → is_narrow_lead (lead_byte c) ≡ true → 128 ≤ lead_byte c → length (encode_utf8 c) ≡ 2
narrow-length c h high =
    let own = narrow-led c h high in
    let few = own.1 in
    let is : len_utf8 c ≡ 2 = grind (arith, nat_tests, own.0) in
    length-encode c ∙ is

pub wide-length : (c : ℕ) → is_wide_lead (lead_byte c) ≡ true → length (encode_utf8 c) ≡ 3
wide-length c h =
    let own = wide-led c h in
    let is : len_utf8 c ≡ 3 = grind (arith, nat_tests) in
    length-encode c ∙ is

-- ---- the first character of a text
record HasFirst (text : List ℕ) : Type 0 where
  first : ℕ
  after : List ℕ
  parts : text ≡ encode_utf8 first ++ after

first-of : (text cs : List ℕ) → chars text ≡ cs → IsUtf8 text → 0 < length text → HasFirst text
first-of text [] e u some = absurd (omega (arith, ap length (sym (encodes-chars text u) ∙ ap encode_utf8_all e)))
first-of text (c ∷ cs) e u some = record { first = c; after = encode_utf8_all cs; parts = sym (encodes-chars text u) ∙ ap encode_utf8_all e }

-- what is split off by its first byte
pub record IsSplitLetter (text : List ℕ) (size columns : ℕ) : Type 0 where
  pub at : IsCharBoundary text size
  pub begins : BeginsBy (λ c. IsLetter c columns) text (drop size text)

pub letter-split : (text : List ℕ) (size columns : ℕ) → IsUtf8 text → 0 < length text
    → ((c : ℕ) → get_or text 0 0 ≡ lead_byte c → IsLetter c columns × (length (encode_utf8 c) ≡ size)) → IsSplitLetter text size columns
letter-split text size columns u some h =
    let f = first-of text (chars text) refl u some in
    let own = h f.first (ap (λ bs. get_or bs 0 0) f.parts ∙ lead-here f.first f.after) in
    let rest = IsUtf8-past_char text f.after f.first u f.parts in
    let back : drop size text ≡ f.after = ap (drop size) f.parts ∙ drop_at (encode_utf8 f.first) f.after size own.1 in
    record {
      at = subst (IsCharBoundary text) own.1 (IsCharBoundary-at_seam text (encode_utf8 f.first) f.after f.parts rest);
      begins = subst (BeginsBy (λ c. IsLetter c columns) text) (sym back) record {
        first = f.first;
        is = own.0;
        parts = f.parts;
        shorter = omega (arith, ap length f.parts, length-append (encode_utf8 f.first) f.after, length-encode f.first, len_utf8_bounds f.first);
        characters = chars_past_char text f.after f.first u f.parts;
      };
    }

pub letter-count : (columns : ℕ) (text after : List ℕ) → BeginsBy (λ c. IsLetter c columns) text after
    → BeginsBy (λ c. columns ≡ char_count c) text after
letter-count columns text after b = record {
  first = b.first;
  is = let e = b.is.columns in let some = b.is.some in omega arith;
  parts = b.parts;
  shorter = b.shorter;
  characters = b.characters;
}

-- a line feed is its own first byte
pub feed-lead : (P : ℕ → Type 0) (text after : List ℕ) → (b : BeginsBy P text after) → get_or text 0 0 ≡ 10 → b.first ≡ 10
feed-lead P text after b h =
    let e : lead_byte b.first ≡ 10 = sym (ap (λ bs. get_or bs 0 0) b.parts ∙ lead-here b.first after) ∙ h in
    sym (ascii-led b.first (lead_byte b.first) (led b.first) (omega arith)) ∙ e

pub lead-feed : (P : ℕ → Type 0) (text after : List ℕ) → (b : BeginsBy P text after) → b.first ≡ 10 → get_or text 0 0 ≡ 10
lead-feed P text after b h =
    ap (λ bs. get_or bs 0 0) b.parts ∙ lead-here b.first after ∙ ap lead_byte h ∙ ap (λ bs. get_or bs 0 0) (encode_ascii 10 (lit< tt))
