-- What steps do that lose no column of the count, for a text and beside it for a beginning of it.
use Rattle.tabled_text.proofs.Names.{After, Bool, Change, Kind, KiratAi, KiratE, Less, LineFeed, None, One, Option, Reading}
use Rattle.tabled_text.proofs.Names.{RegionalIndicator, RegionalIndicators, Same, Some, State, Three, Transparent, [], added, alone}
use Rattle.tabled_text.proofs.Names.{and_parts, ap, arith, before, before_alef, cases_lt, char_columns, char_count, cond, eqb-true, false}
use Rattle.tabled_text.proofs.Names.{if_kept, in_ranges, is_emoji_variation_base, is_indicator, is_kept, is_lam, is_quote, joining_type}
use Rattle.tabled_text.proofs.Names.{joining_type_eq, joins, kind, kind_stepped, max, nat_le, nat_tests, not, not-true, of_kind, of_ranges}
use Rattle.tabled_text.proofs.Names.{or_cases, past_emoji, plain, refl, single, subst, sym, tables, true, unicode_width, zip_stepped, ℕ}
use Rattle.tabled_text.proofs.Names.{⊎_elim, ◌&&◌, ◌+◌, ◌<◌, ◌==◌, ◌||◌, ◌∙◌, ◌∷◌, ◌≡◌, ◌≤◌}
use Rattle.ucd_emoji.proofs.BinaryLemmas.{is_emoji_variation_base_stepped}
use Rattle.ucd_table.proofs.Facts.{Stepped-everywhere, always, ends_by}
use Rattle.ucd_table.proofs.Stepped.{Stepped}
use Rattle.ucd_table.proofs.StepsLemmas.{rises_from}
use Rattle.tabled_text.proofs.Basics.{cond-cases}
use Rattle.tabled_text.proofs.CountBound.{IsLess-kept, columns-high, flag, of_kind-bound, slack, slack_after}
use Rattle.unicode_width.specs.declared.kind.Kind.TheVariants as kinds
use Rattle.unicode_width.specs.declared.state.After.TheVariants as states

-- ---- states that are reached where no column is lost

-- behind a joiner and an emoji
abbrev pub is_linked : After → Bool
is_linked states.ZwjEmoji = true
is_linked states.IndicatorZwj = true
is_linked states.EvenIndicatorsZwj = true
is_linked states.OddIndicatorsZwj = true
is_linked _ = false

-- no text selector, one other selector at most, and behind no joiner of emoji
abbrev pub is_open : State → Bool
is_open s = not (is_linked s.after) && (not s.text && not (s.emoji && s.quote))

-- the characters that take a column by a join, by the state that they lead to
abbrev pub takes_column : After → ℕ → Bool
takes_column states.RegionalIndicators c = is_indicator c
takes_column states.JoinerTifinagh c = c == 0x2D7F
takes_column states.KiratE c = c == 0x16D68
takes_column _ c = false

-- what a join does to such a state
abbrev pub IsCalm : ℕ → Option (Change × After) → Type 0
IsCalm c None = Unit {0}
IsCalm c (Some (Less, next)) = slack_after next ≡ 0
IsCalm c (Some (Same, next)) = slack_after next ≡ 0
IsCalm c (Some (One, next)) = takes_column next c ≡ true
IsCalm c (Some (Three, next)) = true ≡ false

pub joins-calm : (after : After) (c : ℕ) → is_linked after ≡ false → IsCalm c (joins false after c)
unfolding joins before_alef
joins-calm states.Alef c h =
    cond-cases (IsCalm c) (is_lam c) _ _ (λ _. refl)
    (λ _. cond-cases (IsCalm c) (((alone false c).0 == 0) && joining_type_eq (joining_type c) Transparent) _ _ (λ _. refl) (λ _. tt))
joins-calm states.ZwjEmoji c h = absurd cc
joins-calm states.IndicatorZwj c h = absurd cc
joins-calm states.EvenIndicatorsZwj c h = absurd cc
joins-calm states.OddIndicatorsZwj c h = absurd cc
joins-calm _ c h = grind arith

-- what is linked alone keeps back a column
pub calm-slack : (after : After) → is_linked after ≡ false → slack_after after ≡ 0
calm-slack states.ZwjEmoji h = cc
calm-slack states.IndicatorZwj h = cc
calm-slack states.EvenIndicatorsZwj h = cc
calm-slack states.OddIndicatorsZwj h = cc
calm-slack _ h = refl

pub takes-linked : (after : After) (c : ℕ) → takes_column after c ≡ true → is_linked after ≡ false
takes-linked states.ZwjEmoji c h = cc
takes-linked states.IndicatorZwj c h = cc
takes-linked states.EvenIndicatorsZwj c h = cc
takes-linked states.OddIndicatorsZwj c h = cc
takes-linked _ c h = refl

-- ---- characters by themselves

-- a character of no column keeps nothing back but for an open state
single-open : (c : ℕ) → is_open (single false c).1 ≡ false → (single false c).0 + slack (single false c).1 ≡ 0
single-open c h = grind arith

of_kind-open : (c : ℕ) (k : Kind) → is_open (of_kind false c k).1 ≡ false → (of_kind false c k).0 + slack (of_kind false c k).1 ≡ 0
of_kind-open c kinds.Single h = single-open c h
of_kind-open c _ h = cc

pub alone-open : (c : ℕ) → is_open (alone false c).1 ≡ false → (alone false c).0 + slack (alone false c).1 ≡ 0
unfolding alone
alone-open c h = of_kind-open c (kind c) h

pub alone-emoji_selector : alone false 0xFE0F ≡ (0, record plain { emoji = true })
unfolding unicode_width
alone-emoji_selector = refl

pub alone-quote_selector : alone false 0xFE01 ≡ (0, record plain { quote = true })
unfolding unicode_width
alone-quote_selector = refl

pub alone-joiner : alone false 0x2D7F ≡ (1, plain)
unfolding unicode_width
alone-joiner = refl

pub alone-vowel : alone false 0x16D68 ≡ (1, before states.KiratAi)
unfolding unicode_width
alone-vowel = refl

record AreSingle : Type 0 where
  left : alone false 0x2018 ≡ (1, plain)
  right : alone false 0x2019 ≡ (1, plain)
  opening : alone false 0x201C ≡ (1, plain)
  closing : alone false 0x201D ≡ (1, plain)

quotes : AreSingle
unfolding unicode_width
quotes = record { left = refl; right = refl; opening = refl; closing = refl }

quote-cases : (c : ℕ) → is_quote c ≡ true → (((c == 0x2018) || (c == 0x2019)) || ((c == 0x201C) || (c == 0x201D))) ≡ true
quote-cases c h = grind (arith, nat_tests)

quote-at : (c q : ℕ) → alone false q ≡ (1, plain) → (c == q) ≡ true → alone false c ≡ (1, plain)
quote-at c q known e = ap (alone false) (eqb-true c q e) ∙ known

pub alone-quote : (c : ℕ) → is_quote c ≡ true → alone false c ≡ (1, plain)
alone-quote c h =
    ⊎_elim
    (λ single. ⊎_elim (quote-at c 0x2018 quotes.left) (quote-at c 0x2019 quotes.right) (or_cases (c == 0x2018) (c == 0x2019) single))
    (λ double. ⊎_elim (quote-at c 0x201C quotes.opening) (quote-at c 0x201D quotes.closing) (or_cases (c == 0x201C) (c == 0x201D) double))
    (or_cases ((c == 0x2018) || (c == 0x2019)) ((c == 0x201C) || (c == 0x201D)) (quote-cases c h))

-- ---- kinds of whole ranges

abbrev is_solid : Kind → Bool
is_solid kinds.Narrow = true
is_solid kinds.Wide = true
is_solid kinds.Ambiguous = true
is_solid kinds.Emoji = true
is_solid _ = false

abbrev is_indicator_kind : Kind → Bool
is_indicator_kind kinds.RegionalIndicator = true
is_indicator_kind _ = false

unfoldable solid_bases_stepped : Stepped (λ c. not (is_emoji_variation_base c) || is_solid (kind c))
solid_bases_stepped =
    zip_stepped (λ b k. not b || is_solid k) is_emoji_variation_base kind is_emoji_variation_base_stepped kind_stepped

solid_bases_ok : (always (λ c. not (is_emoji_variation_base c) || is_solid (kind c)) solid_bases_stepped
    && (ends_by 0x11_0000 solid_bases_stepped.steps && solid_bases_stepped.default)) ≡ true
unfolding tables ends_by solid_bases_stepped is_emoji_variation_base_stepped kind_stepped
solid_bases_ok = refl

base-solid : (c : ℕ) → is_emoji_variation_base c ≡ true → is_solid (kind c) ≡ true
base-solid c h =
    let all = Stepped-everywhere (λ x. not (is_emoji_variation_base x) || is_solid (kind x)) solid_bases_stepped solid_bases_ok c in
    subst (λ b. (not b || is_solid (kind c)) ≡ true) h all

base-of_kind : (c : ℕ) (k : Kind) → is_solid k ≡ true → max 1 (of_kind false c k).0 ≡ 1 → of_kind false c k ≡ (1, plain)
base-of_kind c kinds.Wide h n = absurd (omega arith)
base-of_kind c kinds.Emoji h n = absurd (omega arith)
base-of_kind c kinds.Narrow h n = refl
base-of_kind c kinds.Ambiguous h n = refl
base-of_kind c _ h n = cc

-- the base of a sequence, if it counts one column, takes one by itself
pub alone-base : (c : ℕ) → is_emoji_variation_base c ≡ true → max 1 (alone false c).0 ≡ 1 → alone false c ≡ (1, plain)
unfolding alone
alone-base c h n = base-of_kind c (kind c) (base-solid c h) n

pub feed-no_base : is_emoji_variation_base 0x0A ≡ false
unfolding unicode_width
feed-no_base = refl

unfoldable indicators_stepped : Stepped (λ c. not (in_ranges ((0x1F1E6, 0x1F1FF) ∷ []) c) || is_indicator_kind (kind c))
unfolding rises_from
indicators_stepped =
    zip_stepped (λ b k. not b || is_indicator_kind k) (in_ranges ((0x1F1E6, 0x1F1FF) ∷ [])) kind (of_ranges ((0x1F1E6, 0x1F1FF) ∷ []) refl) kind_stepped

indicators_ok : (always (λ c. not (in_ranges ((0x1F1E6, 0x1F1FF) ∷ []) c) || is_indicator_kind (kind c)) indicators_stepped
    && (ends_by 0x11_0000 indicators_stepped.steps && indicators_stepped.default)) ≡ true
unfolding tables ends_by indicators_stepped kind_stepped
indicators_ok = refl

indicator-kind : (c : ℕ) → is_indicator c ≡ true → is_indicator_kind (kind c) ≡ true
unfolding in_ranges
indicator-kind c h =
    let all = Stepped-everywhere (λ x. not (in_ranges ((0x1F1E6, 0x1F1FF) ∷ []) x) || is_indicator_kind (kind x)) indicators_stepped indicators_ok c in
    grind (arith, nat_tests)

indicator-of_kind : (c : ℕ) (k : Kind) → is_indicator_kind k ≡ true → of_kind false c k ≡ (1, before states.RegionalIndicator)
indicator-of_kind c kinds.RegionalIndicator h = refl
indicator-of_kind c _ h = cc

pub alone-indicator : (c : ℕ) → is_indicator c ≡ true → alone false c ≡ (1, before states.RegionalIndicator)
unfolding alone
alone-indicator c h = indicator-of_kind c (kind c) (indicator-kind c h)

-- ---- a beginning of a text that is read alone, beside the reading of the whole

-- ---- what is known of both readings

-- the state of a beginning that is read by itself, beside that of the whole
pub data Follows (s own : State) : Type 0 where
  same_state : own ≡ s → Follows s own
  plain_state : own ≡ plain → Follows s own
  emoji_state : s.emoji ≡ true → own ≡ record plain { emoji = true } → Follows s own
  quote_state : s.emoji ≡ false → s.quote ≡ true → own ≡ record plain { quote = true } → Follows s own
  flags_state : s ≡ before RegionalIndicators → own ≡ before RegionalIndicator → Follows s own
  vowels_state : s ≡ before KiratE → own ≡ before KiratAi → Follows s own

-- no column was lost, in the whole and in the beginning
pub record Both (m k : ℕ) (r own : Reading) : Type 0 where
  pub whole : r.0 + slack r.1 ≡ m
  pub beginning : own.0 + slack own.1 ≡ k
  pub opens : is_open r.1 ≡ true
  pub follows : Follows r.1 own.1

-- a column of the whole was lost, or none
pub data Goes (m k : ℕ) (r own : Reading) : Type 0 where
  lost : r.0 + slack r.1 < m → Goes m k r own
  even : Both m k r own → Goes m k r own

-- the same after a step over c, where m and k were counted before it
abbrev pub Steps : (c m k : ℕ) (r own : Reading) → Type 0
Steps c m k r own = Goes (m + char_count c) (k + char_count c) r own

pub Goes-at : (m k : ℕ) (r own : Reading) → r.0 + slack r.1 ≤ m → (r.0 + slack r.1 ≡ m → Both m k r own) → Goes m k r own
Goes-at m k r own le both = ⊎_elim (λ less. lost less) (λ no. even (both (omega arith))) (cases_lt (r.0 + slack r.1) m)

pub Goes-both : (m k : ℕ) (b : Bool) (x y u v : Reading) → (b ≡ true → Goes m k x u) → (b ≡ false → Goes m k y v)
    → Goes m k (cond b x y) (cond b u v)
Goes-both m k true x y u v f g = f refl
Goes-both m k false x y u v f g = g refl

pub Goes-cond : (m k : ℕ) (b : Bool) (x y own : Reading) → (b ≡ true → Goes m k x own) → (b ≡ false → Goes m k y own)
    → Goes m k (cond b x y) own
Goes-cond m k true x y own f g = f refl
Goes-cond m k false x y own f g = g refl

pub Goes-own : (m k : ℕ) (r u v : Reading) → u ≡ v → Goes m k r v → Goes m k r u
Goes-own m k r u v e h = subst (Goes m k r) (sym e) h

-- both take the same columns and come to the same state
pub Goes-land : (m k d : ℕ) (t own : ℕ) (u : State) → t + d + slack u ≤ m → (t + d + slack u ≡ m → own + d + slack u ≡ k) → is_open u ≡ true
    → Goes m k (t + d, u) (own + d, u)
Goes-land m k d t own u le both o =
    Goes-at m k (t + d, u) (own + d, u) le (λ e. record { whole = e; beginning = both e; opens = o; follows = same_state refl })

-- ---- open states
pub record IsOpen (s : State) : Type 0 where
  pub linked : is_linked s.after ≡ false
  pub text : s.text ≡ false
  pub single : (s.emoji && s.quote) ≡ false

pub open-parts : (s : State) → is_open s ≡ true → IsOpen s
open-parts s h =
    let parts = and_parts (not (is_linked s.after)) (not s.text && not (s.emoji && s.quote)) h in
    let rest = and_parts (not s.text) (not (s.emoji && s.quote)) parts.1 in
    record { linked = not-true (is_linked s.after) parts.0; text = not-true s.text rest.0; single = not-true (s.emoji && s.quote) rest.1 }

pub no-quote : (s : State) → (s.emoji && s.quote) ≡ false → s.emoji ≡ true → s.quote ≡ false
no-quote s h e = subst (λ b. (b && s.quote) ≡ false) e h

pub flag-false : (b : Bool) → b ≡ false → flag b ≡ 0
flag-false b h = ap flag h

pub flag-none : (b : Bool) → flag b ≡ 0 → b ≡ false
flag-none true h = absurd (omega arith)
flag-none false h = refl

pub open-before : (after : After) → is_linked after ≡ false → is_open (before after) ≡ true
open-before after h = ap (λ b. not b && true) h

pub flag-most : (b : Bool) → flag b ≤ 1
flag-most true = omega arith
flag-most false = omega arith

open-emoji : (b : Bool) (s : State) → IsOpen s → s.quote ≡ false → is_open (record (cond b s plain) { emoji = true }) ≡ true
open-emoji true s o q = rw (o.linked, o.text, q)
open-emoji false s o q = refl

open-quote : (b : Bool) (s : State) → IsOpen s → s.emoji ≡ false → is_open (record (cond b s plain) { quote = true }) ≡ true
open-quote true s o e = rw (o.linked, o.text, e)
open-quote false s o e = refl

pub cond-emoji : (b : Bool) (s : State) → s.emoji ≡ false → (cond b s plain).emoji ≡ false
cond-emoji true s e = e
cond-emoji false s e = refl

cond-quote : (b : Bool) (s : State) → s.quote ≡ false → (cond b s plain).quote ≡ false
cond-quote true s e = e
cond-quote false s e = refl

pub open-kept_emoji : (b : Bool) (s : State) → IsOpen s → s.quote ≡ false → is_open (record (cond b s (if_kept s)) { emoji = true }) ≡ true
open-kept_emoji true s o q = rw (o.linked, o.text, q)
open-kept_emoji false s o q = open-emoji (is_kept s.after) s o q

pub open-kept_quote : (s : State) → IsOpen s → s.emoji ≡ false → is_open (record (if_kept s) { quote = true }) ≡ true
open-kept_quote s o e = open-quote (is_kept s.after) s o e

pub kept-no_emoji : (s : State) → s.emoji ≡ false → (if_kept s).emoji ≡ false
kept-no_emoji s e = cond-emoji (is_kept s.after) s e

pub kept-no_quote : (s : State) → s.quote ≡ false → (if_kept s).quote ≡ false
kept-no_quote s e = cond-quote (is_kept s.after) s e

pub cond-no_quote : (b : Bool) (s : State) → s.quote ≡ false → (cond b s (if_kept s)).quote ≡ false
cond-no_quote true s q = q
cond-no_quote false s q = kept-no_quote s q

pub joined-slack : (b : Bool) (s : State) → IsOpen s → slack_after (cond b s (if_kept s)).after ≡ 0
joined-slack true s o = calm-slack s.after o.linked
joined-slack false s o = let k = (IsLess-kept s).after in omega (arith, calm-slack s.after o.linked)

-- ---- one step of a beginning that is read by itself
pub own-feed : (c t : ℕ) (s : State) → (c == 0x0A) ≡ true → past_emoji false c t s ≡ (t + 1, before LineFeed)
unfolding past_emoji
own-feed c t s h = rw h

low-of : {A : Type 0} (a b d : Bool) (w x y z : A) → a ≡ false → d ≡ true → cond a w (cond (b && false) x (cond d y z)) ≡ y
low-of true b d w x y z h l = absurd cc
low-of false true true w x y z h l = refl
low-of false true false w x y z h l = absurd cc
low-of false false true w x y z h l = refl
low-of false false false w x y z h l = absurd cc

high-of : {A : Type 0} (a b d : Bool) (w x y z : A) → a ≡ false → d ≡ false → cond a w (cond (b && false) x (cond d y z)) ≡ z
high-of true b d w x y z h l = absurd cc
high-of false true true w x y z h l = absurd cc
high-of false true false w x y z h l = refl
high-of false false true w x y z h l = absurd cc
high-of false false false w x y z h l = refl

pub own-low : (c t : ℕ) → (c == 0x0A) ≡ false → nat_le c 0xA0 ≡ true → past_emoji false c t plain ≡ (t + 1, plain)
unfolding past_emoji
own-low c t h low = low-of (c == 0x0A) (c == 0x0D) (nat_le c 0xA0) _ _ _ _ h low

pub no-feed : (c : ℕ) → nat_le c 0xA0 ≡ false → (c == 0x0A) ≡ false
no-feed c high = grind (arith, nat_tests)

pub own-alone : (c t : ℕ) → nat_le c 0xA0 ≡ false → past_emoji false c t plain ≡ added t (alone false c)
unfolding past_emoji
own-alone c t high = high-of (c == 0x0A) (c == 0x0D) (nat_le c 0xA0) _ _ _ _ (no-feed c high) high

pub count-alone : (c : ℕ) → nat_le c 0xA0 ≡ false → char_count c ≡ max 1 (alone false c).0
count-alone c high = let e = columns-high c high in omega arith

pub alone-bound : (c : ℕ) → nat_le c 0xA0 ≡ false → (alone false c).0 + slack (alone false c).1 ≤ char_count c
unfolding alone
alone-bound c high =
    let e : char_columns c ≡ (alone false c).0 = columns-high c high in
    let b = of_kind-bound c (kind c) in omega arith
