-- A separator adds its own columns to every reading, and leaves the plain state.
use Rattle.tabled_text.proofs.Names.{After, Bool, Change, Kind, None, Option, Reading, Some, State, added, alone, and_parts, ap, arith}
use Rattle.tabled_text.proofs.Names.{before, before_alef, cases_Bool, char_columns, cond, false, has_plain_width, if_kept, in_context}
use Rattle.tabled_text.proofs.Names.{in_ranges, is_additive, is_emoji_variation_base, is_in_range, is_indicator, is_joined_emoji, is_kept}
use Rattle.tabled_text.proofs.Names.{is_keycap_base, is_ligature_transparent, is_line_feed, is_listed_or_drawn, is_plain, is_quote}
use Rattle.tabled_text.proofs.Names.{is_simple, is_simple_kind, is_text_presentation_base, joined_or, joins, kind, nat_le, nat_lt}
use Rattle.tabled_text.proofs.Names.{nat_tests, ne_eqb, not, not-true, of_kind, past_emoji, past_selectors, plain, refl, single}
use Rattle.tabled_text.proofs.Names.{skips_marks, step, subst, sym, true, ℕ, ⊎_elim, ◌&&◌, ◌+◌, ◌==◌, ◌||◌, ◌∙◌, ◌≡◌}
use Rattle.std.proofs.Math.Bool.{and-false}
use Rattle.unicode_width.specs.Width.{is_emoji, is_tag_digit, is_tag_letter, is_tifinagh}
use Rattle.tabled_text.proofs.Basics.{cond-cases}
use Rattle.tabled_text.proofs.CountBound.{columns-high}
use Rattle.tabled_text.proofs.Joining.{cond-emoji}
use Rattle.tabled_text.proofs.LetterLemmas.{columns-printable}
use Rattle.tabled_text.proofs.PlainLemmas.{IsUnmarked, unmarked-listed}
use Rattle.unicode_width.specs.declared.kind.Kind.TheVariants as kinds
use Rattle.unicode_width.specs.declared.state.After.TheVariants as states

-- ---- numbers that no sequence names

-- gaps between the characters that the rules name, above U+00A0
abbrev is_clear : ℕ → Bool
is_clear c =
    is_in_range 0xA1 0x5CF c || (is_in_range 0x2010 0x2017 c || (is_in_range 0x201A 0x201B c || (is_in_range 0x201E 0x2027 c
    || (is_in_range 0x2100 0x2CFF c || (is_in_range 0x2E00 0x9FFF c || is_in_range 0xFE20 0xFFFF c)))))

clear-listed : (c : ℕ) → is_listed_or_drawn c ≡ true → is_in_range 0x20 0x7E c ≡ false → is_clear c ≡ true
clear-listed c h k = grind (arith, nat_tests)

not_named : (c k : ℕ) → is_clear c ≡ true → is_clear k ≡ false → (c == k) ≡ false
not_named c k h n = ne_eqb c k (λ e. let clash : true ≡ false = sym h ∙ ap is_clear e ∙ n in cc)

-- a character that joins nothing, and is seen by itself in no state
record IsCalm (c : ℕ) : Type 0 where
  unmarked : IsUnmarked c
  clear : is_clear c ≡ true
  simple : is_simple_kind (kind c) ≡ true
  width : ((alone false c).0 == 0) ≡ false

not_emoji : (k : Kind) → is_simple_kind k ≡ true → is_emoji k ≡ false
not_emoji kinds.Zero h = refl
not_emoji kinds.Narrow h = refl
not_emoji kinds.Wide h = refl
not_emoji kinds.Ambiguous h = refl
not_emoji _ h = cc

not_tifinagh : (c : ℕ) → is_clear c ≡ true → is_tifinagh c ≡ false
not_tifinagh c h = grind (arith, nat_tests)

not_indicator : (c : ℕ) → is_clear c ≡ true → is_indicator c ≡ false
not_indicator c h = grind (arith, nat_tests)

not_tag_letter : (c : ℕ) → is_clear c ≡ true → is_tag_letter c ≡ false
not_tag_letter c h = grind (arith, nat_tests)

not_tag_digit : (c : ℕ) → is_clear c ≡ true → is_tag_digit c ≡ false
not_tag_digit c h = grind (arith, nat_tests)

not_tone : (c : ℕ) → is_clear c ≡ true → is_in_range 0xA4F8 0xA4FB c ≡ false
not_tone c h = grind (arith, nat_tests)

not_modifier : (c : ℕ) → is_clear c ≡ true → is_in_range 0x1F3FB 0x1F3FF c ≡ false
not_modifier c h = grind (arith, nat_tests)

not_quote : (c : ℕ) → is_clear c ≡ true → is_quote c ≡ false
not_quote c h = grind (arith, nat_tests)

not_low : (c : ℕ) → is_clear c ≡ true → nat_le c 0xA0 ≡ false
not_low c h = grind (arith, nat_tests)

abbrev nothing_joined : Option (Change × After)
nothing_joined = None

joins-calm : (after : After) (c : ℕ) → IsCalm c → joins false after c ≡ nothing_joined
unfolding joins before_alef
joins-calm states.EmojiModifier c h = rw (h.unmarked.base, not_named c 0x200D h.clear refl) refl
joins-calm states.RegionalIndicator c h = rw (not_indicator c h.clear) refl
joins-calm states.RegionalIndicators c h = rw (not_indicator c h.clear, not_named c 0x200D h.clear refl) refl
joins-calm states.Emoji c h = rw (not_named c 0x200D h.clear refl) refl
joins-calm states.ZwjEmoji c h = rw
    (not_named c 0x20E3 h.clear refl, not_indicator c h.clear, not_modifier c h.clear, not_named c 0xE007F h.clear refl, not_emoji (kind c) h.simple) refl
joins-calm states.IndicatorZwj c h = rw (not_indicator c h.clear) refl
joins-calm states.EvenIndicatorsZwj c h = rw (not_indicator c h.clear, not_named c 0x200D h.clear refl) refl
joins-calm states.OddIndicatorsZwj c h = rw (not_indicator c h.clear, not_named c 0x200D h.clear refl) refl
joins-calm states.TagEnd c h = rw (not_tag_letter c h.clear, not_tag_digit c h.clear) refl
joins-calm states.TagDigit1 c h = rw (not_tag_digit c h.clear) refl
joins-calm states.TagDigit2 c h = rw (not_tag_digit c h.clear) refl
joins-calm states.TagDigit3 c h = rw (not_named c 0x1F3F4 h.clear refl) refl
joins-calm states.TagLetter1 c h = rw (not_tag_letter c h.clear, not_tag_digit c h.clear) refl
joins-calm states.TagLetter2 c h = rw (not_tag_letter c h.clear, not_tag_digit c h.clear) refl
joins-calm states.TagLetter3 c h = rw (not_tag_letter c h.clear, not_tag_digit c h.clear, not_named c 0x1F3F4 h.clear refl) refl
joins-calm states.TagLetter4 c h = rw (not_tag_letter c h.clear, not_tag_digit c h.clear, not_named c 0x1F3F4 h.clear refl) refl
joins-calm states.TagLetter5 c h = rw (not_tag_letter c h.clear, not_named c 0x1F3F4 h.clear refl) refl
joins-calm states.TagLetter6 c h = rw (not_named c 0x1F3F4 h.clear refl) refl
joins-calm states.KiratE c h = rw
    (not_named c 0x16D63 h.clear refl, not_named c 0x16D67 h.clear refl, not_named c 0x16D68 h.clear refl, not_named c 0x16D69 h.clear refl) refl
joins-calm states.KiratAi c h = rw (not_named c 0x16D63 h.clear refl) refl
joins-calm states.Alef c h = rw (h.unmarked.lam, h.width) refl
joins-calm states.ZwjLamed c h = rw (not_named c 0x05D0 h.clear refl) refl
joins-calm states.ZwjYa c h = rw (not_named c 0x1A17 h.clear refl) refl
joins-calm states.VowelZwjYa c h = rw (not_named c 0x1A15 h.clear refl) refl
joins-calm states.Tifinagh c h = rw (not_named c 0x2D7F h.clear refl) refl
joins-calm states.ZwjTifinagh c h = rw (not_named c 0x2D7F h.clear refl, not_tifinagh c h.clear) refl
joins-calm states.JoinerTifinagh c h = rw (not_tifinagh c h.clear) refl
joins-calm states.LisuTone c h = rw (not_tone c h.clear) refl
joins-calm states.ZwjOrkhonI c h = rw (not_named c 0x10C32 h.clear refl) refl
joins-calm states.KhmerLetter c h = rw (not_named c 0x17D2 h.clear refl) refl
joins-calm _ c h = refl

-- ---- one step

alone-simple : (c : ℕ) (k : Kind) → is_simple_kind k ≡ true → (of_kind false c k).1 ≡ plain
alone-simple c kinds.Zero h = refl
alone-simple c kinds.Narrow h = refl
alone-simple c kinds.Wide h = refl
alone-simple c kinds.Ambiguous h = refl
alone-simple c _ h = cc

-- the reading that a character leaves which adds its own width
abbrev apart : ℕ → ℕ → Reading
apart c total = (total + (alone false c).0, plain)

added-calm : (c total : ℕ) → IsCalm c → added total (alone false c) ≡ apart c total
unfolding alone
added-calm c total h = ap (λ s. (total + (alone false c).0, s)) (alone-simple c (kind c) h.simple)

ligature-calm : (c : ℕ) → IsCalm c → is_ligature_transparent c ≡ false
unfolding is_ligature_transparent in_ranges
ligature-calm c h = rw (h.unmarked.ignorable) (grind (arith, nat_tests, not_named c 0x200D h.clear refl))

text-calm : (c : ℕ) → IsCalm c → is_text_presentation_base c ≡ false
unfolding is_text_presentation_base
text-calm c h = rw (h.unmarked.variation) refl

past_selectors-calm : (c total : ℕ) (after : After) → IsCalm c → past_selectors false c total after ≡ apart c total
unfolding past_selectors
past_selectors-calm c total after h =
    rw (not_named c 0x200D h.clear refl, ligature-calm c h, joins-calm after c h, and-false (skips_marks after)) (added-calm c total h)

in_context-calm : (c total : ℕ) (s : State) → IsCalm c → in_context false c total s ≡ apart c total
unfolding in_context
in_context-calm c total s h =
    rw (not_named c 0xFE0F h.clear refl, not_named c 0xFE01 h.clear refl, not_named c 0xFE0E h.clear refl, text-calm c h, not_quote c h.clear, and-false s.text, and-false s.quote)
    (past_selectors-calm c total s.after h)

past_emoji-calm : (c total : ℕ) (s : State) → IsCalm c → past_emoji false c total s ≡ apart c total
unfolding past_emoji
past_emoji-calm c total s h =
    rw (not_named c 0x0A h.clear refl, not_named c 0x0D h.clear refl, not_low c h.clear)
    (cond-cases (λ r. r ≡ apart c total) (is_plain s) _ _ (λ _. added-calm c total h) (λ _. in_context-calm c total s h))

-- a character that U+FE0F leaves as it is takes a step as it does without that
step-steady : (c total : ℕ) (s : State) (r : Reading) → is_emoji_variation_base c ≡ false → ((s : State) → past_emoji false c total s ≡ r)
    → step false c (total, s) ≡ r
unfolding step
step-steady c total s r v p = rw v (cond-cases (λ u. u ≡ r) (not s.emoji) _ _ (λ _. p s) (λ _. p (record (if_kept s) { emoji = false })))

past_emoji-printable : (c total : ℕ) (s : State) → is_in_range 0x20 0x7E c ≡ true → past_emoji false c total s ≡ (total + 1, plain)
unfolding past_emoji
past_emoji-printable c total s h = grind (arith, nat_tests)

abbrev adds_own : ℕ → ℕ → Reading
adds_own c total = (total + char_columns c, plain)

step-printable : (c total : ℕ) (s : State) → is_emoji_variation_base c ≡ false → is_in_range 0x20 0x7E c ≡ true
    → step false c (total, s) ≡ adds_own c total
step-printable c total s v h =
    step-steady c total s (adds_own c total) v (λ u. past_emoji-printable c total u h ∙ ap (λ n. (total + n, plain)) (sym (columns-printable c h)))

step-calm : (c total : ℕ) (s : State) → IsCalm c → step false c (total, s) ≡ adds_own c total
step-calm c total s h =
    step-steady c total s (adds_own c total) h.unmarked.variation
    (λ u. past_emoji-calm c total u h ∙ ap (λ n. (total + n, plain)) (sym (columns-high c (not_low c h.clear))))

not_zero : (n : ℕ) → ((n == 1) || (n == 2)) ≡ true → (n == 0) ≡ false
not_zero n h = grind (arith, nat_tests)

-- not printable, but simple
high-simple : (c : ℕ) → is_in_range 0x20 0x7E c ≡ false → is_simple c ≡ true → is_simple_kind (kind c) ≡ true
high-simple c p h = (and_parts (nat_lt 0xA0 c) (is_simple_kind (kind c)) (subst (λ b. (b || (nat_lt 0xA0 c && is_simple_kind (kind c))) ≡ true) p h)).1

calm-listed : (c : ℕ) → is_additive c ≡ true → is_keycap_base c ≡ false → is_in_range 0x20 0x7E c ≡ false → IsCalm c
calm-listed c h k p =
    let parts = and_parts (is_listed_or_drawn c) (has_plain_width c && is_simple c) h in
    let own = and_parts (has_plain_width c) (is_simple c) parts.1 in
    let clear = clear-listed c parts.0 p in
    record {
      unmarked = unmarked-listed c parts.0 k;
      clear = clear;
      simple = high-simple c p own.1;
      width = ap (λ n. n == 0) (sym (columns-high c (not_low c clear))) ∙ not_zero (char_columns c) own.0;
    }

-- a separator adds its own columns to every reading, and leaves the plain state
pub step-separator : (c total : ℕ) (s : State) → is_additive c ≡ true → is_keycap_base c ≡ false
    → step false c (total, s) ≡ (total + char_columns c, plain)
step-separator c total s h k =
    let listed = (and_parts (is_listed_or_drawn c) (has_plain_width c && is_simple c) h).0 in
    ⊎_elim (λ y. step-printable c total s (unmarked-listed c listed k).variation y)
    (λ n. step-calm c total s (calm-listed c h k n)) (cases_Bool (is_in_range 0x20 0x7E c))

pub keycap-printable : (c : ℕ) → is_keycap_base c ≡ true → is_in_range 0x20 0x7E c ≡ true
keycap-printable c h = grind (arith, nat_tests)

-- so does a keycap base where no U+FE0F follows
pub step-keycap : (c total : ℕ) (s : State) → is_keycap_base c ≡ true → s.emoji ≡ false
    → step false c (total, s) ≡ (total + char_columns c, plain)
unfolding step
step-keycap c total s h e =
    let p = keycap-printable c h in
    ap (λ b. cond (not b) (past_emoji false c total s)
    (cond (is_emoji_variation_base c) (total + cond (is_joined_emoji s.after) 0 2, before states.Emoji)
    (past_emoji false c total (record (if_kept s) { emoji = false })))) e
    ∙ past_emoji-printable c total s p ∙ ap (λ n. (total + n, plain)) (sym (columns-printable c p))

-- ---- only U+FE0F leaves its flag

single-flag : (c : ℕ) → (c == 0xFE0F) ≡ false → (single false c).1.emoji ≡ false
single-flag c h = grind arith

of_kind-flag : (c : ℕ) (k : Kind) → (c == 0xFE0F) ≡ false → (of_kind false c k).1.emoji ≡ false
of_kind-flag c kinds.Single h = single-flag c h
of_kind-flag c _ h = refl

record IsUnflagged (r : Reading) : Type 0 where
  unflagged : r.1.emoji ≡ false

unflagged-alone : (c total : ℕ) → (c == 0xFE0F) ≡ false → IsUnflagged (added total (alone false c))
unfolding alone
unflagged-alone c total h = record { unflagged = of_kind-flag c (kind c) h }

unflagged-joined : (total : ℕ) (j : Option (Change × After)) (own : ℕ × State) → IsUnflagged (added total own)
    → IsUnflagged (joined_or total j own)
unflagged-joined total None own h = h
unflagged-joined total (Some j) own h = record { unflagged = refl }

unflagged-past_selectors : (c total : ℕ) (after : After) → (c == 0xFE0F) ≡ false → IsUnflagged (past_selectors false c total after)
unfolding past_selectors
unflagged-past_selectors c total after h =
    cond-cases IsUnflagged (skips_marks after && (c == 0x200D)) _ _ (λ _. record { unflagged = refl })
    (λ _. cond-cases IsUnflagged (skips_marks after && is_ligature_transparent c) _ _ (λ _. record { unflagged = refl })
    (λ _. unflagged-joined total (joins false after c) (alone false c) (unflagged-alone c total h)))

unflagged-in_context : (c total : ℕ) (s : State) → (c == 0xFE0F) ≡ false → s.emoji ≡ false → IsUnflagged (in_context false c total s)
unfolding in_context
unflagged-in_context c total s h e =
    rw h
    (cond-cases IsUnflagged (c == 0xFE01) _ _ (λ _. record { unflagged = cond-emoji (is_kept s.after) s e })
    (λ _. cond-cases IsUnflagged (c == 0xFE0E) _ _ (λ _. record { unflagged = cond-emoji (is_kept s.after) s e })
    (λ _. cond-cases IsUnflagged (s.text && is_text_presentation_base c) _ _ (λ _. record { unflagged = refl })
    (λ _. cond-cases IsUnflagged (s.quote && is_quote c) _ _ (λ _. record { unflagged = refl })
    (λ _. unflagged-past_selectors c total s.after h)))))

unflagged-past_emoji : (c total : ℕ) (s : State) → (c == 0xFE0F) ≡ false → s.emoji ≡ false → IsUnflagged (past_emoji false c total s)
unfolding past_emoji
unflagged-past_emoji c total s h e =
    cond-cases IsUnflagged (c == 0x0A) _ _ (λ _. record { unflagged = refl })
    (λ _. cond-cases IsUnflagged ((c == 0x0D) && is_line_feed s.after) _ _ (λ _. record { unflagged = refl })
    (λ _. cond-cases IsUnflagged (nat_le c 0xA0) _ _ (λ _. record { unflagged = refl })
    (λ _. cond-cases IsUnflagged (is_plain s) _ _ (λ _. unflagged-alone c total h) (λ _. unflagged-in_context c total s h e))))

unflagged-step : (c total : ℕ) (s : State) → (c == 0xFE0F) ≡ false → IsUnflagged (step false c (total, s))
unfolding step
unflagged-step c total s h =
    cond-cases IsUnflagged (not s.emoji) _ _ (λ e. unflagged-past_emoji c total s h (not-true s.emoji e))
    (λ _. cond-cases IsUnflagged (is_emoji_variation_base c) _ _ (λ _. record { unflagged = refl })
    (λ _. unflagged-past_emoji c total (record (if_kept s) { emoji = false }) h refl))

pub step-flag : (c total : ℕ) (s : State) → (c == 0xFE0F) ≡ false → (step false c (total, s)).1.emoji ≡ false
step-flag c total s h = (unflagged-step c total s h).unflagged
