-- A step of the whole and of its beginning from the same state, and what a step does that only the whole joins.
use Rattle.tabled_text.proofs.Names.{After, Bool, Change, Emoji, KiratAi, KiratE, Less, LineFeed, None, One, Option, RegionalIndicator}
use Rattle.tabled_text.proofs.Names.{RegionalIndicators, Same, Some, State, Three, added, alone, and_parts, ap, arith, before, cases_Bool}
use Rattle.tabled_text.proofs.Names.{char_count, cond, eqb-true, false, if_kept, in_context, is_emoji_variation_base, is_joined_emoji}
use Rattle.tabled_text.proofs.Names.{is_ligature_transparent, is_line_feed, is_plain, is_quote, is_text_presentation_base, joined_or, joins}
use Rattle.tabled_text.proofs.Names.{nat_le, not, not-false, not-true, past_emoji, past_selectors, plain, refl, skips_marks, step, true, ℕ}
use Rattle.tabled_text.proofs.Names.{⊎_elim, ◌&&◌, ◌+◌, ◌<◌, ◌==◌, ◌∙◌, ◌≡◌, ◌≤◌}
use Rattle.unicode_width.specs.declared.state.After.TheVariants.{JoinerTifinagh}
use Rattle.tabled_text.proofs.CountBound.{Bounded-past_emoji, IsLess-kept, count-some, credit, flag-true, slack, with_joiner-same}
use Rattle.tabled_text.proofs.Joining.{Follows, Goes-at, Goes-both, Goes-cond, Goes-land, Goes-own, IsCalm, IsOpen, Steps, alone-bound}
use Rattle.tabled_text.proofs.Joining.{alone-indicator, alone-joiner, alone-open, alone-vowel, calm-slack, cond-no_quote, flag-false}
use Rattle.tabled_text.proofs.Joining.{flag-most, flags_state, is_linked, is_open, joined-slack, joins-calm, kept-no_emoji, kept-no_quote}
use Rattle.tabled_text.proofs.Joining.{lost, no-quote, open-before, open-kept_emoji, open-kept_quote, plain_state, same_state, takes-linked}
use Rattle.tabled_text.proofs.Joining.{takes_column, vowels_state}

-- a character that takes a column by a join, read by itself
pub record IsOwn (after : After) (own : ℕ × State) : Type 0 where
  pub state : State
  pub reads : own ≡ (1, state)
  pub keeps : slack state ≡ 0
  pub follows : Follows (before after) state

pub takes-own : (after : After) (c : ℕ) → takes_column after c ≡ true → IsOwn after (alone false c)
takes-own RegionalIndicators c h = record { state = before RegionalIndicator; reads = alone-indicator c h; keeps = refl; follows = flags_state refl refl }
takes-own KiratE c h = record { state = before KiratAi; reads = ap (alone false) (eqb-true c 0x16D68 h) ∙ alone-vowel; keeps = refl; follows = vowels_state refl refl }
takes-own JoinerTifinagh c h = record { state = plain; reads = ap (alone false) (eqb-true c 0x2D7F h) ∙ alone-joiner; keeps = refl; follows = plain_state refl }
takes-own _ c h = absurd cc

pub added-at : (own : ℕ) (a b : ℕ × State) → a ≡ b → added own a ≡ added own b
added-at own a b e = ap (added own) e

-- ---- a step of both, where the whole had t columns and the beginning own
module _ (c t own m k : ℕ) where
  -- neither state joins the character
  pub goes-alone : nat_le c 0xA0 ≡ false → t ≤ m → (t ≡ m → own ≡ k) → Steps c m k (added t (alone false c)) (added own (alone false c))
  goes-alone high le both =
      let n = char_count c in
      let some = count-some c in
      let b = alone-bound c high in
      Goes-at (m + n) (k + n) (added t (alone false c)) (added own (alone false c)) (omega arith)
      (λ e.
      let same_k : own ≡ k = both (omega arith) in
      record {
        whole = e;
        beginning = omega arith;
        opens = ⊎_elim (λ yes. yes) (λ no. let z = alone-open c no in absurd (omega arith)) (cases_Bool (is_open (alone false c).1));
        follows = same_state refl;
      })

  -- both join it in the same way
  pub goes-joined : (j : Option (Change × After)) (a : ℕ × State) → IsCalm c j → t ≤ m → (t ≡ m → own ≡ k)
      → Steps c m k (added t a) (added own a) → Steps c m k (joined_or t j a) (joined_or own j a)
  goes-joined None a calm le both rest = rest
  goes-joined (Some (Less, after)) a calm le both rest = let some = count-some c in lost (omega arith)
  goes-joined (Some (Same, after)) a calm le both rest = let some = count-some c in lost (omega arith)
  goes-joined (Some (One, after)) a calm le both rest =
      let some = count-some c in
      let linked = takes-linked after c calm in
      let none = calm-slack after linked in
      Goes-land (m + char_count c) (k + char_count c) 1 t own (before after) (omega arith)
      (λ e. let b : own ≡ k = both (omega arith) in omega arith) (open-before after linked)
  goes-joined (Some (Three, after)) a calm le both rest = absurd cc

  -- the whole joins it, and the beginning doesn't
  pub goes-beside : (j : Option (Change × After)) → IsCalm c j → t ≤ m → (t ≡ m → own ≡ k)
      → Steps c m k (added t (alone false c)) (added own (alone false c))
      → Steps c m k (joined_or t j (alone false c)) (added own (alone false c))
  goes-beside None calm le both rest = rest
  goes-beside (Some (Less, after)) calm le both rest = let some = count-some c in lost (omega arith)
  goes-beside (Some (Same, after)) calm le both rest = let some = count-some c in lost (omega arith)
  goes-beside (Some (One, after)) calm le both rest =
      let n = char_count c in
      let some = count-some c in
      let linked = takes-linked after c calm in
      let none = calm-slack after linked in
      let alone' = takes-own after c calm in
      let keeps = alone'.keeps in
      Goes-own (m + n) (k + n) (t + 1, before after) (added own (alone false c)) (own + 1, alone'.state) (added-at own (alone false c) (1, alone'.state) alone'.reads)
      (Goes-at (m + n) (k + n) (t + 1, before after) (own + 1, alone'.state) (omega arith)
      (λ e.
      let same_k : own ≡ k = both (omega arith) in
      record { whole = e; beginning = omega arith; opens = open-before after linked; follows = alone'.follows }))
  goes-beside (Some (Three, after)) calm le both rest = absurd cc

  -- past the selectors
  pub goes-past_selectors : (after : After) → is_linked after ≡ false → nat_le c 0xA0 ≡ false → t ≤ m → (t ≡ m → own ≡ k)
      → Steps c m k (past_selectors false c t after) (past_selectors false c own after)
  unfolding past_selectors
  goes-past_selectors after linked high le both =
      let n = char_count c in
      let some = count-some c in
      let none = calm-slack after linked in
      let w = (with_joiner-same after).slack in
      Goes-both (m + n) (k + n) (skips_marks after && (c == 0x200D)) _ _ _ _ (λ _. lost (omega arith))
      (λ _. Goes-both (m + n) (k + n) (skips_marks after && is_ligature_transparent c) _ _ _ _ (λ _. lost (omega arith))
      (λ _. goes-joined (joins false after c) (alone false c) (joins-calm after c linked) le both (goes-alone high le both)))

  pub beside-past_selectors : (after : After) → is_linked after ≡ false → nat_le c 0xA0 ≡ false → t ≤ m → (t ≡ m → own ≡ k)
      → Steps c m k (past_selectors false c t after) (added own (alone false c))
  unfolding past_selectors
  beside-past_selectors after linked high le both =
      let n = char_count c in
      let some = count-some c in
      let none = calm-slack after linked in
      let w = (with_joiner-same after).slack in
      Goes-cond (m + n) (k + n) (skips_marks after && (c == 0x200D)) _ _ _ (λ _. lost (omega arith))
      (λ _. Goes-cond (m + n) (k + n) (skips_marks after && is_ligature_transparent c) _ _ _ (λ _. lost (omega arith))
      (λ _. goes-beside (joins false after c) (joins-calm after c linked) le both (goes-alone high le both)))

-- ---- both in the same open state
module _ (c t own m k : ℕ) (s : State) (o : IsOpen s) (whole : t + slack s ≡ m) (beginning : own + slack s ≡ k) where
  pub same-in_context : nat_le c 0xA0 ≡ false → s.emoji ≡ false → Steps c m k (in_context false c t s) (in_context false c own s)
  unfolding in_context
  same-in_context high e =
      let n = char_count c in
      let some = count-some c in
      let kept = IsLess-kept s in
      let ka = kept.after in let ke = kept.emoji in let kq = kept.quote in
      let none = calm-slack s.after o.linked in
      let no_e = flag-false s.emoji e in
      Goes-both (m + n) (k + n) (c == 0xFE0F) _ _ _ _
      (λ _.
      let u : State = record (cond (is_joined_emoji s.after) s (if_kept s)) { emoji = true } in
      let ju = joined-slack (is_joined_emoji s.after) s o in
      ⊎_elim
      (λ q. let one = flag-true s.quote q in let two = flag-most u.quote in lost (omega arith))
      (λ q.
      let zero_q = flag-false s.quote q in
      let own_q = flag-false u.quote (cond-no_quote (is_joined_emoji s.after) s q) in
      Goes-at (m + n) (k + n) (t, u) (own, u) (omega arith)
      (λ x. record { whole = x; beginning = omega arith; opens = open-kept_emoji (is_joined_emoji s.after) s o q; follows = same_state refl }))
      (cases_Bool s.quote))
      (λ _. Goes-both (m + n) (k + n) (c == 0xFE01) _ _ _ _
      (λ _.
      let u : State = record (if_kept s) { quote = true } in
      let own_e = flag-false u.emoji (kept-no_emoji s e) in
      ⊎_elim
      (λ q. let one = flag-true s.quote q in lost (omega arith))
      (λ q.
      let zero_q = flag-false s.quote q in
      Goes-at (m + n) (k + n) (t, u) (own, u) (omega arith)
      (λ x. record { whole = x; beginning = omega arith; opens = open-kept_quote s o e; follows = same_state refl }))
      (cases_Bool s.quote))
      (λ _. Goes-both (m + n) (k + n) (c == 0xFE0E) _ _ _ _ (λ _. lost (omega arith))
      (λ _. Goes-both (m + n) (k + n) (s.text && is_text_presentation_base c) _ _ _ _
      (λ y. let no = o.text in let yes = (and_parts s.text (is_text_presentation_base c) y).0 in absurd cc)
      (λ _. Goes-both (m + n) (k + n) (s.quote && is_quote c) _ _ _ _
      (λ y.
      let q = flag-true s.quote (and_parts s.quote (is_quote c) y).0 in
      Goes-land (m + n) (k + n) 2 t own plain (omega arith) (λ x. omega arith) refl)
      (λ _. goes-past_selectors c t own m k s.after o.linked high (omega arith) (λ x. omega arith))))))

  pub same-past_emoji : s.emoji ≡ false → Steps c m k (past_emoji false c t s) (past_emoji false c own s)
  unfolding past_emoji
  same-past_emoji e =
      let n = char_count c in
      let some = count-some c in
      Goes-both (m + n) (k + n) (c == 0x0A) _ _ _ _ (λ _. Goes-land (m + n) (k + n) 1 t own (before LineFeed) (omega arith) (λ x. omega arith) refl)
      (λ _. Goes-both (m + n) (k + n) ((c == 0x0D) && is_line_feed s.after) _ _ _ _ (λ _. lost (omega arith))
      (λ _. Goes-both (m + n) (k + n) (nat_le c 0xA0) _ _ _ _ (λ _. Goes-land (m + n) (k + n) 1 t own plain (omega arith) (λ x. omega arith) refl)
      (λ high. Goes-both (m + n) (k + n) (is_plain s) _ _ _ _ (λ _. goes-alone c t own m k high (omega arith) (λ x. omega arith)) (λ _. same-in_context high e))))

-- ---- the whole in an emoji selector's state
pub lost-past_emoji : (c t m : ℕ) (s : State) → IsOpen s → credit s.after ≤ t → s.emoji ≡ true → t + slack s ≡ m
    → (past_emoji false c t (record (if_kept s) { emoji = false })).0 + slack (past_emoji false c t (record (if_kept s) { emoji = false })).1 < m + char_count c
lost-past_emoji c t m s o covers e whole =
    let kept = IsLess-kept s in
    let ka = kept.after in let kc = kept.credit in
    let none = calm-slack s.after o.linked in
    let q = flag-false (if_kept s).quote (kept-no_quote s (no-quote s o.single e)) in
    let one = flag-true s.emoji e in
    let b = (Bounded-past_emoji t c t (record (if_kept s) { emoji = false }) (record { bound = omega arith; covers = omega arith })).bound in
    omega arith

pub lost-joined : (c t m n : ℕ) (s : State) (b : Bool) → b ≡ true → 1 ≤ n → t + 1 ≡ m → t + cond b 0 2 + slack (before Emoji) < m + n
lost-joined c t m n s true h some e = omega arith
lost-joined c t m n s false h some e = absurd cc

pub two-columns : (b : Bool) → b ≡ false → cond {A = ℕ} b 0 2 ≡ 2
two-columns true h = absurd cc
two-columns false h = refl

pub same-step : (c t own m k : ℕ) (s : State) → IsOpen s → credit s.after ≤ t → t + slack s ≡ m → own + slack s ≡ k
    → Steps c m k (step false c (t, s)) (step false c (own, s))
unfolding step
same-step c t own m k s o covers whole beginning =
    let n = char_count c in
    let some = count-some c in
    let none = calm-slack s.after o.linked in
    Goes-both (m + n) (k + n) (not s.emoji) _ _ _ _ (λ y. same-past_emoji c t own m k s o whole beginning (not-true s.emoji y))
    (λ y.
    let e = not-false s.emoji y in
    let one = flag-true s.emoji e in
    let q = flag-false s.quote (no-quote s o.single e) in
    Goes-both (m + n) (k + n) (is_emoji_variation_base c) _ _ _ _
    (λ _. ⊎_elim (λ j. lost (lost-joined c t m n s (is_joined_emoji s.after) j some (omega arith)))
    (λ j. let two = two-columns (is_joined_emoji s.after) j in
    Goes-land (m + n) (k + n) (cond (is_joined_emoji s.after) 0 2) t own (before Emoji) (omega arith) (λ x. omega arith) refl)
    (cases_Bool (is_joined_emoji s.after)))
    (λ _. lost (lost-past_emoji c t m s o covers e whole)))
