-- A step of the whole and of its beginning from whatever states they are in.
use Rattle.tabled_text.proofs.Names.{Bool, Emoji, KiratAi, KiratE, LineFeed, None, One, Reading, RegionalIndicator, RegionalIndicators}
use Rattle.tabled_text.proofs.Names.{Same, Some, State, added, alone, and_parts, ap, arith, before, cases_Bool, char_count, cond, eqb-true}
use Rattle.tabled_text.proofs.Names.{false, if_kept, in_context, is_emoji_variation_base, is_indicator, is_joined_emoji, is_line_feed}
use Rattle.tabled_text.proofs.Names.{is_plain, is_quote, is_text_presentation_base, joined_or, joins, nat_le, nat_tests, not, not-false}
use Rattle.tabled_text.proofs.Names.{not-true, past_emoji, past_selectors, plain, refl, step, subst, sym, true, ℕ, ⊎_elim, ◌&&◌, ◌+◌, ◌==◌}
use Rattle.tabled_text.proofs.Names.{◌∙◌, ◌≡◌, ◌≤◌}
use Rattle.unicode_width.specs.declared.state.After.TheVariants.{Nothing, ZwjEmoji}
use Rattle.unicode_width.specs.Width.{first_of}
use Rattle.tabled_text.proofs.CountBound.{Bounded-past_selectors, IsLess-kept, count-some, credit, flag-true, slack}
use Rattle.tabled_text.proofs.Joining.{Both, Follows, Goes, Goes-at, Goes-both, Goes-cond, Goes-land, Goes-own, IsOpen, Steps, alone-base}
use Rattle.tabled_text.proofs.Joining.{alone-bound, alone-emoji_selector, alone-quote, alone-quote_selector, alone-vowel, calm-slack}
use Rattle.tabled_text.proofs.Joining.{count-alone, emoji_state, feed-no_base, flag-false, flag-most, flag-none, flags_state, joined-slack}
use Rattle.tabled_text.proofs.Joining.{kept-no_emoji, lost, no-feed, no-quote, open-kept_emoji, open-kept_quote, open-parts, own-alone}
use Rattle.tabled_text.proofs.Joining.{own-feed, own-low, plain_state, quote_state, same_state, vowels_state}
use Rattle.tabled_text.proofs.SameSteps.{added-at, beside-past_selectors, goes-alone, lost-joined, lost-past_emoji, same-step, two-columns}

-- ---- the beginning in a plain state
pub own-emoji_selector : (c own : ℕ) → (c == 0xFE0F) ≡ true → added own (alone false c) ≡ (own + 0, record plain { emoji = true })
own-emoji_selector c own h = added-at own (alone false c) (0, record plain { emoji = true }) (ap (alone false) (eqb-true c 0xFE0F h) ∙ alone-emoji_selector)

pub own-quote_selector : (c own : ℕ) → (c == 0xFE01) ≡ true → added own (alone false c) ≡ (own + 0, record plain { quote = true })
own-quote_selector c own h = added-at own (alone false c) (0, record plain { quote = true }) (ap (alone false) (eqb-true c 0xFE01 h) ∙ alone-quote_selector)

module _ (c t own m k : ℕ) (s : State) (o : IsOpen s) (whole : t + slack s ≡ m) (beginning : own ≡ k) where
  pub blank-in_context : nat_le c 0xA0 ≡ false → s.emoji ≡ false → Steps c m k (in_context false c t s) (added own (alone false c))
  unfolding in_context
  blank-in_context high e =
      let n = char_count c in
      let some = count-some c in
      let kept = IsLess-kept s in
      let ka = kept.after in let ke = kept.emoji in let kq = kept.quote in
      let none = calm-slack s.after o.linked in
      let no_e = flag-false s.emoji e in
      Goes-cond (m + n) (k + n) (c == 0xFE0F) _ _ _
      (λ x.
      let u : State = record (cond (is_joined_emoji s.after) s (if_kept s)) { emoji = true } in
      let ju = joined-slack (is_joined_emoji s.after) s o in
      let mu = flag-most u.quote in
      Goes-own (m + n) (k + n) (t, u) (added own (alone false c)) (own + 0, record plain { emoji = true }) (own-emoji_selector c own x)
      (Goes-at (m + n) (k + n) (t, u) (own + 0, record plain { emoji = true }) (omega arith)
      (λ y.
      let q = flag-none s.quote (omega arith) in
      record { whole = y; beginning = omega arith; opens = open-kept_emoji (is_joined_emoji s.after) s o q; follows = emoji_state refl refl })))
      (λ _. Goes-cond (m + n) (k + n) (c == 0xFE01) _ _ _
      (λ x.
      let u : State = record (if_kept s) { quote = true } in
      let own_e = flag-false u.emoji (kept-no_emoji s e) in
      Goes-own (m + n) (k + n) (t, u) (added own (alone false c)) (own + 0, record plain { quote = true }) (own-quote_selector c own x)
      (Goes-at (m + n) (k + n) (t, u) (own + 0, record plain { quote = true }) (omega arith)
      (λ y. record { whole = y; beginning = omega arith; opens = open-kept_quote s o e; follows = quote_state (kept-no_emoji s e) refl refl })))
      (λ _. Goes-cond (m + n) (k + n) (c == 0xFE0E) _ _ _ (λ _. lost (omega arith))
      (λ _. Goes-cond (m + n) (k + n) (s.text && is_text_presentation_base c) _ _ _
      (λ y. let no = o.text in let yes = (and_parts s.text (is_text_presentation_base c) y).0 in absurd cc)
      (λ _. Goes-cond (m + n) (k + n) (s.quote && is_quote c) _ _ _
      (λ y.
      let parts = and_parts s.quote (is_quote c) y in
      let q = flag-true s.quote parts.0 in
      Goes-own (m + n) (k + n) (t + 2, plain) (added own (alone false c)) (own + 1, plain) (added-at own (alone false c) (1, plain) (alone-quote c parts.1))
      (Goes-at (m + n) (k + n) (t + 2, plain) (own + 1, plain) (omega arith)
      (λ x. record { whole = x; beginning = omega arith; opens = refl; follows = same_state refl })))
      (λ _. beside-past_selectors c t own m k s.after o.linked high (omega arith) (λ x. beginning))))))

  pub blank-low : (c == 0x0A) ≡ false → nat_le c 0xA0 ≡ true → Steps c m k (past_emoji false c t s) (past_emoji false c own plain)
  unfolding past_emoji
  blank-low unfed below =
      let n = char_count c in
      let some = count-some c in
      Goes-own (m + n) (k + n) _ (past_emoji false c own plain) (own + 1, plain) (own-low c own unfed below)
      (Goes-cond (m + n) (k + n) (c == 0x0A) _ _ _ (λ y. absurd cc)
      (λ _. Goes-cond (m + n) (k + n) ((c == 0x0D) && is_line_feed s.after) _ _ _ (λ _. lost (omega arith))
      (λ _. Goes-cond (m + n) (k + n) (nat_le c 0xA0) _ _ _ (λ _. Goes-land (m + n) (k + n) 1 t own plain (omega arith) (λ x. omega arith) refl) (λ y. absurd cc))))

  pub blank-high : nat_le c 0xA0 ≡ false → s.emoji ≡ false → Steps c m k (past_emoji false c t s) (past_emoji false c own plain)
  unfolding past_emoji
  blank-high above e =
      let n = char_count c in
      let some = count-some c in
      let no = no-feed c above in
      Goes-own (m + n) (k + n) _ (past_emoji false c own plain) (added own (alone false c)) (own-alone c own above)
      (Goes-cond (m + n) (k + n) (c == 0x0A) _ _ _ (λ y. absurd cc)
      (λ _. Goes-cond (m + n) (k + n) ((c == 0x0D) && is_line_feed s.after) _ _ _ (λ _. lost (omega arith))
      (λ _. Goes-cond (m + n) (k + n) (nat_le c 0xA0) _ _ _ (λ y. absurd cc)
      (λ _. Goes-cond (m + n) (k + n) (is_plain s) _ _ _ (λ _. goes-alone c t own m k above (omega arith) (λ x. beginning)) (λ _. blank-in_context above e)))))

  pub blank-feed : (c == 0x0A) ≡ true → Steps c m k (past_emoji false c t s) (past_emoji false c own plain)
  blank-feed feed =
      let n = char_count c in
      let some = count-some c in
      Goes-own (m + n) (k + n) (past_emoji false c t s) (past_emoji false c own plain) (own + 1, before LineFeed) (own-feed c own plain feed)
      (subst (λ r. Goes (m + n) (k + n) r (own + 1, before LineFeed)) (sym (own-feed c t s feed))
      (Goes-land (m + n) (k + n) 1 t own (before LineFeed) (omega arith) (λ x. omega arith) refl))

  pub blank-past_emoji : s.emoji ≡ false → Steps c m k (past_emoji false c t s) (past_emoji false c own plain)
  blank-past_emoji e =
      ⊎_elim blank-feed (λ no. ⊎_elim (blank-low no) (λ above. blank-high above e) (cases_Bool (nat_le c 0xA0))) (cases_Bool (c == 0x0A))

-- the base of a sequence, read by itself
pub own-base : (c own : ℕ) → is_emoji_variation_base c ≡ true → char_count c ≡ 1 → past_emoji false c own plain ≡ (own + 1, plain)
own-base c own h n =
    ⊎_elim
    (λ feed. let at = ap is_emoji_variation_base (eqb-true c 0x0A feed) in let no = feed-no_base in cc)
    (λ no. ⊎_elim (λ low. own-low c own no low)
    (λ high. let e = count-alone c high in
    own-alone c own high ∙ added-at own (alone false c) (1, plain) (alone-base c h (sym e ∙ n)))
    (cases_Bool (nat_le c 0xA0)))
    (cases_Bool (c == 0x0A))

pub blank-step : (c t own m k : ℕ) (s : State) → IsOpen s → credit s.after ≤ t → t + slack s ≡ m → own ≡ k
    → Steps c m k (step false c (t, s)) (step false c (own, plain))
unfolding step
blank-step c t own m k s o covers whole beginning =
    let n = char_count c in
    let some = count-some c in
    let none = calm-slack s.after o.linked in
    Goes-cond (m + n) (k + n) (not s.emoji) _ _ _ (λ y. blank-past_emoji c t own m k s o whole beginning (not-true s.emoji y))
    (λ y.
    let e = not-false s.emoji y in
    let one = flag-true s.emoji e in
    let q = flag-false s.quote (no-quote s o.single e) in
    Goes-cond (m + n) (k + n) (is_emoji_variation_base c) _ _ _
    (λ b. ⊎_elim (λ j. lost (lost-joined c t m n s (is_joined_emoji s.after) j some (omega arith)))
    (λ j.
    let two = two-columns (is_joined_emoji s.after) j in
    Goes-at (m + n) (k + n) (t + cond (is_joined_emoji s.after) 0 2, before Emoji) (past_emoji false c own plain) (omega arith)
    (λ x.
    let single : n ≡ 1 = omega arith in
    let reads = own-base c own b single in
    subst (λ r. Both (m + n) (k + n) (t + cond (is_joined_emoji s.after) 0 2, before Emoji) r) (sym reads)
    (record { whole = x; beginning = omega arith; opens = refl; follows = plain_state refl })))
    (cases_Bool (is_joined_emoji s.after)))
    (λ _. lost (lost-past_emoji c t m s o covers e whole)))

-- ---- the beginning behind a selector alone
pub emoji-step : (c t own m k : ℕ) (s : State) → IsOpen s → credit s.after ≤ t → s.emoji ≡ true → t + slack s ≡ m → own + 1 ≡ k
    → Steps c m k (step false c (t, s)) (step false c (own, record plain { emoji = true }))
unfolding step
emoji-step c t own m k s o covers e whole beginning =
    let n = char_count c in
    let some = count-some c in
    let none = calm-slack s.after o.linked in
    let one = flag-true s.emoji e in
    let q = flag-false s.quote (no-quote s o.single e) in
    Goes-cond (m + n) (k + n) (not s.emoji) _ _ _ (λ y. let no = not-true s.emoji y in absurd cc)
    (λ _. Goes-both (m + n) (k + n) (is_emoji_variation_base c) _ _ _ _
    (λ b. ⊎_elim (λ j. lost (lost-joined c t m n s (is_joined_emoji s.after) j some (omega arith)))
    (λ j.
    let two = two-columns (is_joined_emoji s.after) j in
    Goes-at (m + n) (k + n) (t + cond (is_joined_emoji s.after) 0 2, before Emoji) (own + 2, before Emoji) (omega arith)
    (λ x. record { whole = x; beginning = omega arith; opens = refl; follows = same_state refl }))
    (cases_Bool (is_joined_emoji s.after)))
    (λ _. lost (lost-past_emoji c t m s o covers e whole)))

pub own-quoted : (c own : ℕ) → is_quote c ≡ true → step false c (own, record plain { quote = true }) ≡ (own + 2, plain)
unfolding step past_emoji in_context
own-quoted c own h = grind (arith, nat_tests)

pub quote-in_context : (c t own m k : ℕ) (s : State) → IsOpen s → credit s.after ≤ t → s.emoji ≡ false → s.quote ≡ true → t + slack s ≡ m
    → own + 1 ≡ k → nat_le c 0xA0 ≡ false → Steps c m k (in_context false c t s) (step false c (own, record plain { quote = true }))
unfolding in_context
quote-in_context c t own m k s o covers e q whole beginning high =
    let n = char_count c in
    let some = count-some c in
    let kept = IsLess-kept s in
    let ka = kept.after in let ke = kept.emoji in let kq = kept.quote in
    let none = calm-slack s.after o.linked in
    let no_e = flag-false s.emoji e in
    let one = flag-true s.quote q in
    let ju = joined-slack (is_joined_emoji s.after) s o in
    let mu = flag-most (cond (is_joined_emoji s.after) s (if_kept s)).quote in
    Goes-cond (m + n) (k + n) (c == 0xFE0F) _ _ _ (λ _. lost (omega arith))
    (λ _. Goes-cond (m + n) (k + n) (c == 0xFE01) _ _ _ (λ _. lost (omega arith))
    (λ _. Goes-cond (m + n) (k + n) (c == 0xFE0E) _ _ _ (λ _. lost (omega arith))
    (λ _. Goes-cond (m + n) (k + n) (s.text && is_text_presentation_base c) _ _ _ (λ _. lost (omega arith))
    (λ _. Goes-cond (m + n) (k + n) (s.quote && is_quote c) _ _ _
    (λ y.
    Goes-own (m + n) (k + n) (t + 2, plain) _ (own + 2, plain) (own-quoted c own (and_parts s.quote (is_quote c) y).1)
    (Goes-land (m + n) (k + n) 2 t own plain (omega arith) (λ x. omega arith) refl))
    (λ _.
    let b = (Bounded-past_selectors t c t s.after high (omega arith) covers).bound in
    lost (omega arith))))))

pub step-no_emoji : (c t : ℕ) (s : State) → s.emoji ≡ false → step false c (t, s) ≡ past_emoji false c t s
unfolding step
step-no_emoji c t s e = rw e

pub quote-past_emoji : (c t own m k : ℕ) (s : State) → IsOpen s → credit s.after ≤ t → s.emoji ≡ false → s.quote ≡ true → t + slack s ≡ m
    → own + 1 ≡ k → Steps c m k (past_emoji false c t s) (step false c (own, record plain { quote = true }))
unfolding past_emoji
quote-past_emoji c t own m k s o covers e q whole beginning =
    let n = char_count c in
    let some = count-some c in
    let none = calm-slack s.after o.linked in
    let one = flag-true s.quote q in
    Goes-cond (m + n) (k + n) (c == 0x0A) _ _ _ (λ _. lost (omega arith))
    (λ _. Goes-cond (m + n) (k + n) ((c == 0x0D) && is_line_feed s.after) _ _ _ (λ _. lost (omega arith))
    (λ _. Goes-cond (m + n) (k + n) (nat_le c 0xA0) _ _ _ (λ _. lost (omega arith))
    (λ high. Goes-cond (m + n) (k + n) (is_plain s) _ _ _ (λ _. let b = alone-bound c high in lost (omega arith))
    (λ _. quote-in_context c t own m k s o covers e q whole beginning high))))

pub quote-step : (c t own m k : ℕ) (s : State) → IsOpen s → credit s.after ≤ t → s.emoji ≡ false → s.quote ≡ true → t + slack s ≡ m
    → own + 1 ≡ k → Steps c m k (step false c (t, s)) (step false c (own, record plain { quote = true }))
quote-step c t own m k s o covers e q whole beginning =
    subst (λ r. Steps c m k r (step false c (own, record plain { quote = true }))) (sym (step-no_emoji c t s e))
    (quote-past_emoji c t own m k s o covers e q whole beginning)

-- ---- flags and vowels, which the beginning counts from its own end

-- a step from a state that no selector keeps, where r is past the selectors
abbrev pub in_turn : ℕ → ℕ → Reading → Reading
in_turn c t r =
    cond (c == 0x0A) (t + 1, before LineFeed) (cond ((c == 0x0D) && false) (t, plain) (cond (nat_le c 0xA0) (t + 1, plain)
    (cond (c == 0xFE0F) (t, record plain { emoji = true }) (cond (c == 0xFE01) (t, record plain { quote = true })
    (cond (c == 0xFE0E) (t, record plain { text = true }) r)))))

module _ (c t own m k : ℕ) (whole : t ≡ m) (beginning : own ≡ k) where
  pub flags-pick : (b d : Bool) → Steps c m k (added t (alone false c)) (added own (alone false c))
      → Steps c m k
      (joined_or t (first_of (cond b (Some (One, RegionalIndicators)) (cond d (Some (Same, ZwjEmoji)) None)) None) (alone false c))
      (joined_or own (first_of (cond b (Some (One, RegionalIndicators)) None) None) (alone false c))
  flags-pick true d rest =
      let some = count-some c in
      Goes-land (m + char_count c) (k + char_count c) 1 t own (before RegionalIndicators) (omega arith) (λ x. omega arith) refl
  flags-pick false true rest = let some = count-some c in lost (omega arith)
  flags-pick false false rest = rest

  pub vowels-pick : (a b d e : Bool) → (d ≡ true → added own (alone false c) ≡ (own + 1, before KiratAi))
      → Steps c m k (added t (alone false c)) (added own (alone false c))
      → Steps c m k (joined_or t (first_of (cond a (Some (Same, Nothing)) (cond b (Some (Same, KiratAi)) (cond d (Some (One, KiratE))
      (cond e (Some (Same, Nothing)) None)))) (first_of None None)) (alone false c))
      (joined_or own (first_of (cond a (Some (Same, Nothing)) None) (first_of None None)) (alone false c))
  vowels-pick true b d e vowel rest = let some = count-some c in lost (omega arith)
  vowels-pick false true d e vowel rest = let some = count-some c in lost (omega arith)
  vowels-pick false false true e vowel rest =
      let some = count-some c in
      let n = char_count c in
      Goes-own (m + n) (k + n) (t + 1, before KiratE) (added own (alone false c)) (own + 1, before KiratAi) (vowel refl)
      (Goes-at (m + n) (k + n) (t + 1, before KiratE) (own + 1, before KiratAi) (omega arith)
      (λ x. record { whole = x; beginning = omega arith; opens = refl; follows = vowels_state refl refl }))
  vowels-pick false false false true vowel rest = let some = count-some c in lost (omega arith)
  vowels-pick false false false false vowel rest = rest

  -- both in a state that no selector keeps
  pub in_turn-step : (x y : Reading) → (nat_le c 0xA0 ≡ false → Steps c m k x y) → Steps c m k (in_turn c t x) (in_turn c own y)
  in_turn-step x y rest =
      let n = char_count c in
      let some = count-some c in
      Goes-both (m + n) (k + n) (c == 0x0A) _ _ _ _ (λ _. Goes-land (m + n) (k + n) 1 t own (before LineFeed) (omega arith) (λ x. omega arith) refl)
      (λ _. Goes-both (m + n) (k + n) ((c == 0x0D) && false) _ _ _ _ (λ _. lost (omega arith))
      (λ _. Goes-both (m + n) (k + n) (nat_le c 0xA0) _ _ _ _ (λ _. Goes-land (m + n) (k + n) 1 t own plain (omega arith) (λ x. omega arith) refl)
      (λ high. Goes-both (m + n) (k + n) (c == 0xFE0F) _ _ _ _
      (λ _. Goes-at (m + n) (k + n) (t, record plain { emoji = true }) (own, record plain { emoji = true }) (omega arith)
      (λ x. record { whole = x; beginning = omega arith; opens = refl; follows = same_state refl }))
      (λ _. Goes-both (m + n) (k + n) (c == 0xFE01) _ _ _ _
      (λ _. Goes-at (m + n) (k + n) (t, record plain { quote = true }) (own, record plain { quote = true }) (omega arith)
      (λ x. record { whole = x; beginning = omega arith; opens = refl; follows = same_state refl }))
      (λ _. Goes-both (m + n) (k + n) (c == 0xFE0E) _ _ _ _ (λ _. lost (omega arith)) (λ _. rest high))))))

  pub flags-past : nat_le c 0xA0 ≡ false
      → Steps c m k (past_selectors false c t RegionalIndicators) (past_selectors false c own RegionalIndicator)
  unfolding past_selectors joins
  flags-past high = flags-pick (is_indicator c) (c == 0x200D) (goes-alone c t own m k high (omega arith) (λ x. beginning))

  pub flags-step : Steps c m k (step false c (t, before RegionalIndicators)) (step false c (own, before RegionalIndicator))
  unfolding step past_emoji in_context
  flags-step = in_turn-step (past_selectors false c t RegionalIndicators) (past_selectors false c own RegionalIndicator) flags-past

  pub vowels-past : nat_le c 0xA0 ≡ false → Steps c m k (past_selectors false c t KiratE) (past_selectors false c own KiratAi)
  unfolding past_selectors joins
  vowels-past high =
      vowels-pick (c == 0x16D63) (c == 0x16D67) (c == 0x16D68) (c == 0x16D69)
      (λ v. added-at own (alone false c) (1, before KiratAi) (ap (alone false) (eqb-true c 0x16D68 v) ∙ alone-vowel))
      (goes-alone c t own m k high (omega arith) (λ x. beginning))

  pub vowels-step : Steps c m k (step false c (t, before KiratE)) (step false c (own, before KiratAi))
  unfolding step past_emoji in_context
  vowels-step = in_turn-step (past_selectors false c t KiratE) (past_selectors false c own KiratAi) vowels-past

-- ---- a step from whatever states
pub both-step : (c t own m k : ℕ) (s u : State) → credit s.after ≤ t → Both m k (t, s) (own, u)
    → Steps c m k (step false c (t, s)) (step false c (own, u))
both-step c t own m k s u covers h = from h.follows
  where
    o : IsOpen s
    o = open-parts s h.opens

    from : Follows s u → Steps c m k (step false c (t, s)) (step false c (own, u))
    from (same_state e) =
        let b : own + slack s ≡ k = subst (λ v. own + slack v ≡ k) e h.beginning in
        subst (λ v. Steps c m k (step false c (t, s)) (step false c (own, v))) (sym e)
        (same-step c t own m k s o covers h.whole b)
    from (plain_state e) =
        let b : own + 0 ≡ k = subst (λ v. own + slack v ≡ k) e h.beginning in
        subst (λ v. Steps c m k (step false c (t, s)) (step false c (own, v))) (sym e)
        (blank-step c t own m k s o covers h.whole (omega arith))
    from (emoji_state y e) =
        let b : own + 1 ≡ k = subst (λ v. own + slack v ≡ k) e h.beginning in
        subst (λ v. Steps c m k (step false c (t, s)) (step false c (own, v))) (sym e)
        (emoji-step c t own m k s o covers y h.whole b)
    from (quote_state off y e) =
        let b : own + 1 ≡ k = subst (λ v. own + slack v ≡ k) e h.beginning in
        subst (λ v. Steps c m k (step false c (t, s)) (step false c (own, v))) (sym e)
        (quote-step c t own m k s o covers off y h.whole b)
    from (flags_state d e) =
        let a : t + 0 ≡ m = subst (λ v. t + slack v ≡ m) d h.whole in
        let b : own + 0 ≡ k = subst (λ v. own + slack v ≡ k) e h.beginning in
        subst (λ v. Steps c m k (step false c (t, v)) (step false c (own, u))) (sym d)
        (subst (λ v. Steps c m k (step false c (t, before RegionalIndicators)) (step false c (own, v))) (sym e)
        (flags-step c t own m k (omega arith) (omega arith)))
    from (vowels_state d e) =
        let a : t + 0 ≡ m = subst (λ v. t + slack v ≡ m) d h.whole in
        let b : own + 0 ≡ k = subst (λ v. own + slack v ≡ k) e h.beginning in
        subst (λ v. Steps c m k (step false c (t, v)) (step false c (own, u))) (sym d)
        (subst (λ v. Steps c m k (step false c (t, before KiratE)) (step false c (own, v))) (sym e)
        (vowels-step c t own m k (omega arith) (omega arith)))
