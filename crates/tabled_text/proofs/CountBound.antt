-- No text takes more columns than its characters count.
use Rattle.tabled_text.proofs.Names.{After, Bool, Change, Kind, Less, List, None, One, Option, Reading, Same, Some, State, Three}
use Rattle.tabled_text.proofs.Names.{Transparent, [], added, alone, and_parts, ap, arith, before_alef, char_columns, char_count, char_width}
use Rattle.tabled_text.proofs.Names.{columns_of, cond, count_of, false, if_kept, in_context, is_emoji_variation_base, is_joined_emoji}
use Rattle.tabled_text.proofs.Names.{is_kept, is_lam, is_ligature_transparent, is_line_feed, is_plain, is_quote, is_text_presentation_base}
use Rattle.tabled_text.proofs.Names.{joined_or, joining_type, joining_type_eq, joins, kind, max, nat_le, nat_tests, not, not-false, of_kind}
use Rattle.tabled_text.proofs.Names.{past_emoji, past_selectors, plain, read_before, refl, single, skips_marks, step, str_width, subst}
use Rattle.tabled_text.proofs.Names.{sum_by-cons, true, ℕ, ◌&&◌, ◌+◌, ◌==◌, ◌∷◌, ◌≡◌, ◌≤◌}
use Rattle.unicode_width.specs.Width.{with_joiner}
use Rattle.tabled_text.proofs.Basics.{cond-cases}
use Rattle.unicode_width.specs.declared.kind.Kind.TheVariants as kinds
use Rattle.unicode_width.specs.declared.state.After.TheVariants as states

-- ---- what a state keeps back

-- the columns that a later step may add beyond the count of its character
abbrev pub slack_after : After → ℕ
slack_after states.EvenIndicatorsZwj = 2
slack_after _ = 0

abbrev pub flag : Bool → ℕ
flag true = 1
flag false = 0

abbrev pub slack : State → ℕ
slack s = slack_after s.after + max (flag s.emoji) (flag s.quote)

-- the columns that there are at least, where a step may take one away
abbrev pub credit : After → ℕ
credit states.KhmerLetter = 1
credit states.JoinerTifinagh = 1
credit states.IndicatorZwj = 1
credit states.OddIndicatorsZwj = 1
credit _ = 0

-- the columns and the slack are at most m
pub record Bounded (m : ℕ) (r : Reading) : Type 0 where
  pub bound : r.0 + slack r.1 ≤ m
  pub covers : credit r.1.after ≤ r.0

-- ---- a character by itself

pub single-bound : (c : ℕ) → (single false c).0 + slack (single false c).1 ≤ max 1 (single false c).0
single-bound c = grind arith

single-credit : (c : ℕ) → credit (single false c).1.after ≡ 0
single-credit c = grind arith

pub of_kind-bound : (c : ℕ) (k : Kind) → (of_kind false c k).0 + slack (of_kind false c k).1 ≤ max 1 (of_kind false c k).0
of_kind-bound c kinds.Single = single-bound c
of_kind-bound c _ = omega arith

of_kind-credit : (c : ℕ) (k : Kind) → credit (of_kind false c k).1.after ≤ (of_kind false c k).0
of_kind-credit c kinds.Single = omega (arith, single-credit c)
of_kind-credit c _ = omega arith

pub columns-high : (c : ℕ) → nat_le c 0xA0 ≡ false → char_columns c ≡ (alone false c).0
unfolding char_width
columns-high c h = grind (arith, nat_tests)

Bounded-alone : (m c total : ℕ) → nat_le c 0xA0 ≡ false → total ≤ m → Bounded (m + char_count c) (added total (alone false c))
unfolding alone
Bounded-alone m c total h le =
    let e : char_columns c ≡ (of_kind false c (kind c)).0 = columns-high c h in
    let b = of_kind-bound c (kind c) in
    let k = of_kind-credit c (kind c) in
    record { bound = omega arith; covers = omega arith }

-- ---- a character that joins those after it

-- what a join asks of the slack and the credit before it, and leaves after it
abbrev IsCovered : After → Option (Change × After) → Type 0
IsCovered after None = Unit {0}
IsCovered after (Some (Less, next)) = (credit after ≡ 1) × (credit next ≡ 0) × (slack_after next ≤ slack_after after + 2)
IsCovered after (Some (Same, next)) = (credit next ≡ 0) × (slack_after next ≤ slack_after after + 1)
IsCovered after (Some (One, next)) = (credit next ≤ 1) × (slack_after next ≤ slack_after after)
IsCovered after (Some (Three, next)) = (credit next ≤ 1) × (slack_after next + 2 ≤ slack_after after)

joins-covered : (after : After) (c : ℕ) → IsCovered after (joins false after c)
unfolding joins before_alef
joins-covered states.Alef c =
    let same : (credit states.Nothing ≡ 0) × (slack_after states.Nothing ≤ slack_after states.Alef + 1) = (refl, omega arith) in
    let mark : (credit states.Alef ≡ 0) × (slack_after states.Alef ≤ slack_after states.Alef + 1) = (refl, omega arith) in
    cond-cases (IsCovered states.Alef) (is_lam c) _ _ (λ _. same)
    (λ _. cond-cases (IsCovered states.Alef) (((alone false c).0 == 0) && joining_type_eq (joining_type c) Transparent) _ _ (λ _. mark)
    (λ _. tt))
joins-covered _ c = grind arith

-- a character of one column at least
Bounded-joined : (m n total : ℕ) (after : After) (j : Option (Change × After)) (own : ℕ × State) → 1 ≤ n → total + slack_after after ≤ m
    → credit after ≤ total → IsCovered after j → Bounded (m + n) (added total own) → Bounded (m + n) (joined_or total j own)
Bounded-joined m n total after None own some le k fair rest = rest
Bounded-joined m n total after (Some (Less, next)) own some le k fair rest =
    let a = fair.0 in let b = fair.1 in let d = fair.2 in record { bound = omega arith; covers = omega arith }
Bounded-joined m n total after (Some (Same, next)) own some le k fair rest =
    let a = fair.0 in let b = fair.1 in record { bound = omega arith; covers = omega arith }
Bounded-joined m n total after (Some (One, next)) own some le k fair rest =
    let a = fair.0 in let b = fair.1 in record { bound = omega arith; covers = omega arith }
Bounded-joined m n total after (Some (Three, next)) own some le k fair rest =
    let a = fair.0 in let b = fair.1 in record { bound = omega arith; covers = omega arith }

-- a joiner before a state changes neither slack nor credit
pub record IsSame (a b : After) : Type 0 where
  pub slack : slack_after a ≡ slack_after b
  pub credit : credit a ≡ credit b

pub with_joiner-same : (after : After) → IsSame (with_joiner after) after
with_joiner-same states.Nothing = record { slack = refl; credit = refl }
with_joiner-same _ = record { slack = refl; credit = refl }

-- ---- one step

pub count-some : (c : ℕ) → 1 ≤ char_count c
count-some c = omega arith

pub Bounded-past_selectors : (m c total : ℕ) (after : After) → nat_le c 0xA0 ≡ false → total + slack_after after ≤ m → credit after ≤ total
    → Bounded (m + char_count c) (past_selectors false c total after)
unfolding past_selectors
Bounded-past_selectors m c total after h le k =
    let w = with_joiner-same after in
    let a = w.slack in let b = w.credit in
    let P = Bounded (m + char_count c) in
    cond-cases P (skips_marks after && (c == 0x200D)) _ _ (λ _. record { bound = omega arith; covers = omega arith })
    (λ _. cond-cases P (skips_marks after && is_ligature_transparent c) _ _ (λ _. record { bound = omega arith; covers = omega arith })
    (λ _. Bounded-joined m (char_count c) total after (joins false after c) (alone false c) (count-some c) le k (joins-covered after c)
    (Bounded-alone m c total h (omega arith))))

-- what stays of a state under a selector keeps back no more
pub record IsLess (s u : State) : Type 0 where
  pub after : slack_after s.after ≤ slack_after u.after
  pub emoji : flag s.emoji ≤ flag u.emoji
  pub quote : flag s.quote ≤ flag u.quote
  pub credit : credit s.after ≤ credit u.after

IsLess-self : (s : State) → IsLess s s
IsLess-self s = record { after = omega arith; emoji = omega arith; quote = omega arith; credit = omega arith }

pub IsLess-kept : (s : State) → IsLess (if_kept s) s
IsLess-kept s = cond-cases (λ u. IsLess u s) (is_kept s.after) s plain (λ _. IsLess-self s)
    (λ _. record { after = omega arith; emoji = omega arith; quote = omega arith; credit = omega arith })

Bounded-emoji : (m n total : ℕ) (s u : State) → 1 ≤ n → IsLess u s → Bounded m (total, s)
    → Bounded (m + n) (total, record u { emoji = true })
Bounded-emoji m n total s u some le h =
    let a = le.after in let b = le.quote in let d = le.credit in let e = h.bound in let f = h.covers in record { bound = omega arith; covers = omega arith }

Bounded-quote : (m n total : ℕ) (s u : State) → 1 ≤ n → IsLess u s → Bounded m (total, s)
    → Bounded (m + n) (total, record u { quote = true })
Bounded-quote m n total s u some le h =
    let a = le.after in let b = le.emoji in let d = le.credit in let e = h.bound in let f = h.covers in record { bound = omega arith; covers = omega arith }

Bounded-text : (m n total : ℕ) (s u : State) → IsLess u s → Bounded m (total, s) → Bounded (m + n) (total, record u { text = true })
Bounded-text m n total s u le h =
    let a = le.after in let b = le.emoji in let q = le.quote in let d = le.credit in let e = h.bound in let f = h.covers in record { bound = omega arith; covers = omega arith }

pub flag-true : (b : Bool) → b ≡ true → flag b ≡ 1
flag-true b h = ap flag h

Bounded-in_context : (m c total : ℕ) (s : State) → nat_le c 0xA0 ≡ false → Bounded m (total, s)
    → Bounded (m + char_count c) (in_context false c total s)
unfolding in_context
Bounded-in_context m c total s high h =
    let n = char_count c in
    let some = count-some c in
    let e = h.bound in let f = h.covers in
    cond-cases (Bounded (m + n)) (c == 0xFE0F) _ _
    (λ _. Bounded-emoji m n total s (cond (is_joined_emoji s.after) s (if_kept s)) some
    (cond-cases (λ u. IsLess u s) (is_joined_emoji s.after) s (if_kept s) (λ _. IsLess-self s) (λ _. IsLess-kept s)) h)
    (λ _. cond-cases (Bounded (m + n)) (c == 0xFE01) _ _ (λ _. Bounded-quote m n total s (if_kept s) some (IsLess-kept s) h)
    (λ _. cond-cases (Bounded (m + n)) (c == 0xFE0E) _ _ (λ _. Bounded-text m n total s (if_kept s) (IsLess-kept s) h)
    (λ _. cond-cases (Bounded (m + n)) (s.text && is_text_presentation_base c) _ _
    (λ _. record { bound = omega arith; covers = omega arith })
    (λ _. cond-cases (Bounded (m + n)) (s.quote && is_quote c) _ _
    (λ y. let q = flag-true s.quote (and_parts s.quote (is_quote c) y).0 in record { bound = omega arith; covers = omega arith })
    (λ _. Bounded-past_selectors m c total s.after high (omega arith) f)))))

pub Bounded-past_emoji : (m c total : ℕ) (s : State) → Bounded m (total, s) → Bounded (m + char_count c) (past_emoji false c total s)
unfolding past_emoji
Bounded-past_emoji m c total s h =
    let n = char_count c in
    let some = count-some c in
    let e = h.bound in let f = h.covers in
    cond-cases (Bounded (m + n)) (c == 0x0A) _ _ (λ _. record { bound = omega arith; covers = omega arith })
    (λ _. cond-cases (Bounded (m + n)) ((c == 0x0D) && is_line_feed s.after) _ _ (λ _. record { bound = omega arith; covers = omega arith })
    (λ _. cond-cases (Bounded (m + n)) (nat_le c 0xA0) _ _ (λ _. record { bound = omega arith; covers = omega arith })
    (λ high. cond-cases (Bounded (m + n)) (is_plain s) _ _ (λ _. Bounded-alone m c total high (omega arith))
    (λ _. Bounded-in_context m c total s high h))))

joined_or_two : (b : Bool) → cond b 0 2 ≤ 2
joined_or_two b = grind arith

pub Bounded-step : (m c : ℕ) (r : Reading) → Bounded m r → Bounded (m + char_count c) (step false c r)
unfolding step
Bounded-step m c (total, s) h =
    let n = char_count c in
    let some = count-some c in
    let e = h.bound in let f = h.covers in
    let kept = IsLess-kept s in
    let a = kept.after in let q = kept.quote in let d = kept.credit in
    let two = joined_or_two (is_joined_emoji s.after) in
    cond-cases (Bounded (m + n)) (not s.emoji) _ _ (λ _. Bounded-past_emoji m c total s h)
    (λ y. let j = flag-true s.emoji (not-false s.emoji y) in
    cond-cases (Bounded (m + n)) (is_emoji_variation_base c) _ _ (λ _. record { bound = omega arith; covers = omega arith })
    (λ _. Bounded-past_emoji m c total (record (if_kept s) { emoji = false }) (record { bound = omega arith; covers = omega arith })))

pub Bounded-read_before : (cs : List ℕ) → Bounded (count_of cs) (read_before false cs (0, plain))
Bounded-read_before [] = record { bound = omega arith; covers = omega arith }
Bounded-read_before (c ∷ cs) =
    let e : count_of cs + char_count c ≡ count_of (c ∷ cs) = omega (arith, sum_by-cons char_count c cs) in
    subst (λ k. Bounded k (read_before false (c ∷ cs) (0, plain))) e (Bounded-step (count_of cs) c (read_before false cs (0, plain)) (Bounded-read_before cs))

-- a text takes no more columns than its characters count
pub columns-count : (cs : List ℕ) → columns_of cs ≤ count_of cs
unfolding str_width
columns-count cs = let b = (Bounded-read_before cs).bound in omega arith
