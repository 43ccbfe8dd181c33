-- Texts that stand one behind another in one text, to which more is added.
use Rattle.tabled_records.proofs.Names.{AreKept, AreLines, IsCharBoundary, IsCharBoundary-at_seam, IsJoined, IsUtf8, List, [], ap, arith}
use Rattle.tabled_records.proofs.Names.{begin, behind, cases_lt, drop, drop-append-le, drop-append_seam, get_or, get_or_append_left, inl}
use Rattle.tabled_records.proofs.Names.{inr, length, length-append, length-drop, lines_of, max, refl, slice_range, subst, suc, sym, take}
use Rattle.tabled_records.proofs.Names.{take-append-le, text_columns, texts_from, zero, ℕ, ◌++◌, ◌+◌, ◌-◌, ◌<◌, ◌∙◌, ◌∷◌, ◌≡◌, ◌≤◌}
use Rattle.std.proofs.Common.{Result, Ok, Err, OnErr, OnOk}
use Rattle.std.proofs.lemmas.List.{take_all, get_or-append-add}
use Rattle.std.proofs.Math.ListN.{get_or-append}
use Rattle.std.proofs.lemmas.Str.{IsCharBoundary-end}
use Rattle.tabled_text.proofs.PlainLines.{plain_line-nil}
use Rattle.tabled_records.specs.Joined.{AreFilled, AreJoined, AreMeasures}

-- a place where a text may be cut stays one
boundary-more : (whole more : List ℕ) (i : ℕ) → IsUtf8 more → IsCharBoundary whole i → IsCharBoundary (whole ++ more) i
boundary-more whole more i u h = elim (cases_lt i (length whole)) [
  | inl lt ↦ (omega (arith, length-append whole more, h.0), λ _. rw (get_or-append whole more 0 i lt) (h.1 lt))
  | inr ge ↦ subst (IsCharBoundary (whole ++ more)) (omega (arith, h.0)) (IsCharBoundary-at_seam (whole ++ more) whole more refl u)
]

-- and what stands between two places
range-more : (whole more : List ℕ) (a b : ℕ) → a ≤ b → b ≤ length whole → slice_range (whole ++ more) a b ≡ slice_range whole a b
range-more whole more a b h k =
    ap (take (b - a)) (drop-append-le a whole more (omega arith))
    ∙ take-append-le (b - a) (drop a whole) more (omega (arith, length-drop a whole))

range-new : (whole more : List ℕ) → slice_range (whole ++ more) (length whole) (length (whole ++ more)) ≡ more
range-new whole more =
    ap (take (length (whole ++ more) - length whole)) (drop-append_seam whole more)
    ∙ take_all (length (whole ++ more) - length whole) more (omega (arith, length-append whole more))

-- texts that stand there stay
joined-grown : (gap : ℕ) (whole more : List ℕ) (start : ℕ) (places : List (ℕ × ℕ)) → IsUtf8 more → AreJoined gap whole start places
    → AreJoined gap (whole ++ more) start places
joined-grown gap whole more start [] u h = tt
joined-grown gap whole more start (place ∷ places) u h =
    let own = h.0 in
    let ordered = own.ordered in
    let ends = own.ends in
    let same = range-more whole more start place.0 ordered ends.0 in (
      record {
        ordered = ordered;
        begins = boundary-more whole more start u own.begins;
        ends = boundary-more whole more place.0 u ends;
        counted = own.counted ∙ ap text_columns (sym same);
      },
      joined-grown gap whole more (place.0 + gap) places u h.1,
    )

texts-grown : (gap : ℕ) (whole more : List ℕ) (start : ℕ) (places : List (ℕ × ℕ)) → AreJoined gap whole start places
    → texts_from gap (whole ++ more) start places ≡ texts_from gap whole start places
texts-grown gap whole more start [] h = refl
texts-grown gap whole more start (place ∷ places) h =
    let own = h.0 in
    let ordered = own.ordered in
    let ends = own.ends in
    ap (λ text. text ∷ texts_from gap (whole ++ more) (place.0 + gap) places) (range-more whole more start place.0 ordered ends.0)
    ∙ ap (λ texts. slice_range whole start place.0 ∷ texts) (texts-grown gap whole more (place.0 + gap) places h.1)

kept-grown : (gap : ℕ) (whole more : List ℕ) (places : List (ℕ × ℕ)) (lines : List ℕ) → IsUtf8 more → AreKept gap whole places lines
    → AreKept gap (whole ++ more) places lines
kept-grown gap whole more places lines u h = record {
  joined = joined-grown gap whole more 0 places u h.joined;
  told = subst (λ texts. AreLines texts lines) (sym (texts-grown gap whole more 0 places h.joined)) h.told;
}

-- a further text comes
joined-next : (gap : ℕ) (whole : List ℕ) (start : ℕ) (places : List (ℕ × ℕ)) (place : ℕ × ℕ) → AreJoined gap whole start places
    → IsJoined whole (behind gap start places) place → AreJoined gap whole start (places ++ place ∷ [])
joined-next gap whole start [] place h own = (own, tt)
joined-next gap whole start (first ∷ places) place h own = (h.0, joined-next gap whole (first.0 + gap) places place h.1 own)

pub texts-next : (gap : ℕ) (whole : List ℕ) (start : ℕ) (places : List (ℕ × ℕ)) (place : ℕ × ℕ) → texts_from gap whole start (places ++ place ∷ [])
    ≡ texts_from gap whole start places ++ slice_range whole (behind gap start places) place.0 ∷ []
texts-next gap whole start [] place = refl
texts-next gap whole start (first ∷ places) place =
    ap (λ texts. slice_range whole start first.0 ∷ texts) (texts-next gap whole (first.0 + gap) places place)

pub behind-next : (gap start : ℕ) (places : List (ℕ × ℕ)) (place : ℕ × ℕ) → behind gap start (places ++ place ∷ []) ≡ place.0 + gap
behind-next gap start [] place = refl
behind-next gap start (first ∷ places) place = behind-next gap (first.0 + gap) places place

pub length-texts : (gap : ℕ) (whole : List ℕ) (start : ℕ) (places : List (ℕ × ℕ)) → length (texts_from gap whole start places) ≡ length places
length-texts gap whole start [] = refl
length-texts gap whole start (place ∷ places) = omega (arith, length-texts gap whole (place.0 + gap) places)

-- lines that are told alike
lines-next : (texts : List (List ℕ)) (more : List ℕ) (old new : List ℕ) → AreLines texts old
    → ((k : ℕ) → k < length texts → get_or new k 1 ≡ get_or old k 1) → get_or new (length texts) 1 ≡ length (lines_of more) → AreLines (texts ++ more ∷ []) new
lines-next texts more old new h same last = λ k l. elim (cases_lt k (length texts)) [
  | inl lt ↦ same k lt ∙ h k lt ∙ ap (λ text. length (lines_of text)) (sym (get_or_append_left texts (more ∷ []) [] k lt))
  | inr ge ↦
      let e : k ≡ length texts = omega (arith, length-append texts (more ∷ [])) in
      ap (λ i. get_or new i 1) e ∙ last ∙ ap (λ text. length (lines_of text)) (sym (get_or-append-add texts (more ∷ []) 0 []))
      ∙ ap (λ i. length (lines_of (get_or (texts ++ more ∷ []) i []))) (omega (arith, e))
]

pub kept-next : (gap : ℕ) (whole : List ℕ) (places : List (ℕ × ℕ)) (place : ℕ × ℕ) (old new : List ℕ) → AreKept gap whole places old
    → IsJoined whole (behind gap 0 places) place → ((k : ℕ) → k < length places → get_or new k 1 ≡ get_or old k 1)
    → get_or new (length places) 1 ≡ length (lines_of (slice_range whole (behind gap 0 places) place.0)) → AreKept gap whole (places ++ place ∷ []) new
kept-next gap whole places place old new h own same last =
    let texts = texts_from gap whole 0 places in
    let count = length-texts gap whole 0 places in
    record {
      joined = joined-next gap whole 0 places place h.joined own;
      told = subst (λ texts. AreLines texts new) (sym (texts-next gap whole 0 places place))
          (lines-next texts (slice_range whole (behind gap 0 places) place.0) old new h.told (λ k l. same k (omega (arith, l, count)))
          (ap (λ i. get_or new i 1) count ∙ last));
    }

-- texts that fill the whole, with a further one
pub texts-added : (whole more : List ℕ) (places : List (ℕ × ℕ)) (lines : List ℕ) (columns : ℕ) → AreFilled whole places lines
    → texts_from 0 (whole ++ more) 0 (places ++ (length (whole ++ more), columns) ∷ []) ≡ texts_from 0 whole 0 places ++ more ∷ []
texts-added whole more places lines columns h =
    let end = length (whole ++ more) in
    texts-next 0 (whole ++ more) 0 places (end, columns)
    ∙ ap (λ texts. texts ++ slice_range (whole ++ more) (behind 0 0 places) end ∷ []) (texts-grown 0 whole more 0 places h.kept.joined)
    ∙ ap (λ i. texts_from 0 whole 0 places ++ slice_range (whole ++ more) i end ∷ []) h.filled
    ∙ ap (λ text. texts_from 0 whole 0 places ++ text ∷ []) (range-new whole more)

pub filled-next : (whole more : List ℕ) (places : List (ℕ × ℕ)) (old new : List ℕ) (columns : ℕ) → IsUtf8 more → AreFilled whole places old
    → columns ≡ text_columns more → ((k : ℕ) → k < length places → get_or new k 1 ≡ get_or old k 1)
    → get_or new (length places) 1 ≡ length (lines_of more) → length new ≤ length places + 1
    → AreFilled (whole ++ more) (places ++ (length (whole ++ more), columns) ∷ []) new
filled-next whole more places old new columns u h wide same last few =
    let end = length (whole ++ more) in
    let place : ℕ × ℕ = (end, columns) in
    let all = h.filled in
    let own : slice_range (whole ++ more) (behind 0 0 places) end ≡ more = ap (λ i. slice_range (whole ++ more) i end) all ∙ range-new whole more in
    record {
      kept = kept-next 0 (whole ++ more) places place old new (kept-grown 0 whole more places old u h.kept) (record {
        ordered = omega (arith, all, length-append whole more);
        begins = subst (IsCharBoundary (whole ++ more)) (sym all) (IsCharBoundary-at_seam (whole ++ more) whole more refl u);
        ends = IsCharBoundary-end (whole ++ more);
        counted = wide ∙ ap text_columns (sym own);
      }) same (last ∙ ap (λ text. length (lines_of text)) (sym own));
      filled = omega (arith, behind-next 0 0 places place);
      few = omega (arith, few, length-append places (place ∷ []));
    }

-- where a text begins
begin-after : (gap start : ℕ) (places : List (ℕ × ℕ)) (i : ℕ) (d : ℕ × ℕ) → i < length places → begin gap start places (suc i) ≡ (get_or places i d).0 + gap
unfolding begin
begin-after gap start [] i d h = absurd (omega (arith, h))
begin-after gap start (place ∷ places) zero d h = refl
begin-after gap start (place ∷ places) (suc i) d h = begin-after gap (place.0 + gap) places i d (omega (arith, h))

pub begin-first : (gap start : ℕ) (places : List (ℕ × ℕ)) (i : ℕ) → i ≡ 0 → start ≡ begin gap start places i
unfolding begin
begin-first gap start [] zero h = refl
begin-first gap start (place ∷ places) zero h = refl
begin-first gap start places (suc i) h = absurd (omega (arith, h))

pub begin-behind : (gap start : ℕ) (places : List (ℕ × ℕ)) (i before : ℕ) (pair : ℕ × ℕ) → i ≡ suc before → i < length places
    → pair ≡ get_or places before pair → pair.0 + gap ≡ begin gap start places i
begin-behind gap start places i before pair e h is =
    ap (λ p. p.0 + gap) is ∙ sym (begin-after gap start places before pair (omega (arith, e, h))) ∙ ap (begin gap start places) (sym e)

-- the text at a place
pub joined-at : (gap : ℕ) (whole : List ℕ) (start : ℕ) (places : List (ℕ × ℕ)) (i : ℕ) (d : ℕ × ℕ) → AreJoined gap whole start places
    → i < length places → IsJoined whole (begin gap start places i) (get_or places i d)
unfolding begin
joined-at gap whole start [] i d h l = absurd (omega (arith, l))
joined-at gap whole start (place ∷ places) zero d h l = h.0
joined-at gap whole start (place ∷ places) (suc i) d h l = joined-at gap whole (place.0 + gap) places i d h.1 (omega (arith, l))

pub text-at : (gap : ℕ) (whole : List ℕ) (start : ℕ) (places : List (ℕ × ℕ)) (i : ℕ) (d : ℕ × ℕ) → i < length places
    → get_or (texts_from gap whole start places) i [] ≡ slice_range whole (begin gap start places i) (get_or places i d).0
unfolding begin
text-at gap whole start [] i d l = absurd (omega (arith, l))
text-at gap whole start (place ∷ places) zero d l = refl
text-at gap whole start (place ∷ places) (suc i) d l = text-at gap whole (place.0 + gap) places i d (omega (arith, l))

-- what holds in any case holds after a refusal
pub on-err : {T E P : Type 0} (r : Result T E) → P → OnErr r P
on-err (Ok x) p = tt
on-err (Err e) p = p

pub on-either : {T E A B P : Type 0} (r : Result T E) → (A → P) → (B → P) → OnOk r A → OnErr r B → P
on-either (Ok x) f g a b = f a
on-either (Err e) f g a b = g b

-- the empty text has no columns, and one line
pub told_empty : {text : List ℕ} → text ≡ [] → AreMeasures text [] 0 1
told_empty none = record {
  same = sym none;
  wide = sym (ap text_columns none ∙ ap (λ n. max n 0) plain_line-nil.columns);
  high = sym (ap (λ text. length (lines_of text)) none);
}
