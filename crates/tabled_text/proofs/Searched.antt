-- Texts split at the first byte that a search finds.
use Rattle.tabled_text.proofs.Names.{All, All-cons, All-nil, Bor, IsFirstAt, IsSplitAt, IsUtf8, IsUtf8-append, IsUtf8-from_ascii, List}
use Rattle.tabled_text.proofs.Names.{None, Option, Some, [], ap, arith, cases_Bool, chars, chars-append, chars_past_char, drop}
use Rattle.tabled_text.proofs.Names.{encode_ascii, encode_utf8, encode_utf8_all, encodes-chars, eq-eqb, eqb, eqb-true, false, get_or}
use Rattle.tabled_text.proofs.Names.{get_or-take, get_or_default, length, length-append, length-take-le, lines_in, lines_of, lit<, ne_eqb}
use Rattle.tabled_text.proofs.Names.{refl, slice_split_none, split_at, subst, suc, sym, take, take_all, words_in, words_of, zero, ℕ, ⊎_elim}
use Rattle.tabled_text.proofs.Names.{◌++◌, ◌+◌, ◌-◌, ◌<◌, ◌∙◌, ◌∷◌, ◌≡◌}
use Rattle.std.proofs.lemmas.List.{get_or-append_right}
use Rattle.std.proofs.lemmas.List.Splits.{slice_split_at}

-- ---- a text before an ASCII character

pub chars-mark : (d : ℕ) → d < 128 → (ys : List ℕ) → IsUtf8 (d ∷ ys) → chars (d ∷ ys) ≡ d ∷ chars ys
chars-mark d small ys v = chars_past_char (d ∷ ys) ys d v (ap (λ l. l ++ ys) (sym (encode_ascii d small)))

pub IsUtf8-mark : (d : ℕ) → d < 128 → (ys : List ℕ) → IsUtf8 ys → IsUtf8 (d ∷ ys)
IsUtf8-mark d small ys v = IsUtf8-append (d ∷ []) ys (IsUtf8-from_ascii (d ∷ []) (λ i. ascii i)) v
  where
    ascii : (i : ℕ) → get_or (d ∷ []) i 0 < 128
    ascii zero = small
    ascii (suc i) = lit< tt

-- bytes before the first one differ from it
missed : (d at : ℕ) (bs : List ℕ) → IsFirstAt d bs at → All (λ b. eqb b d ≡ false) (take at bs)
missed d at bs f = λ k e l.
    let len = length-take-le at bs f.end in
    let within : k < at = omega arith in
    let read : get_or (take at bs) k e ≡ get_or bs k 0 = get_or_default (take at bs) k e 0 l ∙ get_or-take at bs k 0 within in
    ne_eqb (get_or (take at bs) k e) d (λ is. f.before k within (sym read ∙ is))

-- the first byte and what is after it
found : (d at : ℕ) (bs : List ℕ) → IsFirstAt d bs at → at < length bs → bs ≡ take at bs ++ d ∷ drop (at + 1) bs
found d at bs f l =
    let next : suc at ≡ at + 1 = omega arith in
    split_at bs at 0 l ∙ ap (λ n. take at bs ++ get_or bs at 0 ∷ drop n bs) next ∙ ap (λ b. take at bs ++ b ∷ drop (at + 1) bs) (f.found l)

pub whole-front : (d : ℕ) (text front : List ℕ) (after : Option (Bor (List ℕ))) → IsSplitAt d text front after → length front ≡ length text
    → text ≡ front
whole-front d text front after s e = sym (s.front_is ∙ take_all (length front) text (omega arith))

pub all-front : (d : ℕ) (text front : List ℕ) (after : Option (Bor (List ℕ))) → IsSplitAt d text front after
    → All (λ b. eqb b d ≡ false) front
all-front d text front after s = subst (All (λ b. eqb b d ≡ false)) (sym s.front_is) (missed d (length front) text s.first)

pub whole-parts : (d : ℕ) (text front : List ℕ) (rest : Bor (List ℕ)) → IsSplitAt d text front (Some rest) → text ≡ front ++ d ∷ rest.now
whole-parts d text front rest s =
    let h = s.after_is in
    found d (length front) text s.first h.0
    ∙ ap (λ l. l ++ d ∷ drop (length front + 1) text) (sym s.front_is) ∙ ap (λ l. front ++ d ∷ l) (sym h.1)

-- a text whose lines are split off
pub lines-split : (text front : List ℕ) (after : Option (Bor (List ℕ))) → IsSplitAt 10 text front after
    → lines_of text ≡ front ∷ lines_in after
lines-split text front None s =
    ap lines_of (whole-front 10 text front None s s.after_is) ∙ slice_split_none (λ b. eqb b 10) front (all-front 10 text front None s)
lines-split text front (Some rest) s =
    ap lines_of (whole-parts 10 text front rest s)
    ∙ slice_split_at (λ b. eqb b 10) front 10 rest.now (all-front 10 text front (Some rest) s) (eq-eqb 10 10 refl)

-- where no byte of a text is an ASCII character, no character is
chars-miss : (d : ℕ) → d < 128 → (cs : List ℕ) → All (λ b. eqb b d ≡ false) (encode_utf8_all cs) → All (λ c. eqb c d ≡ false) cs
chars-miss d small [] h = All-nil (λ c. eqb c d ≡ false)
chars-miss d small (c ∷ cs) h =
    let rest = encode_utf8_all cs in
    All-cons (λ x. eqb x d ≡ false) c cs
    (⊎_elim
    (λ yes.
    let is : c ≡ d = eqb-true c d yes in
    let bytes : encode_utf8 c ++ rest ≡ d ∷ rest = ap (λ l. l ++ rest) (ap encode_utf8 is ∙ encode_ascii d small) in
    let clash : eqb d d ≡ false = subst (All (λ b. eqb b d ≡ false)) bytes h 0 0 (omega arith) in
    let same = eq-eqb d d refl in
    absurd (cc))
    (λ no. no)
    (cases_Bool (eqb c d)))
    (chars-miss d small cs (λ k x l.
    let far : length (encode_utf8 c) + k < length (encode_utf8 c ++ rest) = omega (arith, length-append (encode_utf8 c) rest) in
    let at : length (encode_utf8 c) + k - length (encode_utf8 c) ≡ k = omega arith in
    subst (λ b. eqb b d ≡ false)
    (get_or-append_right (encode_utf8 c) rest (length (encode_utf8 c)) (length (encode_utf8 c) + k) x refl (omega arith)
    ∙ ap (λ i. get_or rest i x) at)
    (h (length (encode_utf8 c) + k) x far)))

pub all-chars : (d : ℕ) → d < 128 → (front : List ℕ) → IsUtf8 front → All (λ b. eqb b d ≡ false) front
    → All (λ c. eqb c d ≡ false) (chars front)
all-chars d small front u h = chars-miss d small (chars front) (subst (All (λ b. eqb b d ≡ false)) (sym (encodes-chars front u)) h)

-- a text whose words are split off
pub words-split : (text front : List ℕ) (after : Option (Bor (List ℕ))) → IsSplitAt 32 text front after
    → words_of (chars text) ≡ chars front ∷ words_in after
words-split text front None s =
    let small : 32 < 128 = omega arith in
    ap (λ l. words_of (chars l)) (whole-front 32 text front None s s.after_is)
    ∙ slice_split_none (λ b. eqb b 32) (chars front) (all-chars 32 small front s.utf8 (all-front 32 text front None s))
words-split text front (Some rest) s =
    let small : 32 < 128 = omega arith in
    let h = s.after_is in
    let spelled : chars text ≡ chars front ++ 32 ∷ chars rest.now = ap chars (whole-parts 32 text front rest s)
    ∙ chars-append front (32 ∷ rest.now) s.utf8
    ∙ ap (λ l. chars front ++ l) (chars-mark 32 small rest.now (IsUtf8-mark 32 small rest.now h.2)) in
    ap words_of spelled
    ∙ slice_split_at (λ b. eqb b 32) (chars front) 32 (chars rest.now)
    (all-chars 32 small front s.utf8 (all-front 32 text front (Some rest) s)) (eq-eqb 32 32 refl)
