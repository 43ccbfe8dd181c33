-- What a wrapped text is: that of one line is what its line writes, one that fits is itself, and printable ASCII is broken
-- after n bytes.
use Rattle.tabled_text.proofs.Names.{Bool, IsUtf8, IsUtf8-nil, IsWrapped, List, TextUnit, [], and_from, ap, append-nil, append_all}
use Rattle.tabled_text.proofs.Names.{append_text, append_used, arith, begin_text, cases_Bool, chars, cond, count_of, drop, encode_ascii}
use Rattle.tabled_text.proofs.Names.{encode_utf8_all, encodes-chars, eq-eqb, eqb-false, eqb-true, false, is_in_range, length, lines_of}
use Rattle.tabled_text.proofs.Names.{list_all, list_all-append, lit<, map, nat_le, ne_eqb, needed, pending, refl, replicate, scalar}
use Rattle.tabled_text.proofs.Names.{scalars-chars, unit_or_filler, subst, sym, take, true, units, written_line, ℕ, ⊎_elim, ◌++◌, ◌+◌, ◌-◌, ◌<◌}
use Rattle.tabled_text.proofs.Names.{◌==◌, ◌∙◌, ◌∷◌, ◌≡◌, ◌≤◌, ◌⊎◌}
use Rattle.tabled_text.specs.LineEnds.{wrapped_text}
use Rattle.tabled_text.specs.Walk.{begin_at}
use Rattle.tabled_text.proofs.Basics.{all-parts, cond-cases, list_all-copies}
use Rattle.tabled_text.proofs.Bridge.{Each, lines_of-chars, lines_of-one, list_all-scalars}
use Rattle.tabled_text.proofs.CutWhole.{IsReached-counted, count_of-bytes}
use Rattle.tabled_text.proofs.Filling.{IsWrapped-none, IsWrapped-written}
use Rattle.tabled_text.proofs.FitLemmas.{Each-lines, EachUnit, EachUnit-units, IsMade}
use Rattle.tabled_text.proofs.Pieces.{is_printable, pending-printable}
use Rattle.tabled_text.proofs.WordBreaks.{breaks-full, written-more}
use Rattle.tabled_text.proofs.WrapKept.{pending-short}

-- ---- as a function of the text

pub wrapped-some : (n : ℕ) (words : Bool) (text : List ℕ) → 0 < n
    → wrapped_text n words text ≡ encode_utf8_all (pending n words false (lines_of (chars text)))
wrapped-some n words text some =
    ap (λ b. cond b [] (encode_utf8_all (pending n words false (lines_of (chars text))))) (ne_eqb n 0 (λ z. omega arith))

wrapped-zero : (n : ℕ) (words : Bool) (text : List ℕ) → n ≡ 0 → wrapped_text n words text ≡ []
wrapped-zero n words text z =
    ap (λ b. cond b [] (encode_utf8_all (pending n words false (lines_of (chars text))))) (eq-eqb n 0 z)

-- a text of one line is what that line writes
pub wrapped-line : (n : ℕ) (words : Bool) (text : List ℕ) → 0 < n → IsUtf8 text → length (lines_of text) ≡ 1
    → wrapped_text n words text ≡ written_line n words text
wrapped-line n words text some u one =
    let line : lines_of (chars text) ≡ chars text ∷ [] = lines_of-chars text u ∙ ap (map chars) (lines_of-one text one) in
    wrapped-some n words text some
    ∙ ap encode_utf8_all (ap (pending n words false) line ∙ append-nil (append_all n 0 (units n words (chars text))))

-- a text whose characters count at most n is unchanged
pub wrapped-counted : (n : ℕ) (words : Bool) (text : List ℕ) → 0 < n → IsUtf8 text → count_of (chars text) ≤ n
    → wrapped_text n words text ≡ text
wrapped-counted n words text some u few =
    wrapped-some n words text some
    ∙ ap encode_utf8_all (pending-short n words (chars text) (IsReached-counted n (chars text) few).fits) ∙ encodes-chars text u

-- and so is one of at most n bytes
pub wrapped-short : (n : ℕ) (words : Bool) (text : List ℕ) → 0 < n → IsUtf8 text → length text ≤ n → wrapped_text n words text ≡ text
wrapped-short n words text some u le = wrapped-counted n words text some u (omega (arith, count_of-bytes text u))

-- nothing is left of the empty text, nor of any for no columns
pub wrapped-nothing : (n : ℕ) (words : Bool) (text : List ℕ) → (n ≡ 0) ⊎ (text ≡ []) → wrapped_text n words text ≡ []
wrapped-nothing n words text none =
    ⊎_elim (λ z. wrapped-zero n words text z)
    (λ t.
    ⊎_elim (λ z. wrapped-zero n words text (eqb-true n 0 z))
    (λ some.
    let ne = eqb-false n 0 some in
    wrapped-short n words text (omega arith) (subst IsUtf8 (sym t) IsUtf8-nil) (omega (arith, ap length t)) ∙ t)
    (cases_Bool (n == 0)))
    none

-- ---- it is the wrapped text of its contract

-- a unit of characters
abbrev Spelled : TextUnit → Type 0
Spelled unit = list_all scalar unit.text ≡ true

spelled_made : IsMade scalar Spelled
spelled_made = record { char = λ c a. and_from (scalar c) true a refl; word = λ cs a. a; space = refl }

-- both are characters
spelled-both : (xs ys : List ℕ) → list_all scalar xs ≡ true → list_all scalar ys ≡ true → list_all scalar (xs ++ ys) ≡ true
spelled-both xs ys h k = list_all-append scalar xs ys ∙ and_from (list_all scalar xs) (list_all scalar ys) h k

spelled-text : (n used : ℕ) (unit : TextUnit) → Spelled unit → list_all scalar (append_text n used unit) ≡ true
spelled-text n used unit h =
    let room = n - begin_at n used (needed n unit) in
    spelled-both (begin_text n used (needed n unit)) (unit_or_filler n (begin_at n used (needed n unit)) unit)
    (cond-cases (λ l. list_all scalar l ≡ true) (nat_le (used + needed n unit) n) [] (10 ∷ []) (λ _. refl) (λ _. refl))
    (cond-cases (λ l. list_all scalar l ≡ true) (nat_le unit.width n) unit.text (replicate room 0xFFFD) (λ _. h)
    (λ _. list_all-copies scalar 0xFFFD room refl))

spelled-all : (n used : ℕ) (us : List TextUnit) → EachUnit Spelled us → list_all scalar (append_all n used us) ≡ true
spelled-all n used [] h = refl
spelled-all n used (u ∷ us) h =
    spelled-both (append_text n used u) (append_all n (append_used n used u) us) (spelled-text n used u h.0)
    (spelled-all n (append_used n used u) us h.1)

spelled-pending : (n : ℕ) (words begun : Bool) (ls : List (List ℕ)) → Each scalar ls → list_all scalar (pending n words begun ls) ≡ true
spelled-pending n words begun [] h = refl
spelled-pending n words begun (l ∷ ls) h =
    let line = append_all n 0 (units n words l) in
    let rest = pending n words true ls in
    spelled-both (cond begun (10 ∷ []) []) (line ++ rest)
    (cond-cases (λ l. list_all scalar l ≡ true) begun (10 ∷ []) [] (λ _. refl) (λ _. refl))
    (spelled-both line rest (spelled-all n 0 (units n words l) (EachUnit-units scalar Spelled spelled_made n words l h.0))
    (spelled-pending n words true ls h.1))

utf8-pending : (n : ℕ) (words : Bool) (text : List ℕ) → IsUtf8 text
    → IsUtf8 (encode_utf8_all (pending n words false (lines_of (chars text))))
utf8-pending n words text u =
    let cs = chars text in
    let written = pending n words false (lines_of cs) in
    let each = Each-lines scalar scalar (λ c a no. a) cs (list_all-scalars cs ∙ scalars-chars text u) in
    (written, (sym (list_all-scalars written) ∙ spelled-pending n words false (lines_of cs) each, refl))

pub IsWrapped-text : (n : ℕ) (words : Bool) (text : List ℕ) → IsUtf8 text → IsWrapped n words text (wrapped_text n words text)
IsWrapped-text n words text u =
    ⊎_elim
    (λ none. let z = eqb-true n 0 none in IsWrapped-none n words text (wrapped_text n words text) z (wrapped-zero n words text z))
    (λ some.
    let ne = eqb-false n 0 some in
    let e = wrapped-some n words text (omega arith) in
    IsWrapped-written n words text (wrapped_text n words text) ne (subst IsUtf8 (sym e) (utf8-pending n words text u)) e)
    (cases_Bool (n == 0))

-- ---- printable ASCII

pub wrapped-printable : (n : ℕ) (words : Bool) (text : List ℕ) → 0 < n → is_printable text ≡ true
    → wrapped_text n words text ≡ written_line n words text
wrapped-printable n words text some h = wrapped-some n words text some ∙ sym (pending-printable n words text h)

-- more than n bytes are broken after n of them
pub wrapped-broken : (n : ℕ) (text : List ℕ) → 0 < n → is_printable text ≡ true → n < length text
    → wrapped_text n false text ≡ take n text ++ 10 ∷ wrapped_text n false (drop n text)
wrapped-broken n text some h long =
    let front = take n text in
    let back = drop n text in
    wrapped-printable n false text some h ∙ sym (written-more n n false text h (breaks-full n text some h long))
    ∙ ap (λ feed. front ++ (feed ++ written_line n false back)) (encode_ascii 10 (lit< tt))
    ∙ ap (λ l. front ++ 10 ∷ l) (sym (wrapped-printable n false back some (all-parts (is_in_range 0x20 0x7E) n text h).1))
