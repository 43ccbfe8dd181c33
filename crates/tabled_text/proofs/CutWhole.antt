-- A text of at most n bytes is cut to itself: no character counts more columns than it has bytes.
use Rattle.tabled_text.proofs.Names.{IsCut, IsParted, IsReached, IsUtf8, Kind, List, [], alone, ap, append-nil, append_assoc, arith}
use Rattle.tabled_text.proofs.Names.{cases_Bool, cases_lt, char_columns, char_count, char_width, chars, chars-nil, count_of, encode_utf8}
use Rattle.tabled_text.proofs.Names.{encode_utf8_all, encodes-chars, eqb-false, eqb-true, false, inl, inr, kind, last_line, len_utf8, missing_columns, nil_from_length}
use Rattle.tabled_text.proofs.Names.{len_utf8_bounds, length, length-append, length-encode, nat_tests, of_kind, refl, single, subst}
use Rattle.tabled_text.proofs.Names.{sum_by-cons, sym, width_or_zero-le, ℕ, ⊎_elim, ◌++◌, ◌+◌, ◌<◌, ◌==◌, ◌∙◌, ◌∷◌, ◌≡◌, ◌≤◌}
use Rattle.tabled_text.proofs.CountBound.{count-some}
use Rattle.tabled_text.proofs.CutLemmas.{IsCut-filled, IsReached-feed, IsReached-nil, IsReached-push, count_of-push, last_line-feed}
use Rattle.tabled_text.proofs.CutLemmas.{last_line-push, longest_at_end}
use Rattle.unicode_width.specs.declared.kind.Kind.TheVariants as kinds

-- only one character takes three columns, and it has three bytes
single-two : (c : ℕ) → (c == 0x17D8) ≡ false → (single false c).0 ≤ 2
single-two c h = grind arith

of_kind-two : (c : ℕ) (k : Kind) → (c == 0x17D8) ≡ false → (of_kind false c k).0 ≤ 2
of_kind-two c kinds.Single h = single-two c h
of_kind-two c _ h = omega arith

columns-two : (c : ℕ) → (c == 0x17D8) ≡ false → char_columns c ≤ 2
unfolding char_width alone
columns-two c h = grind (arith, of_kind-two c (kind c) h)

columns-one : (c : ℕ) → c < 128 → char_columns c ≤ 1
unfolding char_width
columns-one c h = grind (arith, nat_tests)

count-bytes : (c : ℕ) → char_count c ≤ len_utf8 c
count-bytes c = elim (cases_lt c 128) [
  | inl low ↦ omega (arith, columns-one c low, len_utf8_bounds c)
  | inr high ↦
      ⊎_elim
      (λ yes. let is = eqb-true c 0x17D8 yes in let most : char_columns c ≤ 3 = width_or_zero-le false c in grind (arith, nat_tests))
      (λ no. let most = columns-two c no in grind (arith, nat_tests)) (cases_Bool (c == 0x17D8))
]

count_of-encoded : (cs : List ℕ) → count_of cs ≤ length (encode_utf8_all cs)
count_of-encoded [] = omega arith
count_of-encoded (c ∷ cs) =
    omega
    (arith, sum_by-cons char_count c cs, count-bytes c, length-encode c, length-append (encode_utf8 c) (encode_utf8_all cs), count_of-encoded cs)

-- the characters of a text count at most its bytes
pub count_of-bytes : (text : List ℕ) → IsUtf8 text → count_of (chars text) ≤ length text
count_of-bytes text u = omega (arith, count_of-encoded (chars text), ap length (encodes-chars text u))

reached-on : (n : ℕ) (front rest : List ℕ) → IsReached n front → count_of (last_line front) + count_of rest ≤ n
    → IsReached n (front ++ rest)
reached-on n front [] r le = subst (IsReached n) (sym (append-nil front)) r
reached-on n front (c ∷ rest) r le =
    let sum = sum_by-cons char_count c rest in
    let some = count-some c in
    let more = front ++ c ∷ [] in
    let on : IsReached n more → count_of (last_line more) + count_of rest ≤ n → IsReached n (front ++ c ∷ rest) =
    λ s room. subst (IsReached n) (append_assoc front (c ∷ []) rest) (reached-on n more rest s room) in
    ⊎_elim
    (λ feed.
    let is = eqb-true c 10 feed in
    let last : count_of (last_line more) ≡ 0 = ap (λ y. count_of (last_line (front ++ y ∷ []))) is ∙ ap count_of (last_line-feed front) in
    on (subst (λ y. IsReached n (front ++ y ∷ [])) (sym is) (IsReached-feed n front r (omega arith))) (omega arith))
    (λ other.
    let last = ap count_of (last_line-push front c other) ∙ count_of-push (last_line front) c in
    on (IsReached-push n front c (eqb-false c 10 other) r (omega arith) (omega arith)) (omega arith))
    (cases_Bool (c == 10))

-- where the characters of a text count at most n, all of it is reached
pub IsReached-counted : (n : ℕ) (cs : List ℕ) → count_of cs ≤ n → IsReached n cs
IsReached-counted n cs le = reached-on n [] cs (IsReached-nil n) (omega arith)

pub IsParted-counted : (n : ℕ) (text : List ℕ) → count_of (chars text) ≤ n → IsParted n (chars text) (chars text) 0 (chars [])
IsParted-counted n text le = record {
  rest = [];
  longest = longest_at_end n (chars text) (IsReached-counted n (chars text) le);
  columns = refl;
  dropped = chars-nil;
}

-- where they do, the text is cut to itself
pub IsCut-counted : (n : ℕ) (text : List ℕ) → IsUtf8 text → count_of (chars text) ≤ n → IsCut n text text
IsCut-counted n text u le = IsCut-filled u (IsParted-counted n text le) (sym (append-nil text))

pub IsParted-short : (n : ℕ) (text : List ℕ) → IsUtf8 text → length text ≤ n → IsParted n (chars text) (chars text) 0 (chars [])
IsParted-short n text u le = IsParted-counted n text (omega (arith, count_of-bytes text u))

-- ---- what is appended, which needs a column and a text

some-chars : (front : List ℕ) → IsUtf8 front → 0 < length front → 0 < length (chars front)
some-chars front u some = elim (cases_lt 0 (length (chars front))) [
  | inl lt ↦ lt
  | inr none ↦
      let is : front ≡ [] = sym (encodes-chars front u) ∙ ap encode_utf8_all (nil_from_length (chars front) (omega arith)) in
      absurd (omega (arith, ap length is))
]

some-bytes : (text : List ℕ) → 0 < length (chars text) → 0 < length text
some-bytes text some = elim (cases_lt 0 (length text)) [
  | inl lt ↦ lt
  | inr none ↦
      let is : chars text ≡ [] = ap chars (nil_from_length text (omega arith)) ∙ chars-nil in
      absurd (omega (arith, ap length is))
]

-- the beginning
pub parted-front : {n missing : ℕ} (text : List ℕ) {front after : List ℕ} → IsParted n (chars text) (chars front) missing after → IsUtf8 front
    → 0 < length front → (0 < n) × (0 < length text)
parted-front {n} {missing} text {front} p u some =
    let long = some-chars front u some in
    let below = p.longest.reached.shorter 0 long in
    (omega (arith, below), some-bytes text (omega (arith, ap length p.longest.parts, length-append (chars front) p.rest)))

-- the copies of U+FFFD
pub parted-missing : {n missing : ℕ} (text : List ℕ) {front after : List ℕ} → IsParted n (chars text) front missing after → 0 < missing
    → (0 < n) × (0 < length text)
parted-missing {n} {missing} text {front} p some = by_rest p.rest p.longest.parts (sym p.columns)
  where
    by_rest : (rest : List ℕ) → chars text ≡ front ++ rest → missing_columns n front rest ≡ missing → (0 < n) × (0 < length text)
    by_rest [] parts is = absurd (omega (arith, is))
    by_rest (c ∷ rest) parts is =
        (omega (arith, is), some-bytes text (omega (arith, ap length parts, length-append front (c ∷ rest))))
