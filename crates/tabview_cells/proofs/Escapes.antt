-- Nothing is lost by escaping, and no control character or directional mark is left.
use Rattle.std.proofs.Common.{◌≡◌, ℕ, ◌+◌, ◌-◌, ◌<◌, ◌≤◌, Bool, true, false, cond, not, ◌&&◌, ◌||◌, ◌==◌, ◌⊎◌, inl, inr, List, [], ◌∷◌, ◌++◌, refl, sym, ap, ◌∙◌, arith, chars, encode_utf8, encode_utf8_all, IsUtf8}
use Rattle.std.proofs.Common.{length, nat_lt, nat_le, ⊎_elim, lit≤}
use Rattle.std.specs.Int.{is_in_range}
use Rattle.std.specs.List.{list_all, list_any}
use Rattle.std.proofs.lemmas.Bool.{cases_Bool, cond-true, cond-false, cond_both, eqb-true, eqb-false, ne_eqb, ltb-true, ltb-false, lt-ltb, le-ltb, leb-true, leb-false, le-leb, lt-leb, or_parts, or_cases, or_from, and_cases, and_parts, and_from, and_left, and_right, or_left, or_right, not_from_false, not-false}
use Rattle.std.proofs.lemmas.Str.{chars-encodes, chars-nil, chars_past_char, encodes-append, encodes-chars, scalars-chars}
use Rattle.std.proofs.Math.Utf8.{scalar, scalars, low_scalar}
use Rattle.tabview_cells.specs.Escaping.{is_acting, is_control, is_directional, is_sign, is_escaped, sign_of, escape_char, escape, escaped, marked_meaning, meaning, unescape_after, unescape, is_shown}

-- ---- ranges
in_range : (low high c : ℕ) → low ≤ c → c ≤ high → is_in_range low high c ≡ true
in_range low high c l h = and_from (nat_le low c) (nat_le c high) (le-leb low c l) (le-leb c high h)

pub below : (low high c : ℕ) → c < low → is_in_range low high c ≡ false
below low high c h = and_left (nat_le low c) (nat_le c high) (lt-leb low c h)

pub above : (low high c : ℕ) → high < c → is_in_range low high c ≡ false
above low high c h = and_right (nat_le low c) (nat_le c high) (lt-leb c high h)

pub inside : (low high c : ℕ) → is_in_range low high c ≡ true → (low ≤ c) × (c ≤ high)
inside low high c e =
    let p = and_parts (nat_le low c) (nat_le c high) e in (leb-true low c p.0, leb-true c high p.1)

outside : (low high c : ℕ) → is_in_range low high c ≡ false → (c < low) ⊎ (high < c)
outside low high c e = ⊎_elim (λ l. inl (leb-false low c l)) (λ h. inr (leb-false c high h)) (and_cases (nat_le low c) (nat_le c high) e)

-- ---- one character
-- a character that escaping leaves is no sign
no_sign : (lines : Bool) (c : ℕ) → is_escaped lines c ≡ false → (c < 0x2400) ⊎ (0x2426 < c)
no_sign lines c e = ⊎_elim
    (λ feed. let ten = eqb-true c 10 feed in inl (omega arith))
    (λ other. outside 0x2400 0x2426 c (or_parts (is_sign c) (is_acting c) (sym (cond-false (c == 10) (not lines) (is_sign c || is_acting c) other) ∙ e)).0)
    (cases_Bool (c == 10))

directional : (c : ℕ) → is_directional c ≡ true → (0x202A ≤ c) × (c ≤ 0x2069)
directional c d = ⊎_elim
    (λ a. let p = inside 0x202A 0x202E c a in let l = p.0 in let h = p.1 in (l, omega arith))
    (λ b. let p = inside 0x2066 0x2069 c b in let l = p.0 in let h = p.1 in (omega arith, h))
    (or_cases (is_in_range 0x202A 0x202E c) (is_in_range 0x2066 0x2069 c) d)

-- one that it changes acts on a terminal, or is a sign
signed : (lines : Bool) (c : ℕ) → is_escaped lines c ≡ true → (c ≤ 0x1F) ⊎ ((0x7F ≤ c) × (c ≤ 0x2426))
signed lines c e = ⊎_elim
    (λ feed. let ten = eqb-true c 10 feed in inl (omega arith))
    (λ other. ⊎_elim
    (λ s. let b = inside 0x2400 0x2426 c s in let l = b.0 in let h = b.1 in inr (omega arith, omega arith))
    (λ k. ⊎_elim
    (λ a. ⊎_elim (λ a. inl (inside 0 0x1F c a).1) (λ b. let p = inside 0x7F 0x9F c b in let l = p.0 in let h = p.1 in inr (l, omega arith))
    (or_cases (is_in_range 0 0x1F c) (is_in_range 0x7F 0x9F c) a))
    (λ d. let p = directional c d in let l = p.0 in let h = p.1 in inr (omega arith, omega arith))
    (or_cases (is_control c) (is_directional c) k))
    (or_cases (is_sign c) (is_acting c) (sym (cond-false (c == 10) (not lines) (is_sign c || is_acting c) other) ∙ e)))
    (cases_Bool (c == 10))

-- a character that isn't the mark is read alone
read_one : (c : ℕ) (rest : List ℕ) → (c == 0x2426) ≡ false → unescape_after false (c ∷ rest) ≡ meaning c ∷ unescape_after false rest
read_one c rest ne = cond-false (c == 0x2426) (unescape_after true rest) (meaning c ∷ unescape_after false rest) ne

plain_meaning : (c : ℕ) → (c < 0x2400) ⊎ (0x2426 < c) → meaning c ≡ c
plain_meaning c o =
    let range : is_in_range 0x2400 0x241F c ≡ false = ⊎_elim (λ l. below 0x2400 0x241F c l) (λ h. above 0x2400 0x241F c (omega arith)) o in
    let ne : (c == 0x2421) ≡ false = ne_eqb c 0x2421 (λ same. ⊎_elim (λ l. absurd (omega arith)) (λ h. absurd (omega arith)) o) in
    cond-false (is_in_range 0x2400 0x241F c) (c - 0x2400) (cond (c == 0x2421) 0x7F c) range ∙ cond-false (c == 0x2421) 0x7F c ne

read_plain : (lines : Bool) (c : ℕ) (rest : List ℕ) → is_escaped lines c ≡ false → unescape_after false ((c ∷ []) ++ rest) ≡ c ∷ unescape_after false rest
read_plain lines c rest e =
    let o = no_sign lines c e in
    let ne : (c == 0x2426) ≡ false = ne_eqb c 0x2426 (λ same. ⊎_elim (λ l. absurd (omega arith)) (λ h. absurd (omega arith)) o) in
    read_one c rest ne ∙ ap (λ x. x ∷ unescape_after false rest) (plain_meaning c o)

read_picture : (c : ℕ) (rest : List ℕ) → c < 0x20 → unescape_after false (((0x2400 + c) ∷ []) ++ rest) ≡ c ∷ unescape_after false rest
read_picture c rest small =
    let x = 0x2400 + c in
    let ne : (x == 0x2426) ≡ false = ne_eqb x 0x2426 (λ same. omega arith) in
    let range : is_in_range 0x2400 0x241F x ≡ true = in_range 0x2400 0x241F x (omega arith) (omega arith) in
    let back : x - 0x2400 ≡ c = omega arith in
    read_one x rest ne ∙ ap (λ y. y ∷ unescape_after false rest) (cond-true (is_in_range 0x2400 0x241F x) (x - 0x2400) (cond (x == 0x2421) 0x7F x) range ∙ back)

-- what a character after the mark represents
letter_meaning : (x : ℕ) → x < 0x60 → marked_meaning x ≡ x + 0x40
letter_meaning x h = cond-true (nat_lt x 0x60) (x + 0x40) (cond (nat_lt x 0x66) (x + 0x1FC9) (cond (nat_lt x 0x6A) (x + 0x2000) x)) (lt-ltb x 0x60 h)

past_letters : (x : ℕ) → 0x60 ≤ x → marked_meaning x ≡ cond (nat_lt x 0x66) (x + 0x1FC9) (cond (nat_lt x 0x6A) (x + 0x2000) x)
past_letters x h = cond-false (nat_lt x 0x60) (x + 0x40) (cond (nat_lt x 0x66) (x + 0x1FC9) (cond (nat_lt x 0x6A) (x + 0x2000) x)) (le-ltb x 0x60 h)

embedding_meaning : (x : ℕ) → 0x60 ≤ x → x < 0x66 → marked_meaning x ≡ x + 0x1FC9
embedding_meaning x l h = past_letters x l ∙ cond-true (nat_lt x 0x66) (x + 0x1FC9) (cond (nat_lt x 0x6A) (x + 0x2000) x) (lt-ltb x 0x66 h)

past_embeddings : (x : ℕ) → 0x66 ≤ x → marked_meaning x ≡ cond (nat_lt x 0x6A) (x + 0x2000) x
past_embeddings x h = past_letters x (omega arith) ∙ cond-false (nat_lt x 0x66) (x + 0x1FC9) (cond (nat_lt x 0x6A) (x + 0x2000) x) (le-ltb x 0x66 h)

isolate_meaning : (x : ℕ) → 0x66 ≤ x → x < 0x6A → marked_meaning x ≡ x + 0x2000
isolate_meaning x l h = past_embeddings x l ∙ cond-true (nat_lt x 0x6A) (x + 0x2000) x (lt-ltb x 0x6A h)

sign_meaning : (x : ℕ) → 0x6A ≤ x → marked_meaning x ≡ x
sign_meaning x h = past_embeddings x (omega arith) ∙ cond-false (nat_lt x 0x6A) (x + 0x2000) x (le-ltb x 0x6A h)

read_letter : (c : ℕ) (rest : List ℕ) → 0x80 ≤ c → c ≤ 0x9F → unescape_after false ((0x2426 ∷ (c - 0x40) ∷ []) ++ rest) ≡ c ∷ unescape_after false rest
read_letter c rest l h =
    let x = c - 0x40 in
    let back : x + 0x40 ≡ c = omega arith in
    ap (λ y. y ∷ unescape_after false rest) (letter_meaning x (omega arith) ∙ back)

read_embedding : (c : ℕ) (rest : List ℕ) → 0x202A ≤ c → c ≤ 0x202E → unescape_after false ((0x2426 ∷ (c - 0x1FC9) ∷ []) ++ rest) ≡ c ∷ unescape_after false rest
read_embedding c rest l h =
    let x = c - 0x1FC9 in
    let back : x + 0x1FC9 ≡ c = omega arith in
    ap (λ y. y ∷ unescape_after false rest) (embedding_meaning x (omega arith) (omega arith) ∙ back)

read_isolate : (c : ℕ) (rest : List ℕ) → 0x2066 ≤ c → c ≤ 0x2069 → unescape_after false ((0x2426 ∷ (c - 0x2000) ∷ []) ++ rest) ≡ c ∷ unescape_after false rest
read_isolate c rest l h =
    let x = c - 0x2000 in
    let back : x + 0x2000 ≡ c = omega arith in
    ap (λ y. y ∷ unescape_after false rest) (isolate_meaning x (omega arith) (omega arith) ∙ back)

read_marked : (c : ℕ) (rest : List ℕ) → 0x6A ≤ c → unescape_after false ((0x2426 ∷ c ∷ []) ++ rest) ≡ c ∷ unescape_after false rest
read_marked c rest large = ap (λ y. y ∷ unescape_after false rest) (sign_meaning c large)

read_sign : (lines : Bool) (c : ℕ) (rest : List ℕ) → is_escaped lines c ≡ true → unescape_after false (sign_of c ++ rest) ≡ c ∷ unescape_after false rest
read_sign lines c rest e =
    let P : List ℕ → Type 0 = λ xs. unescape_after false (xs ++ rest) ≡ c ∷ unescape_after false rest in
    let marked : List ℕ = 0x2426 ∷ c ∷ [] in
    let isolates : List ℕ = cond (is_in_range 0x2066 0x2069 c) (0x2426 ∷ (c - 0x2000) ∷ []) marked in
    let embeddings : List ℕ = cond (is_in_range 0x202A 0x202E c) (0x2426 ∷ (c - 0x1FC9) ∷ []) isolates in
    let letters : List ℕ = 0x2426 ∷ (c - 0x40) ∷ [] in
    let own = signed lines c e in
    cond_both (nat_lt c 0x20) ((0x2400 + c) ∷ []) (cond (c == 0x7F) (0x2421 ∷ []) (cond (is_in_range 0x80 0x9F c) letters embeddings)) P
    (λ small. read_picture c rest (ltb-true c 0x20 small))
    (λ large. let big = ltb-false c 0x20 large in
    cond_both (c == 0x7F) (0x2421 ∷ []) (cond (is_in_range 0x80 0x9F c) letters embeddings) P
    (λ del. let is = eqb-true c 0x7F del in ap (λ y. y ∷ unescape_after false rest) (sym is))
    (λ not_del. cond_both (is_in_range 0x80 0x9F c) letters embeddings P
    (λ high. let p = inside 0x80 0x9F c high in read_letter c rest p.0 p.1)
    (λ other. cond_both (is_in_range 0x202A 0x202E c) (0x2426 ∷ (c - 0x1FC9) ∷ []) isolates P
    (λ in_first. let p = inside 0x202A 0x202E c in_first in read_embedding c rest p.0 p.1)
    (λ no_first. cond_both (is_in_range 0x2066 0x2069 c) (0x2426 ∷ (c - 0x2000) ∷ []) marked P
    (λ in_second. let p = inside 0x2066 0x2069 c in_second in read_isolate c rest p.0 p.1)
    (λ no_second. read_marked c rest (⊎_elim (λ low. absurd (omega arith)) (λ p. let l = p.0 in omega arith) own))))))

read_char : (lines : Bool) (c : ℕ) (rest : List ℕ) → unescape_after false (escape_char lines c ++ rest) ≡ c ∷ unescape_after false rest
read_char lines c rest =
    cond_both (is_escaped lines c) (sign_of c) (c ∷ []) (λ xs. unescape_after false (xs ++ rest) ≡ c ∷ unescape_after false rest)
    (read_sign lines c rest) (read_plain lines c rest)

-- ---- texts
-- what is shown says what was there
pub unescape-escape : (lines : Bool) (cs : List ℕ) → unescape (escape lines cs) ≡ cs
unescape-escape lines [] = refl
unescape-escape lines (c ∷ cs) = read_char lines c (escape lines cs) ∙ ap (λ xs. c ∷ xs) (unescape-escape lines cs)

all-append : (p : ℕ → Bool) (xs ys : List ℕ) → list_all p xs ≡ true → list_all p ys ≡ true → list_all p (xs ++ ys) ≡ true
all-append p [] ys hx hy = hy
all-append p (x ∷ xs) ys hx hy =
    let parts = and_parts (p x) (list_all p xs) hx in
    and_from (p x) (list_all p (xs ++ ys)) parts.0 (all-append p xs ys parts.1 hy)

all_escaped : (p : ℕ → Bool) (lines : Bool) (cs : List ℕ) → ((c : ℕ) → scalar c ≡ true → list_all p (escape_char lines c) ≡ true) → scalars cs ≡ true → list_all p (escape lines cs) ≡ true
all_escaped p lines [] each h = refl
all_escaped p lines (c ∷ cs) each h =
    let parts = and_parts (scalar c) (scalars cs) h in
    all-append p (escape_char lines c) (escape lines cs) (each c parts.0) (all_escaped p lines cs each parts.1)

one : (p : ℕ → Bool) (x : ℕ) → p x ≡ true → list_all p (x ∷ []) ≡ true
one p x e = and_from (p x) true e refl

two : (p : ℕ → Bool) (x y : ℕ) → p x ≡ true → p y ≡ true → list_all p (x ∷ y ∷ []) ≡ true
two p x y e f = and_from (p x) (list_all p (y ∷ [])) e (one p y f)

-- a property of signs, and of a character that escaping leaves, holds of what is shown
module _ (p : ℕ → Bool) (lines : Bool) (c : ℕ)
    (low : (x : ℕ) → 0x2400 ≤ x → x ≤ 0x2426 → p x ≡ true) (letters : (x : ℕ) → 0x40 ≤ x → x < 0x6A → p x ≡ true)
    (left : is_escaped lines c ≡ false → p c ≡ true) where
  sign_part : is_escaped lines c ≡ true → 0x20 ≤ c → (c ≡ 0x7F → ⊥) → is_in_range 0x80 0x9F c ≡ false → is_in_range 0x202A 0x202E c ≡ false
      → is_in_range 0x2066 0x2069 c ≡ false → p c ≡ true
  sign_part e big ne other no_first no_second = ⊎_elim
      (λ feed. let ten = eqb-true c 10 feed in absurd (omega arith))
      (λ no. ⊎_elim
      (λ s. let b = inside 0x2400 0x2426 c s in low c b.0 b.1)
      (λ k. ⊎_elim
      (λ control. ⊎_elim
      (λ a. let q = inside 0 0x1F c a in let h = q.1 in absurd (omega arith))
      (λ a. let q = inside 0x7F 0x9F c a in let l = q.0 in let h = q.1 in
      ⊎_elim (λ less. absurd (ne (omega arith))) (λ more. absurd (omega arith)) (outside 0x80 0x9F c other))
      (or_cases (is_in_range 0 0x1F c) (is_in_range 0x7F 0x9F c) control))
      (λ d. ⊎_elim
      (λ a. let q = inside 0x202A 0x202E c a in let l = q.0 in let h = q.1 in
      ⊎_elim (λ less. absurd (omega arith)) (λ more. absurd (omega arith)) (outside 0x202A 0x202E c no_first))
      (λ a. let q = inside 0x2066 0x2069 c a in let l = q.0 in let h = q.1 in
      ⊎_elim (λ less. absurd (omega arith)) (λ more. absurd (omega arith)) (outside 0x2066 0x2069 c no_second))
      (or_cases (is_in_range 0x202A 0x202E c) (is_in_range 0x2066 0x2069 c) d))
      (or_cases (is_control c) (is_directional c) k))
      (or_cases (is_sign c) (is_acting c) (sym (cond-false (c == 10) (not lines) (is_sign c || is_acting c) no) ∙ e)))
      (cases_Bool (c == 10))

  sign_has : is_escaped lines c ≡ true → list_all p (sign_of c) ≡ true
  sign_has e =
      let P : List ℕ → Type 0 = λ xs. list_all p xs ≡ true in
      let marked : List ℕ = 0x2426 ∷ c ∷ [] in
      let isolate : List ℕ = 0x2426 ∷ (c - 0x2000) ∷ [] in
      let isolates : List ℕ = cond (is_in_range 0x2066 0x2069 c) isolate marked in
      let embedding : List ℕ = 0x2426 ∷ (c - 0x1FC9) ∷ [] in
      let embeddings : List ℕ = cond (is_in_range 0x202A 0x202E c) embedding isolates in
      let letter : List ℕ = 0x2426 ∷ (c - 0x40) ∷ [] in
      let mark : p 0x2426 ≡ true = low 0x2426 (lit≤ tt) (lit≤ tt) in
      cond_both (nat_lt c 0x20) ((0x2400 + c) ∷ []) (cond (c == 0x7F) (0x2421 ∷ []) (cond (is_in_range 0x80 0x9F c) letter embeddings)) P
      (λ small. let s = ltb-true c 0x20 small in one p (0x2400 + c) (low (0x2400 + c) (omega arith) (omega arith)))
      (λ large. let big = ltb-false c 0x20 large in
      cond_both (c == 0x7F) (0x2421 ∷ []) (cond (is_in_range 0x80 0x9F c) letter embeddings) P
      (λ del. one p 0x2421 (low 0x2421 (lit≤ tt) (lit≤ tt)))
      (λ not_del. let ne = eqb-false c 0x7F not_del in cond_both (is_in_range 0x80 0x9F c) letter embeddings P
      (λ high. let q = inside 0x80 0x9F c high in let l = q.0 in let h = q.1 in two p 0x2426 (c - 0x40) mark (letters (c - 0x40) (omega arith) (omega arith)))
      (λ other. cond_both (is_in_range 0x202A 0x202E c) embedding isolates P
      (λ a. let q = inside 0x202A 0x202E c a in let l = q.0 in let h = q.1 in two p 0x2426 (c - 0x1FC9) mark (letters (c - 0x1FC9) (omega arith) (omega arith)))
      (λ no_first. cond_both (is_in_range 0x2066 0x2069 c) isolate marked P
      (λ a. let q = inside 0x2066 0x2069 c a in let l = q.0 in let h = q.1 in two p 0x2426 (c - 0x2000) mark (letters (c - 0x2000) (omega arith) (omega arith)))
      (λ no_second. two p 0x2426 c mark (sign_part e big ne other no_first no_second))))))

  pub char_has : list_all p (escape_char lines c) ≡ true
  char_has = cond_both (is_escaped lines c) (sign_of c) (c ∷ []) (λ xs. list_all p xs ≡ true) sign_has (λ e. one p c (left e))

-- ---- what is shown is text
scalar_char : (lines : Bool) (c : ℕ) → scalar c ≡ true → list_all scalar (escape_char lines c) ≡ true
scalar_char lines c s = char_has scalar lines c
    (λ x l h. low_scalar x (omega arith)) (λ x l h. low_scalar x (omega arith)) (λ e. s)

list_all-scalars : (cs : List ℕ) → list_all scalar cs ≡ scalars cs
list_all-scalars [] = refl
list_all-scalars (c ∷ cs) = ap (λ b. scalar c && b) (list_all-scalars cs)

scalars-escape : (lines : Bool) (cs : List ℕ) → scalars cs ≡ true → scalars (escape lines cs) ≡ true
scalars-escape lines cs h = sym (list_all-scalars (escape lines cs)) ∙ all_escaped scalar lines cs (scalar_char lines) h

-- ---- what is shown is visible
not_acting : (x : ℕ) → (0x20 ≤ x) → ((x < 0x7F) ⊎ (0x2069 < x)) → is_acting x ≡ false
not_acting x l o =
    let first : is_in_range 0 0x1F x ≡ false = above 0 0x1F x (omega arith) in
    let second : is_in_range 0x7F 0x9F x ≡ false = ⊎_elim (λ a. below 0x7F 0x9F x a) (λ b. above 0x7F 0x9F x (omega arith)) o in
    let third : is_in_range 0x202A 0x202E x ≡ false = ⊎_elim (λ a. below 0x202A 0x202E x (omega arith)) (λ b. above 0x202A 0x202E x (omega arith)) o in
    let fourth : is_in_range 0x2066 0x2069 x ≡ false = ⊎_elim (λ a. below 0x2066 0x2069 x (omega arith)) (λ b. above 0x2066 0x2069 x b) o in
    or_from (is_control x) (is_directional x)
    (or_from (is_in_range 0 0x1F x) (is_in_range 0x7F 0x9F x) first second)
    (or_from (is_in_range 0x202A 0x202E x) (is_in_range 0x2066 0x2069 x) third fourth)

shown-from : (lines : Bool) (x : ℕ) → is_acting x ≡ false → is_shown lines x ≡ true
shown-from lines x e = or_right (lines && (x == 10)) (not (is_acting x)) (not_from_false (is_acting x) e)

shown-left : (lines : Bool) (c : ℕ) → is_escaped lines c ≡ false → is_shown lines c ≡ true
shown-left lines c e = ⊎_elim
    (λ feed. or_left (lines && (c == 10)) (not (is_acting c))
    (and_from lines (c == 10) (not-false lines (sym (cond-true (c == 10) (not lines) (is_sign c || is_acting c) feed) ∙ e)) feed))
    (λ other. shown-from lines c (or_parts (is_sign c) (is_acting c) (sym (cond-false (c == 10) (not lines) (is_sign c || is_acting c) other) ∙ e)).1)
    (cases_Bool (c == 10))

shown_char : (lines : Bool) (c : ℕ) → scalar c ≡ true → list_all (is_shown lines) (escape_char lines c) ≡ true
shown_char lines c s = char_has (is_shown lines) lines c
    (λ x l h. shown-from lines x (not_acting x (omega arith) (inr (omega arith))))
    (λ x l h. shown-from lines x (not_acting x (omega arith) (inl (omega arith))))
    (shown-left lines c)

-- ---- texts of bytes
pub chars-escaped : (lines : Bool) (text : List ℕ) → IsUtf8 text → chars (escaped lines text) ≡ escape lines (chars text)
chars-escaped lines text u = chars-encodes (escape lines (chars text)) (scalars-escape lines (chars text) (scalars-chars text u))

pub escaped-lossless : (lines : Bool) (text shown : List ℕ) → IsUtf8 text → shown ≡ escaped lines text → unescape (chars shown) ≡ chars text
escaped-lossless lines text shown u e = ap (λ s. unescape (chars s)) e ∙ ap unescape (chars-escaped lines text u) ∙ unescape-escape lines (chars text)

pub escaped-visible : (lines : Bool) (text shown : List ℕ) → IsUtf8 text → shown ≡ escaped lines text → list_all (is_shown lines) (chars shown) ≡ true
escaped-visible lines text shown u e =
    ap (λ s. list_all (is_shown lines) (chars s)) e ∙ ap (list_all (is_shown lines)) (chars-escaped lines text u)
    ∙ all_escaped (is_shown lines) lines (chars text) (shown_char lines) (scalars-chars text u)

-- one more character is written
pub escaped-step : (lines : Bool) (c : ℕ) (bs rest : List ℕ) → IsUtf8 bs → bs ≡ encode_utf8 c ++ rest
    → escaped lines bs ≡ encode_utf8_all (escape_char lines c) ++ escaped lines rest
escaped-step lines c bs rest u e =
    ap (λ cs. encode_utf8_all (escape lines cs)) (chars_past_char bs rest c u e)
    ∙ encodes-append (escape_char lines c) (escape lines (chars rest))

-- a text without such a character stays
escape-none : (lines : Bool) (cs : List ℕ) → list_any (is_escaped lines) cs ≡ false → escape lines cs ≡ cs
escape-none lines [] h = refl
escape-none lines (c ∷ cs) h =
    let parts = or_parts (is_escaped lines c) (list_any (is_escaped lines) cs) h in
    ap (λ xs. xs ++ escape lines cs) (cond-false (is_escaped lines c) (sign_of c) (c ∷ []) parts.0)
    ∙ ap (λ xs. c ∷ xs) (escape-none lines cs parts.1)

pub escaped-none : (lines : Bool) (text : List ℕ) → IsUtf8 text → list_any (is_escaped lines) (chars text) ≡ false → text ≡ escaped lines text
escaped-none lines text u h = sym (ap encode_utf8_all (escape-none lines (chars text) h) ∙ encodes-chars text u)

pub escaped-empty : (lines : Bool) (bs : List ℕ) → length bs ≡ 0 → escaped lines bs ≡ []
escaped-empty lines [] h = ap (λ cs. encode_utf8_all (escape lines cs)) chars-nil
escaped-empty lines (b ∷ bs) h = absurd (omega arith)
