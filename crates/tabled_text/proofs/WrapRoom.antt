-- Wrapped plain texts stay in their room.
use Rattle.tabled_text.proofs.Names.{AllZip, Bool, IsFullest, IsPlainColumn, IsWrapped, List, TextUnit, [], and_from, and_parts, ap}
use Rattle.tabled_text.proofs.Names.{append-nil, append_all, append_assoc, append_text, append_used, arith, cases_Bool, char_columns}
use Rattle.tabled_text.proofs.Names.{char_count, chars, chars-nil, columns_of, cond, false, greatest, has_plain_width, is_additive}
use Rattle.tabled_text.proofs.Names.{is_additive_or_feed, is_additive_text, is_listed_or_drawn, le-leb, leb-false, leb-true, lines_of}
use Rattle.tabled_text.proofs.Names.{list_all, map, min, nat_le, ne_eqb, needed, onto_first, or_left, or_right, refl, replicate, unit_or_filler}
use Rattle.tabled_text.proofs.Names.{stays, subst, suc, sum_by, sum_by-cons, sym, text_of_groups, text_of_lines, true, unicode_width}
use Rattle.tabled_text.proofs.Names.{unit_of_char, units, zero, ℕ, ⊎_elim, ⊤, ◌&&◌, ◌++◌, ◌+◌, ◌-◌, ◌<◌, ◌==◌, ◌||◌, ◌∙◌, ◌∷◌, ◌≡◌, ◌≤◌}
use Rattle.tabled_text.proofs.Basics.{cond-both, list_all-copies}
use Rattle.tabled_text.proofs.Bridge.{Each}
use Rattle.tabled_text.proofs.Filling.{append_text-breaks, append_text-fits, needed-le-line, text_is, wrapped-cases}
use Rattle.tabled_text.proofs.FitLemmas.{Each-lines, EachUnit, EachUnit-units, IsMade}
use Rattle.tabled_text.proofs.PlainLemmas.{char_count-plain, line_columns-plain}

-- ---- single characters
pub plain_replacement : (is_additive 0xFFFD ≡ true) × (char_columns 0xFFFD ≡ 1)
unfolding unicode_width
plain_replacement = (refl, refl)

pub only_plain_replacement : IsPlainColumn 0xFFFD
unfolding unicode_width
only_plain_replacement = record { character = refl; columns = refl }

pub plain_space : (is_additive 32 ≡ true) × (char_columns 32 ≡ 1)
unfolding unicode_width
plain_space = (refl, refl)

pub not_break : (c : ℕ) → is_additive c ≡ true → (c == 10) ≡ false
not_break c h = ne_eqb c 10 (λ e.
    let z : is_additive 10 ≡ true = subst (λ k. is_additive k ≡ true) e h in let w : false ≡ true = z in cc)

-- ---- what stays in n columns
stays-char : (n used c : ℕ) (rest : List ℕ) → is_additive c ≡ true → stays n (used + char_columns c) rest
    ≡ true → stays n used (c ∷ rest) ≡ true
stays-char n used c rest h s =
    subst (λ b. cond b (nat_le used n && stays n 0 rest) (is_additive c && stays n (used + char_columns c) rest) ≡ true) (sym (not_break c h))
    (and_from (is_additive c) (stays n (used + char_columns c) rest) h s)

pub stays-line : (n used : ℕ) (xs rest : List ℕ) → list_all is_additive xs ≡ true
    → stays n (used + sum_by char_columns xs) rest ≡ true → stays n used (xs ++ rest) ≡ true
stays-line n used [] rest h s = subst (λ k. stays n k rest ≡ true) (let e : used + 0 ≡ used = omega arith in e) s
stays-line n used (c ∷ xs) rest h s =
    let parts = and_parts (is_additive c) (list_all is_additive xs) h in
    stays-char n used c (xs ++ rest) parts.0 (stays-line n (used + char_columns c) xs rest parts.1
    (subst (λ k. stays n k rest ≡ true) (let e : used + sum_by char_columns (c ∷ xs)
    ≡ used + char_columns c + sum_by char_columns xs = omega (arith, sum_by-cons char_columns c xs) in e) s))

pub stays-break : (n used : ℕ) (rest : List ℕ) → used ≤ n → stays n 0 rest ≡ true → stays n used (10 ∷ rest) ≡ true
stays-break n used rest h s = and_from (nat_le used n) (stays n 0 rest) (le-leb used n h) s

pub copies : (c k : ℕ) → is_additive c ≡ true → char_columns c ≡ 1
    → (list_all is_additive (replicate k c) ≡ true) × (sum_by char_columns (replicate k c) ≡ k)
copies c k h e = (list_all-copies is_additive c k h, columns k)
  where
    columns : (k : ℕ) → sum_by char_columns (replicate k c) ≡ k
    columns zero = refl
    columns (suc k) = omega (arith, e, sum_by-cons char_columns c (replicate k c), columns k)

pub replacements : (k : ℕ) → (list_all is_additive (replicate k 0xFFFD) ≡ true) × (sum_by char_columns (replicate k 0xFFFD) ≡ k)
replacements k = copies 0xFFFD k plain_replacement.0 plain_replacement.1

-- its lines, with what the first one has already
abbrev pub Lines : ℕ → ℕ → List (List ℕ) → Type 0
Lines n used [] = ⊤
Lines n used (l ∷ ls) = (list_all is_additive l ≡ true) × (used + sum_by char_columns l ≤ n) × Lines n 0 ls

pub Lines-onto : (n used c : ℕ) (ls : List (List ℕ)) → is_additive c ≡ true → Lines n (used + char_columns c) ls
    → used + char_columns c ≤ n → Lines n used (onto_first c ls)
Lines-onto n used c [] h l le = (and_from (is_additive c) true h refl, omega (arith, sum_by-cons char_columns c []), tt)
Lines-onto n used c (x ∷ ls) h l le = (
  and_from (is_additive c) (list_all is_additive x) h
      l.0,
  (let a = l.1 in omega (arith, sum_by-cons char_columns c x)),
  l.2,
)

-- the lines of a text that stays, and the columns used before it
pub Lines-stays : (n used : ℕ) (cs : List ℕ) → stays n used cs ≡ true → (used ≤ n) × Lines n used (lines_of cs)
Lines-stays n used [] h = let l = leb-true used n h in (l, (refl, omega arith, tt))
Lines-stays n used (c ∷ cs) h =
    cond-both (λ (t : Bool). t ≡ true) (λ ls. (used ≤ n) × Lines n used ls) (c == 10) (nat_le used n && stays n 0 cs)
    (is_additive c && stays n (used + char_columns c) cs) ([] ∷ lines_of cs) (onto_first c (lines_of cs))
    (λ _ t.
    let parts = and_parts (nat_le used n) (stays n 0 cs) t in
    let l = leb-true used n parts.0 in
    (l, (refl, omega arith, (Lines-stays n 0 cs parts.1).1)))
    (λ _ t.
    let parts = and_parts (is_additive c) (stays n (used + char_columns c) cs) t in
    let rest = Lines-stays n (used + char_columns c) cs parts.1 in
    (let l = rest.0 in omega arith, Lines-onto n used c (lines_of cs) parts.0 rest.1 rest.0)) h

Lines-greatest : (n used : ℕ) (ls : List (List ℕ)) → Lines n used ls → greatest (map columns_of ls) ≤ n
Lines-greatest n used [] h = omega arith
Lines-greatest n used (l ∷ ls) h =
    let own = line_columns-plain l h.0 in
    let a = h.1 in
    let rest = Lines-greatest n 0 ls h.2 in
    omega arith

-- a text that stays in n columns measures at most n
pub columns-stays : (n : ℕ) (cs : List ℕ) → stays n 0 cs ≡ true → greatest (map columns_of (lines_of cs)) ≤ n
columns-stays n cs h = Lines-greatest n 0 (lines_of cs) (Lines-stays n 0 cs h).1

-- and is plain
pub is_additive_text-stays : (n used : ℕ) (cs : List ℕ) → stays n used cs ≡ true → is_additive_text cs ≡ true
is_additive_text-stays n used [] h = refl
is_additive_text-stays n used (c ∷ cs) h =
    cond-both (λ (t : Bool). t ≡ true) (λ (k : ℕ). is_additive_text (c ∷ cs) ≡ true) (c == 10) (nat_le used n && stays n 0 cs)
    (is_additive c && stays n (used + char_columns c) cs) 0 0
    (λ feed t. and_from (is_additive_or_feed c) (is_additive_text cs) (or_left (c == 10) (is_additive c) feed)
    (is_additive_text-stays n 0 cs (and_parts (nat_le used n) (stays n 0 cs) t).1))
    (λ _ t.
    let parts = and_parts (is_additive c) (stays n (used + char_columns c) cs) t in
    and_from (is_additive_or_feed c) (is_additive_text cs) (or_right (c == 10) (is_additive c) parts.0)
    (is_additive_text-stays n (used + char_columns c) cs parts.1)) h

-- ---- units that are plain and as wide as they say
abbrev pub Good : TextUnit → Type 0
Good p = (list_all is_additive p.text ≡ true) × (p.width ≡ sum_by char_columns p.text)

Good-char : (c : ℕ) → is_additive c ≡ true → Good (unit_of_char c)
Good-char c h =
    let own = and_parts (has_plain_width c) _ (and_parts (is_listed_or_drawn c) _ h).1 in
    let e : char_count c ≡ char_columns c = char_count-plain (char_columns c) own.0 in (
      and_from (is_additive c) true h refl,
      e ∙
          (let z : char_columns c ≡ sum_by char_columns (c ∷ []) = omega (arith, sum_by-cons char_columns c []) in z),
    )

abbrev pub EachPlain : List (List ℕ) → Type 0
EachPlain ls = Each is_additive ls

pub EachPlain-lines : (cs : List ℕ) → is_additive_text cs ≡ true → EachPlain (lines_of cs)
EachPlain-lines cs h = Each-lines is_additive is_additive_or_feed (λ c a b. subst (λ x. (x || is_additive c) ≡ true) b a) cs h

pub good-made : IsMade is_additive Good
good-made = record {
  char = Good-char;
  word = λ cs h. (h, line_columns-plain cs h);
  space = (and_from (is_additive 32) true plain_space.0 refl, (let e = plain_space.1 in omega (arith, sum_by-cons char_columns 32 [])));
}

-- ---- a unit that is shown stays in the line
shown-wide : (n used : ℕ) (p : TextUnit) (rest : List ℕ) → Good p → used + needed n p ≤ n
    → (stays n (min (used + p.width) n) rest ≡ true) → stays n used (unit_or_filler n used p ++ rest) ≡ true
shown-wide n used p rest g fits s =
    cond-both (λ k. used + k ≤ n) (λ (t : List ℕ). stays n used (t ++ rest) ≡ true) (nat_le p.width n) p.width 1 p.text
    (replicate (n - used) 0xFFFD)
    (λ _ fit.
    let room : used + p.width ≤ n = fit in
    let w = g.1 in
    let e : min (used + p.width) n ≡ used + sum_by char_columns p.text = omega arith in
    stays-line n used p.text rest g.0 (subst (λ k. stays n k rest ≡ true) e s))
    (λ no fit.
    let room : used + 1 ≤ n = fit in
    let wide = leb-false p.width n no in
    let r = replacements (n - used) in
    let w = r.1 in
    let e : min (used + p.width) n ≡ used + sum_by char_columns (replicate (n - used) 0xFFFD) = omega arith in
    stays-line n used (replicate (n - used) 0xFFFD) rest r.0 (subst (λ k. stays n k rest ≡ true) e s)) fits

-- adding unit to unit, where what follows stays from every column on
pub stays-append_all : (n used : ℕ) (ps : List TextUnit) (rest : List ℕ) → 0 < n → EachUnit Good ps
    → ((k : ℕ) → k ≤ n → stays n k rest ≡ true) → stays n (min used n) (append_all n used ps ++ rest) ≡ true
stays-append_all n used [] rest pos g h = h (min used n) (omega arith)
stays-append_all n used (p ∷ ps) rest pos g h =
    let more = stays-append_all n (append_used n used p) ps rest pos g.1 h in
    let tail = append_all n (append_used n used p) ps ++ rest in
    subst (λ l. stays n (min used n) l ≡ true) (sym (append_assoc (append_text n used p) (append_all n (append_used n used p) ps) rest))
    (⊎_elim
    (λ y.
    let put = append_text-fits n used p y in
    let fits = leb-true (used + needed n p) n y in
    let same : min used n ≡ used = omega arith in
    subst (λ l. stays n (min used n) (l ++ tail) ≡ true) (sym put.0)
    (subst (λ k. stays n k (unit_or_filler n used p ++ tail) ≡ true) (sym same)
    (shown-wide n used p tail g.0 fits (subst (λ k. stays n (min k n) tail ≡ true) put.1 more))))
    (λ no.
    let put = append_text-breaks n used p no in
    subst (λ l. stays n (min used n) (l ++ tail) ≡ true) (sym put.0)
    (stays-break n (min used n) (unit_or_filler n 0 p ++ tail) (omega arith)
    (shown-wide n 0 p tail g.0 (let l = needed-le-line n p pos in omega arith)
    (subst (λ k. stays n (min k n) tail ≡ true) (put.1 ∙ (let e : p.width ≡ 0 + p.width = omega arith in e)) more))))
    (cases_Bool (nat_le (used + needed n p) n)))

-- ---- all lines
pub stays-nothing : (n k : ℕ) → k ≤ n → stays n k [] ≡ true
stays-nothing n k h = le-leb k n h

stays-broken : (n : ℕ) (words : Bool) → 0 < n → (line : List ℕ) (groups : List (List TextUnit)) (rest : List ℕ)
    → list_all is_additive line ≡ true → IsFullest n (units n words line) groups
    → ((k : ℕ) → k ≤ n → stays n k rest ≡ true) → stays n 0 (text_of_groups n groups ++ rest) ≡ true
stays-broken n words pos line groups rest plain f h =
    let all = stays-append_all n 0 (units n words line) rest pos (EachUnit-units is_additive Good good-made n words line plain) h in
    subst (λ l. stays n 0 (l ++ rest) ≡ true) (sym (text_is n pos (units n words line) groups f))
    (subst (λ k. stays n k (append_all n 0 (units n words line) ++ rest) ≡ true) (let e : min 0 n ≡ 0 = omega arith in e) all)

stays-lines : (n : ℕ) (words : Bool) → 0 < n → (lines : List (List ℕ)) (broken : List (List (List TextUnit))) → EachPlain lines
    → AllZip (λ line groups. IsFullest n (units n words line) groups) lines broken → stays n 0 (text_of_lines n broken) ≡ true
stays-lines n words pos [] [] p f = le-leb 0 n (omega arith)
stays-lines n words pos (l ∷ []) (g ∷ []) p f =
    subst (λ t. stays n 0 t ≡ true) (append-nil (text_of_groups n g)) (stays-broken n words pos l g [] p.0 f.0 (stays-nothing n))
stays-lines n words pos (l ∷ m ∷ ls) (g ∷ h ∷ gs) p f =
    let rest = stays-lines n words pos (m ∷ ls) (h ∷ gs) p.1 f.1 in
    stays-broken n words pos l g (10 ∷ text_of_lines n (h ∷ gs)) p.0 f.0 (λ k le. stays-break n k (text_of_lines n (h ∷ gs)) le rest)
stays-lines n words pos [] _ p f = absurd f
stays-lines n words pos _ [] p f = absurd f
stays-lines n words pos _ _ p f = absurd f.1

-- a wrapped plain text stays in n columns, whatever its characters' widths
pub stays-wrapped : (n : ℕ) (words : Bool) (text answer : List ℕ) → is_additive_text (chars text) ≡ true
    → IsWrapped n words text answer → stays n 0 (chars answer) ≡ true
stays-wrapped n words text answer plain w = ⊎_elim
    (λ none. subst (λ t. stays n 0 t ≡ true) (sym (ap chars none.1 ∙ chars-nil)) (le-leb 0 n (omega arith)))
    (λ full. subst (λ t. stays n 0 t ≡ true) (sym full.1.answered)
    (stays-lines n words full.0 (lines_of (chars text)) full.1.broken (EachPlain-lines (chars text) plain) full.1.fullest))
    (wrapped-cases n words text answer w)
