-- The lines of a text's bytes, as lines of its characters, the columns of a text by its lines, and those of joined texts.
use Rattle.tabled_text.proofs.Names.{All, All-cons, All-head, All-nil, All-tail, Bool, IsUtf8, List, [], and_from, and_parts, ap}
use Rattle.tabled_text.proofs.Names.{append-nil, arith, cases_Bool, chars, chars-encodes, chars-nil, cond, encode_ascii, encode_utf8}
use Rattle.tabled_text.proofs.Names.{encode_utf8_all, encodes-chars, eqb-true, false, get_or, get_or_default, greatest, is_no_feed}
use Rattle.tabled_text.proofs.Names.{join_with_byte, join_with_byte-slice_split, length, length-append, length-slice_split, line_columns}
use Rattle.tabled_text.proofs.Names.{lines_of, list_all, lit<, map, max, not-true, onto_first, or_right, refl, scalar, scalars}
use Rattle.tabled_text.proofs.Names.{scalars-chars, slice_index_or, slice_split, slice_split-cons_no, str_width, subst, suc, sum_by}
use Rattle.tabled_text.proofs.Names.{sum_by-cons, sym, text_columns, true, zero, ℕ, ⊎_elim, ⊤, ◌&&◌, ◌++◌, ◌+◌, ◌<◌, ◌==◌, ◌||◌, ◌∙◌, ◌∷◌}
use Rattle.tabled_text.proofs.Names.{◌≡◌, ◌≤◌}
use Rattle.std.proofs.lemmas.List.Elements.{All-map}
use Rattle.std.proofs.lemmas.Str.{inside_one}
use Rattle.tabled_text.proofs.Basics.{all-weaker, cond-cases}

abbrev is_feed : ℕ → Bool
is_feed c = c == 10

-- ---- the lines of bytes and of characters

-- a character other than the line feed is encoded without its byte
no_feed : (c : ℕ) → is_feed c ≡ false → All (λ b. is_feed b ≡ false) (encode_utf8 c)
no_feed c h k d l =
    let bytes = encode_utf8 c in
    let same = get_or_default bytes k d 0 l in
    ⊎_elim
    (λ yes.
    let is : get_or bytes k d ≡ 10 = eqb-true (get_or bytes k d) 10 yes in
    let small : get_or bytes k 0 < 128 = omega arith in
    let own : c ≡ get_or bytes k 0 = inside_one c [] bytes k (sym (append-nil bytes)) l small in
    let ten : c ≡ 10 = omega arith in
    let clash : true ≡ false = subst (λ x. is_feed x ≡ false) ten h in
    cc)
    (λ no. no)
    (cases_Bool (is_feed (get_or bytes k d)))

-- bytes without a line feed stand before the first line of what follows
put_before : (xs ys l : List ℕ) (ls : List (List ℕ)) → All (λ b. is_feed b ≡ false) xs → lines_of ys ≡ l ∷ ls
    → lines_of (xs ++ ys) ≡ (xs ++ l) ∷ ls
put_before [] ys l ls a h = h
put_before (x ∷ xs) ys l ls a h =
    slice_split-cons_no is_feed x (xs ++ ys) (All-head (λ b. is_feed b ≡ false) x xs a)
    ∙ ap (onto_first x) (put_before xs ys l ls (All-tail (λ b. is_feed b ≡ false) x xs a) h)

-- a list of texts with a first one
pub record Begins (ls : List (List ℕ)) : Type 0 where
  pub first : List ℕ
  pub rest : List (List ℕ)
  pub parts : ls ≡ first ∷ rest

pub begins : (ls : List (List ℕ)) → 0 < length ls → Begins ls
begins [] h = absurd (omega arith)
begins (l ∷ ls) h = record { first = l; rest = ls; parts = refl }

pub begins-split : (p : ℕ → Bool) (cs : List ℕ) → Begins (slice_split p cs)
begins-split p cs = begins (slice_split p cs) (omega (arith, length-slice_split p cs))

pub some_line : (text : List ℕ) → 0 < length (lines_of text)
some_line text = omega (arith, length-slice_split is_feed text)

lines_of-encoded : (cs : List ℕ) → lines_of (encode_utf8_all cs) ≡ map encode_utf8_all (lines_of cs)
lines_of-encoded [] = refl
lines_of-encoded (c ∷ cs) =
    let rest = encode_utf8_all cs in
    cond-cases (λ ls. lines_of (encode_utf8 c ++ rest) ≡ map encode_utf8_all ls) (is_feed c) ([] ∷ lines_of cs) (onto_first c (lines_of cs))
    (λ yes. ap (λ l. lines_of (l ++ rest)) (ap encode_utf8 (eqb-true c 10 yes) ∙ encode_ascii 10 (lit< tt))
    ∙ ap (λ ls. [] ∷ ls) (lines_of-encoded cs))
    (λ no.
    let b = begins (lines_of cs) (some_line cs) in
    put_before (encode_utf8 c) rest (encode_utf8_all b.first) (map encode_utf8_all b.rest) (no_feed c no)
    (lines_of-encoded cs ∙ ap (map encode_utf8_all) b.parts)
    ∙ ap (λ ls. map encode_utf8_all (onto_first c ls)) (sym b.parts))

-- each character of each line passes
abbrev pub Each : (ℕ → Bool) → List (List ℕ) → Type 0
Each q [] = ⊤
Each q (l ∷ ls) = (list_all q l ≡ true) × Each q ls

Each-onto : (q : ℕ → Bool) (c : ℕ) (ls : List (List ℕ)) → q c ≡ true → Each q ls → Each q (onto_first c ls)
Each-onto q c [] h l = (and_from (q c) true h refl, tt)
Each-onto q c (x ∷ ls) h l = (and_from (q c) (list_all q x) h l.0, l.1)

-- a split leaves out the characters that it is made at
pub Each-split : (p q r : ℕ → Bool) → ((c : ℕ) → q c ≡ true → p c ≡ false → r c ≡ true) → (cs : List ℕ)
    → list_all q cs ≡ true → Each r (slice_split p cs)
Each-split p q r f [] h = (refl, tt)
Each-split p q r f (c ∷ cs) h =
    let parts = and_parts (q c) (list_all q cs) h in
    let rest = Each-split p q r f cs parts.1 in
    cond-cases (Each r) (p c) ([] ∷ slice_split p cs) (onto_first c (slice_split p cs)) (λ _. (refl, rest))
    (λ no. Each-onto r c (slice_split p cs) (f c parts.0 no) rest)

Each-All : (q : ℕ → Bool) (ls : List (List ℕ)) → Each q ls → All (λ l. list_all q l ≡ true) ls
Each-All q [] h = All-nil (λ l. list_all q l ≡ true)
Each-All q (l ∷ ls) h = All-cons (λ x. list_all q x ≡ true) l ls h.0 (Each-All q ls h.1)

-- what holds of each character but the line feeds holds of each in each line
pub each_in_lines : (p : ℕ → Bool) (cs : List ℕ) → list_all (λ c. (c == 10) || p c) cs ≡ true → All (λ l. list_all p l ≡ true) (lines_of cs)
each_in_lines p cs h =
    Each-All p (lines_of cs) (Each-split is_feed (λ c. is_feed c || p c) p (λ c a no. subst (λ t. (t || p c) ≡ true) no a) cs h)

pub list_all-scalars : (cs : List ℕ) → list_all scalar cs ≡ scalars cs
list_all-scalars [] = refl
list_all-scalars (c ∷ cs) = ap (λ b. scalar c && b) (list_all-scalars cs)

scalar_lines : (cs : List ℕ) → scalars cs ≡ true → All (λ l. list_all scalar l ≡ true) (lines_of cs)
scalar_lines cs h = each_in_lines scalar cs
    (all-weaker scalar (λ c. is_feed c || scalar c) (λ c a. or_right (is_feed c) (scalar c) a) cs (list_all-scalars cs ∙ h))

chars-lines : (ls : List (List ℕ)) → All (λ l. list_all scalar l ≡ true) ls → map chars (map encode_utf8_all ls) ≡ ls
chars-lines [] h = refl
chars-lines (l ∷ ls) h =
    let own = chars-encodes l (sym (list_all-scalars l) ∙ All-head (λ x. list_all scalar x ≡ true) l ls h) in
    ap (λ x. x ∷ map chars (map encode_utf8_all ls)) own ∙ ap (λ xs. l ∷ xs) (chars-lines ls (All-tail (λ x. list_all scalar x ≡ true) l ls h))

lines_of-text : (text : List ℕ) → IsUtf8 text → lines_of text ≡ map encode_utf8_all (lines_of (chars text))
lines_of-text text u = ap lines_of (sym (encodes-chars text u)) ∙ lines_of-encoded (chars text)

-- the lines of a text's characters are the characters of its lines
pub lines_of-chars : (text : List ℕ) → IsUtf8 text → lines_of (chars text) ≡ map chars (lines_of text)
lines_of-chars text u =
    sym (ap (map chars) (lines_of-text text u) ∙ chars-lines (lines_of (chars text)) (scalar_lines (chars text) (scalars-chars text u)))

-- each line of a text is UTF-8
pub utf8_lines : (text : List ℕ) → IsUtf8 text → All IsUtf8 (lines_of text)
utf8_lines text u =
    let cs = chars text in
    let each : All (λ l. IsUtf8 (encode_utf8_all l)) (lines_of cs) = λ k d h.
    (get_or (lines_of cs) k d, (sym (list_all-scalars (get_or (lines_of cs) k d)) ∙ scalar_lines cs (scalars-chars text u) k d h, refl)) in
    subst (All IsUtf8) (sym (lines_of-text text u)) (All-map IsUtf8 encode_utf8_all (lines_of cs) each)

-- no line is longer than its text
pub lines_length : (text : List ℕ) → All (λ l. length l ≤ length text) (lines_of text)
lines_length [] = All-cons (λ l. length l ≤ 0) [] [] (omega arith) (All-nil (λ l. length l ≤ 0))
lines_length (c ∷ text) =
    let P : List ℕ → Type 0 = λ l. length l ≤ suc (length text) in
    let more : All P (lines_of text) = λ k d h. let own = lines_length text k d h in omega arith in
    cond-cases (All P) (is_feed c) ([] ∷ lines_of text) (onto_first c (lines_of text))
    (λ _. All-cons P [] (lines_of text) (omega arith) more)
    (λ _.
    let b = begins (lines_of text) (some_line text) in
    let all = subst (All (λ l. length l ≤ length text)) b.parts (lines_length text) in
    let own : length b.first ≤ length text = All-head (λ l. length l ≤ length text) b.first b.rest all in
    subst (λ ls. All P (onto_first c ls)) (sym b.parts)
    (All-cons P (c ∷ b.first) b.rest (omega arith) (All-tail P b.first b.rest (subst (All P) b.parts more))))

-- ---- the columns of a text

map-map : (f : List ℕ → ℕ) (ls : List (List ℕ)) → map (λ l. f (chars l)) ls ≡ map f (map chars ls)
map-map f [] = refl
map-map f (l ∷ ls) = ap (λ xs. f (chars l) ∷ xs) (map-map f ls)

-- they are read off the characters, too
pub text_columns-chars : (text : List ℕ) → IsUtf8 text → text_columns text ≡ greatest (map (str_width false) (lines_of (chars text)))
text_columns-chars text u = ap greatest (map-map (str_width false) (lines_of text) ∙ ap (map (str_width false)) (sym (lines_of-chars text u)))

-- the greatest number is as great as each
pub greatest-ge : {X : Type 0} (f : X → ℕ) (xs : List X) (k : ℕ) (d : X) → k < length xs → f (get_or xs k d) ≤ greatest (map f xs)
greatest-ge f [] k d h = absurd (omega arith)
greatest-ge f (x ∷ xs) zero d h = omega arith
greatest-ge f (x ∷ xs) (suc k) d h = let more = greatest-ge f xs k d (omega arith) in omega arith

-- and no greater than what bounds each
pub greatest-le : {X : Type 0} (f : X → ℕ) (n : ℕ) (xs : List X) → All (λ x. f x ≤ n) xs → greatest (map f xs) ≤ n
greatest-le f n [] h = omega arith
greatest-le f n (x ∷ xs) h =
    let here : f x ≤ n = All-head (λ y. f y ≤ n) x xs h in
    let more = greatest-le f n xs (All-tail (λ y. f y ≤ n) x xs h) in
    omega arith

-- no line is wider than its text
pub line_columns-le : (text : List ℕ) (k : ℕ) → k < length (lines_of text)
    → line_columns (slice_index_or (lines_of text) k []) ≤ text_columns text
line_columns-le text k h = greatest-ge line_columns (lines_of text) k [] h

the_one : (ls : List (List ℕ)) → length ls ≡ 1 → ls ≡ join_with_byte 10 ls ∷ []
the_one [] h = absurd (omega arith)
the_one (l ∷ []) h = refl
the_one (l ∷ m ∷ ls) h = absurd (omega arith)

-- a text of one line is that line
pub lines_of-one : (text : List ℕ) → length (lines_of text) ≡ 1 → lines_of text ≡ text ∷ []
lines_of-one text h = the_one (lines_of text) h ∙ ap (λ l. l ∷ []) (join_with_byte-slice_split 10 text)

-- and takes its columns
pub text_columns-one : (text : List ℕ) → length (lines_of text) ≡ 1 → text_columns text ≡ line_columns text
text_columns-one text h =
    let e : max (line_columns text) 0 ≡ line_columns text = omega arith in
    ap (λ ls. greatest (map line_columns ls)) (lines_of-one text h) ∙ e

-- ---- joined texts

pub onto_first-append : (c : ℕ) (ls ms : List (List ℕ)) → 0 < length ls → onto_first c (ls ++ ms) ≡ onto_first c ls ++ ms
onto_first-append c [] ms h = absurd (omega arith)
onto_first-append c (l ∷ ls) ms h = refl

-- a character at which a text is split ends the last piece before it
pub split-append : (p : ℕ → Bool) (d : ℕ) → p d ≡ true → (front back : List ℕ)
    → slice_split p (front ++ d ∷ back) ≡ slice_split p front ++ slice_split p back
split-append p d is [] back = ap (λ b. cond b ([] ∷ slice_split p back) (onto_first d (slice_split p back))) is
split-append p d is (c ∷ front) back =
    ap (λ ls. cond (p c) ([] ∷ ls) (onto_first c ls)) (split-append p d is front back)
    ∙ by_test (p c)
  where
    by_test : (b : Bool)
        → cond b ([] ∷ (slice_split p front ++ slice_split p back)) (onto_first c (slice_split p front ++ slice_split p back))
        ≡ cond b ([] ∷ slice_split p front) (onto_first c (slice_split p front)) ++ slice_split p back
    by_test true = refl
    by_test false = onto_first-append c (slice_split p front) (slice_split p back) (omega (arith, length-slice_split p front))

pub lines_of-feed : (front back : List ℕ) → lines_of (front ++ 10 ∷ back) ≡ lines_of front ++ lines_of back
lines_of-feed front back = split-append (λ c. c == 10) 10 refl front back

-- so the lines of both are counted
pub count_lines-feed : (front back : List ℕ) → length (lines_of (front ++ 10 ∷ back)) ≡ length (lines_of front) + length (lines_of back)
count_lines-feed front back = ap length (lines_of-feed front back) ∙ length-append (lines_of front) (lines_of back)

greatest-append : (f : List ℕ → ℕ) (ls ms : List (List ℕ)) → greatest (map f (ls ++ ms)) ≡ max (greatest (map f ls)) (greatest (map f ms))
greatest-append f [] ms = let e : greatest (map f ms) ≡ max 0 (greatest (map f ms)) = omega arith in e
greatest-append f (l ∷ ls) ms = let e = greatest-append f ls ms in omega arith

-- and the wider one gives the columns
pub text_columns-feed : (front back : List ℕ) → text_columns (front ++ 10 ∷ back) ≡ max (text_columns front) (text_columns back)
text_columns-feed front back = ap (λ ls. greatest (map line_columns ls)) (lines_of-feed front back) ∙ greatest-append
    line_columns (lines_of front) (lines_of back)

-- a text without line feeds is one line
pub lines_of-feedless : (cs : List ℕ) → list_all is_no_feed cs ≡ true → lines_of cs ≡ cs ∷ []
lines_of-feedless [] h = refl
lines_of-feedless (c ∷ cs) h =
    let parts = and_parts (is_no_feed c) (list_all is_no_feed cs) h in
    slice_split-cons_no is_feed c cs (not-true (is_feed c) parts.0) ∙ ap (onto_first c) (lines_of-feedless cs parts.1)

-- ---- what follows a text without a line feed goes on its last line

abbrev pub add_last : List (List ℕ) → List ℕ → List (List ℕ)
add_last [] xs = xs ∷ []
add_last (l ∷ []) xs = (l ++ xs) ∷ []
add_last (l ∷ m ∷ ls) xs = l ∷ add_last (m ∷ ls) xs

add_last-feed : (ls : List (List ℕ)) (xs : List ℕ) → 0 < length ls → [] ∷ add_last ls xs ≡ add_last ([] ∷ ls) xs
add_last-feed [] xs h = absurd (omega arith)
add_last-feed (l ∷ ls) xs h = refl

add_last-onto : (c : ℕ) (ls : List (List ℕ)) (xs : List ℕ) → onto_first c (add_last ls xs) ≡ add_last (onto_first c ls) xs
add_last-onto c [] xs = refl
add_last-onto c (l ∷ []) xs = refl
add_last-onto c (l ∷ m ∷ ls) xs = refl

-- the last line goes on with the first of what follows
abbrev pub splice : List (List ℕ) → List (List ℕ) → List (List ℕ)
splice ls [] = ls
splice ls (t ∷ ts) = add_last ls t ++ ts

splice-nothing : (ts : List (List ℕ)) → 0 < length ts → ts ≡ splice ([] ∷ []) ts
splice-nothing [] h = absurd (omega arith)
splice-nothing (t ∷ ts) h = refl

splice-feed : (ls ts : List (List ℕ)) → 0 < length ls → [] ∷ splice ls ts ≡ splice ([] ∷ ls) ts
splice-feed ls [] h = refl
splice-feed ls (t ∷ ts) h = ap (λ l. l ++ ts) (add_last-feed ls t h)

add_last-some : (ls : List (List ℕ)) (xs : List ℕ) → 0 < length (add_last ls xs)
add_last-some [] xs = omega arith
add_last-some (l ∷ []) xs = omega arith
add_last-some (l ∷ m ∷ ls) xs = omega arith

splice-onto : (c : ℕ) (ls ts : List (List ℕ)) → onto_first c (splice ls ts) ≡ splice (onto_first c ls) ts
splice-onto c ls [] = refl
splice-onto c ls (t ∷ ts) = onto_first-append c (add_last ls t) ts (add_last-some ls t) ∙ ap (λ l. l ++ ts) (add_last-onto c ls t)

pub lines_of-splice : (cs tail : List ℕ) → lines_of (cs ++ tail) ≡ splice (lines_of cs) (lines_of tail)
lines_of-splice [] tail = splice-nothing (lines_of tail) (some_line tail)
lines_of-splice (c ∷ cs) tail =
    ap (λ ls. cond (c == 10) ([] ∷ ls) (onto_first c ls)) (lines_of-splice cs tail) ∙ by_test (c == 10)
  where
    by_test : (b : Bool) → cond b ([] ∷ splice (lines_of cs) (lines_of tail)) (onto_first c (splice (lines_of cs) (lines_of tail))) ≡ splice
        (cond b ([] ∷ lines_of cs) (onto_first c (lines_of cs))) (lines_of tail)
    by_test true = splice-feed (lines_of cs) (lines_of tail) (some_line cs)
    by_test false = splice-onto c (lines_of cs) (lines_of tail)

pub lines_of-last : (cs xs : List ℕ) → list_all is_no_feed xs ≡ true → lines_of (cs ++ xs) ≡ add_last (lines_of cs) xs
lines_of-last cs xs h = lines_of-splice cs xs ∙ ap (splice (lines_of cs)) (lines_of-feedless xs h) ∙ append-nil (add_last (lines_of cs) xs)

-- ---- lists of texts

-- texts of one line each are the lines of the joined text
pub lines_of-join : (ls : List (List ℕ)) → 0 < length ls → All (λ l. length (lines_of l) ≡ 1) ls → lines_of (join_with_byte 10 ls) ≡ ls
lines_of-join [] some h = absurd (omega arith)
lines_of-join (l ∷ []) some h = lines_of-one l (All-head (λ l. length (lines_of l) ≡ 1) l [] h)
lines_of-join (l ∷ m ∷ ls) some h =
    lines_of-feed l (join_with_byte 10 (m ∷ ls))
    ∙ ap (λ xs. xs ++ lines_of (join_with_byte 10 (m ∷ ls))) (lines_of-one l (All-head (λ l. length (lines_of l) ≡ 1) l (m ∷ ls) h))
    ∙ ap (λ xs. l ∷ xs) (lines_of-join (m ∷ ls) (omega arith) (All-tail (λ l. length (lines_of l) ≡ 1) l (m ∷ ls) h))

pub count_lines-join : (ls : List (List ℕ)) → 0 < length ls
    → length (lines_of (join_with_byte 10 ls)) ≡ sum_by (λ l. length (lines_of l)) ls
count_lines-join [] some = absurd (omega arith)
count_lines-join (l ∷ []) some = omega (arith, sum_by-cons (λ l. length (lines_of l)) l [])
count_lines-join (l ∷ m ∷ ls) some =
    let e = count_lines-feed l (join_with_byte 10 (m ∷ ls)) in
    let rest = count_lines-join (m ∷ ls) (omega arith) in
    omega (arith, sum_by-cons (λ l. length (lines_of l)) l (m ∷ ls))

pub text_columns-nil : text_columns [] ≡ 0
unfolding str_width
text_columns-nil = let e : line_columns [] ≡ 0 = ap (str_width false) chars-nil in omega arith

pub text_columns-join : (ls : List (List ℕ)) → text_columns (join_with_byte 10 ls) ≡ greatest (map text_columns ls)
text_columns-join [] = text_columns-nil
text_columns-join (l ∷ []) = let e : text_columns l ≡ max (text_columns l) 0 = omega arith in e
text_columns-join (l ∷ m ∷ ls) = text_columns-feed l (join_with_byte 10 (m ∷ ls)) ∙ ap (max (text_columns l)) (text_columns-join (m ∷ ls))
