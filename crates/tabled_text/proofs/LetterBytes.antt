-- Letters by their bytes: the columns of the letters that these begin add up to those of a text.
use Rattle.tabled_text.proofs.Names.{AreLetters, Bool, IsExactLine, IsLetter, IsLine, IsUtf8, LieWithin, List, [], agree_below_at, and_from}
use Rattle.tabled_text.proofs.Names.{and_parts, ap, arith, byte_columns, char_columns, char_count, chars, chunk, cond, count_of, drop}
use Rattle.tabled_text.proofs.Names.{drop-drop, encode_utf8_all, encodes-chars, false, get_or, get_or-drop, is_inner_byte, is_letter_byte}
use Rattle.tabled_text.proofs.Names.{is_narrow_lead, is_no_feed, is_simple, is_wide_lead, lead_byte, length, length-drop, length-map}
use Rattle.tabled_text.proofs.Names.{lines_of, list_all, list_all-append, map, nat_lt, nat_tests, or_cases, or_right, refl, replicate}
use Rattle.tabled_text.proofs.Names.{str_width-simple, subst, suc, sum_by, sum_by-append, sum_by-cons, sym, take, take-add}
use Rattle.tabled_text.proofs.Names.{take-append-drop, take_all, text_columns, true, zero, ℕ, ⊎_elim, ◌%◌, ◌*◌, ◌++◌, ◌+◌, ◌-◌, ◌/◌, ◌||◌}
use Rattle.tabled_text.proofs.Names.{◌∙◌, ◌∷◌, ◌≡◌, ◌≤◌}
use Rattle.std.specs.Char.{encode_utf8}
use Rattle.std.proofs.lemmas.List.{drop-append-le}
use Rattle.std.proofs.lemmas.List.Sums.{sum_by-take-drop}
use Rattle.std.proofs.lemmas.Bool.{cond-false, cond-true}
use Rattle.tabled_text.proofs.Basics.{all-halves, all-weaker}
use Rattle.tabled_text.proofs.Bridge.{lines_of-chars, lines_of-feedless, text_columns-one}
use Rattle.tabled_text.proofs.LetterLemmas.{lead-outer, narrow-letter, wide-letter}
use Rattle.tabled_text.proofs.RunLemmas.{run-front}

-- ---- lists of bytes

pub letters-append : {front back : List ℕ} {m n : ℕ} → AreLetters front m → AreLetters back n → AreLetters (front ++ back) (m + n)
letters-append {front} {back} {m} {n} p q = record {
  all = list_all-append is_letter_byte front back ∙ and_from (list_all is_letter_byte front) (list_all is_letter_byte back) p.all q.all;
  columns = omega (arith, p.columns, q.columns, sum_by-append byte_columns front back);
}

-- what bytes within a character are before takes as many columns without them
pub letters-behind : (k n : ℕ) (bytes : List ℕ) → AreLetters (replicate k 0x80 ++ bytes) n → AreLetters bytes n
letters-behind zero n bytes h = h
letters-behind (suc k) n bytes h =
    let rest = replicate k 0x80 ++ bytes in
    letters-behind k n bytes record {
      all = (and_parts (is_letter_byte 0x80) (list_all is_letter_byte rest) h.all).1;
      columns = omega (arith, h.columns, sum_by-cons byte_columns 0x80 rest);
    }

-- the last block, filled up to a place
pub letters-last : (bytes : List ℕ) (at start n : ℕ) → at + 16 ≡ length bytes → at ≤ start
    → AreLetters (replicate (start - at) 0x80 ++ drop (start - at) (chunk at 16 bytes)) n → AreLetters (drop start bytes) n
letters-last bytes at start n e o h =
    let k = start - at in
    let place : at + k ≡ start = omega arith in
    let whole : chunk at 16 bytes ≡ drop at bytes = take_all 16 (drop at bytes) (omega (arith, length-drop at bytes)) in
    subst (λ l. AreLetters l n) (ap (drop k) whole ∙ drop-drop k at bytes ∙ ap (λ i. drop i bytes) place)
    (letters-behind k n (drop k (chunk at 16 bytes)) h)

-- 8 to 16 bytes: the last 8, filled up to those that the first 8 leave, and the first 8
pub letters-halves : (bytes : List ℕ) (n : ℕ) → 8 ≤ length bytes → length bytes ≤ 16
    → AreLetters (replicate (16 - length bytes) 0x80 ++ drop (16 - length bytes) (chunk (length bytes - 8) 8 bytes ++ chunk 0 8 bytes)) n
    → AreLetters bytes n
letters-halves bytes n some few h =
    let k = 16 - length bytes in
    let last = length bytes - 8 in
    let place : last + k ≡ 8 = omega arith in
    let size = length-drop last bytes in
    let back : chunk last 8 bytes ≡ drop last bytes = take_all 8 (drop last bytes) (omega (arith, size)) in
    let behind : drop k (chunk last 8 bytes) ≡ drop 8 bytes = ap (drop k) back ∙ drop-drop k last bytes ∙ ap (λ i. drop i bytes) place in
    let parts : drop k (chunk last 8 bytes ++ take 8 bytes) ≡ drop 8 bytes ++ take 8 bytes =
    drop-append-le k (chunk last 8 bytes) (take 8 bytes) (omega (arith, ap length back, size)) ∙ ap (λ l. l ++ take 8 bytes) behind in
    let both = subst (λ l. AreLetters l n) parts (letters-behind k n (drop k (chunk last 8 bytes ++ take 8 bytes)) h) in
    let passed = all-halves is_letter_byte (drop 8 bytes) (take 8 bytes) both.all in
    let sum = sum_by-append byte_columns (drop 8 bytes) (take 8 bytes) in
    record {
      all = ap (list_all is_letter_byte) (sym (take-append-drop 8 bytes)) ∙ list_all-append is_letter_byte (take 8 bytes) (drop 8 bytes)
          ∙ and_from (list_all is_letter_byte (take 8 bytes)) (list_all is_letter_byte (drop 8 bytes)) passed.1 passed.0;
      columns = omega (arith, both.columns, sum, sum_by-take-drop byte_columns bytes 8);
    }

two : (byte : ℕ) → byte_columns byte ≤ 2
two byte = join (is_inner_byte byte) (is_wide_lead byte)
  where
    join : (x y : Bool) → cond x 0 (cond y 2 1) ≤ 2
    join true y = omega arith
    join false true = omega arith
    join false false = omega arith

pub sum-two : (bytes : List ℕ) → sum_by byte_columns bytes ≤ 2 * length bytes
sum-two [] = omega arith
sum-two (b ∷ bytes) = omega (arith, sum_by-cons byte_columns b bytes, two b, sum-two bytes)

pub letters-bound : {bytes : List ℕ} {n : ℕ} → AreLetters bytes n → n ≤ 2 * length bytes
letters-bound {bytes} h = omega (arith, h.columns, sum-two bytes)

-- ---- the bytes of a character

inner-next : (bits : ℕ) → is_inner_byte (128 + bits % 64) ≡ true
inner-next bits = agree_below_at (λ k. is_inner_byte (128 + k)) (λ _. true) 64 (bits % 64) refl (omega arith)

record IsEncoded (c : ℕ) (bytes : List ℕ) : Type 0 where
  inner : List ℕ
  is : bytes ≡ get_or bytes 0 0 ∷ inner
  within : list_all is_inner_byte inner ≡ true

encoded : (c : ℕ) → IsEncoded c (encode_utf8 c)
unfolding encode_utf8
encoded c = join (nat_lt c 128) (nat_lt c 2048) (nat_lt c 65536) c (192 + c / 64) (224 + c / 4096) (240 + c / 262144)
  where
    one : list_all is_inner_byte ((128 + c % 64) ∷ []) ≡ true
    one = and_from (is_inner_byte (128 + c % 64)) true (inner-next c) refl

    more : (bits : ℕ) (bytes : List ℕ) → list_all is_inner_byte bytes ≡ true → list_all is_inner_byte ((128 + bits % 64) ∷ bytes) ≡ true
    more bits bytes h = and_from (is_inner_byte (128 + bits % 64)) (list_all is_inner_byte bytes) (inner-next bits) h

    join : (x y z : Bool) (i j k l : ℕ)
        → IsEncoded c (cond x (i ∷ []) (cond y (j ∷ (128 + c % 64) ∷ []) (cond z (k ∷ (128 + c / 64 % 64) ∷ (128 + c % 64) ∷ []) (l ∷ (128 + c / 4096 % 64) ∷ (128 + c / 64 % 64) ∷ (128 + c % 64) ∷ []))))
    join true y z i j k l = record { inner = []; is = refl; within = refl }
    join false true z i j k l = record { inner = (128 + c % 64) ∷ []; is = refl; within = one }
    join false false true i j k l = record { inner = (128 + c / 64 % 64) ∷ (128 + c % 64) ∷ []; is = refl; within = more (c / 64) ((128 + c % 64) ∷ []) one }
    join false false false i j k l = record {
      inner = (128 + c / 4096 % 64) ∷ (128 + c / 64 % 64) ∷ (128 + c % 64) ∷ [];
      is = refl;
      within = more (c / 4096) ((128 + c / 64 % 64) ∷ (128 + c % 64) ∷ []) (more (c / 64) ((128 + c % 64) ∷ []) one);
    }

inner-none : (bytes : List ℕ) → list_all is_inner_byte bytes ≡ true → sum_by byte_columns bytes ≡ 0
inner-none [] h = refl
inner-none (b ∷ bytes) h =
    let parts = and_parts (is_inner_byte b) (list_all is_inner_byte bytes) h in
    let own : byte_columns b ≡ 0 = cond-true (is_inner_byte b) 0 _ parts.0 in
    omega (arith, sum_by-cons byte_columns b bytes, own, inner-none bytes parts.1)

inner-letters : (bytes : List ℕ) → list_all is_inner_byte bytes ≡ true → list_all is_letter_byte bytes ≡ true
inner-letters = all-weaker is_inner_byte is_letter_byte
    (λ b h. or_right (is_narrow_lead b) (is_wide_lead b || is_inner_byte b) (or_right (is_wide_lead b) (is_inner_byte b) h))

-- a character whose bytes are those of letters is a letter of as many columns
pub letter-encoded : (c : ℕ) → list_all is_letter_byte (encode_utf8 c) ≡ true → IsLetter c (sum_by byte_columns (encode_utf8 c))
letter-encoded c h =
    let lead = lead_byte c in
    let e = encoded c in
    let outer = lead-outer c in
    let own = (and_parts (is_letter_byte lead) (list_all is_letter_byte e.inner) (sym (ap (list_all is_letter_byte) e.is) ∙ h)).0 in
    let sum : sum_by byte_columns (encode_utf8 c) ≡ byte_columns lead =
    omega (arith, ap (sum_by byte_columns) e.is, sum_by-cons byte_columns lead e.inner, inner-none e.inner e.within) in
    let kind : byte_columns lead ≡ cond (is_wide_lead lead) 2 1 = cond-false (is_inner_byte lead) 0 _ outer in
    ⊎_elim
    (λ narrow.
    let thin : is_wide_lead lead ≡ false = grind (arith, nat_tests) in
    subst (IsLetter c) (sym (sum ∙ kind ∙ cond-false (is_wide_lead lead) 2 1 thin)) (narrow-letter c narrow))
    (λ other. ⊎_elim
    (λ wide. subst (IsLetter c) (sym (sum ∙ kind ∙ cond-true (is_wide_lead lead) 2 1 wide)) (wide-letter c wide))
    (λ inner. let clash : true ≡ false = sym inner ∙ outer in cc)
    (or_cases (is_wide_lead lead) (is_inner_byte lead) other))
    (or_cases (is_narrow_lead lead) (is_wide_lead lead || is_inner_byte lead) own)

-- bytes within a character go on with letters
pub letters-inner : (bytes : List ℕ) (at end n : ℕ) → at ≤ end → end ≤ length bytes → LieWithin 0x80 0xBF bytes at end
    → AreLetters (take at bytes) n → AreLetters (take end bytes) n
letters-inner bytes at end n o e within h =
    let k = end - at in
    let part = take k (drop at bytes) in
    let inner : list_all is_inner_byte part ≡ true =
    run-front is_inner_byte (drop at bytes) k (omega (arith, length-drop at bytes))
    (λ i z l. ap is_inner_byte (get_or-drop at bytes i 0) ∙ within (at + i) (omega arith) (omega arith)) in
    let more : AreLetters part 0 = record { all = inner-letters part inner; columns = sym (inner-none part inner) } in
    let place : at + k ≡ end = omega arith in
    let sum : n + 0 ≡ n = omega arith in
    subst (λ i. AreLetters (take i bytes) n) place
    (subst (AreLetters (take (at + k) bytes)) sum (subst (λ l. AreLetters l (n + 0)) (sym (take-add at k bytes)) (letters-append h more)))

-- ---- texts

-- the characters of letters that take n columns together
pub record AreCounted (cs : List ℕ) (n : ℕ) : Type 0 where
  pub simple : list_all is_simple cs ≡ true
  pub columns : sum_by char_columns cs ≡ n
  pub counts : count_of cs ≡ n

pub counted-nil : AreCounted [] 0
counted-nil = record { simple = refl; columns = refl; counts = refl }

pub counted-cons : (c k : ℕ) (cs : List ℕ) (n : ℕ) → IsLetter c k → AreCounted cs n → AreCounted (c ∷ cs) (k + n)
counted-cons c k cs n own more = record {
  simple = and_from (is_simple c) (list_all is_simple cs) own.simple more.simple;
  columns = omega (arith, sum_by-cons char_columns c cs, own.columns, more.columns);
  counts = omega (arith, sum_by-cons char_count c cs, own.columns, own.some, more.counts);
}

counted-encoded : (cs : List ℕ) → list_all is_letter_byte (encode_utf8_all cs) ≡ true
    → AreCounted cs (sum_by byte_columns (encode_utf8_all cs))
counted-encoded [] h = counted-nil
counted-encoded (c ∷ cs) h =
    let front = encode_utf8 c in
    let back = encode_utf8_all cs in
    let parts = all-halves is_letter_byte front back h in
    subst (AreCounted (c ∷ cs)) (sym (sum_by-append byte_columns front back))
    (counted-cons c (sum_by byte_columns front) cs (sum_by byte_columns back) (letter-encoded c parts.0) (counted-encoded cs parts.1))

pub letters-counted : (text : List ℕ) (n : ℕ) → IsUtf8 text → AreLetters text n → AreCounted (chars text) n
letters-counted text n u h =
    let same = encodes-chars text u in
    subst (AreCounted (chars text)) (ap (sum_by byte_columns) same ∙ sym h.columns)
    (counted-encoded (chars text) (ap (list_all is_letter_byte) same ∙ h.all))

pub simple-no_feed : (c : ℕ) → is_simple c ≡ true → is_no_feed c ≡ true
simple-no_feed c h = grind (arith, nat_tests)

-- letters alone are a line
pub counted-line : (text : List ℕ) (n : ℕ) → IsUtf8 text → AreCounted (chars text) n → IsLine text n
counted-line text n u c = record {
  utf8 = u;
  feedless = all-weaker is_simple is_no_feed simple-no_feed (chars text) c.simple;
  columns = str_width-simple false (chars text) c.simple ∙ c.columns;
}

pub letters-line : (text : List ℕ) (n : ℕ) → IsUtf8 text → AreLetters text n → IsLine text n
letters-line text n u h = counted-line text n u (letters-counted text n u h)

pub line-alone : (line : List ℕ) (n : ℕ) → IsLine line n → length (lines_of line) ≡ 1
line-alone line n h =
    let e : length (map chars (lines_of line)) ≡ 1 = ap length (sym (lines_of-chars line h.utf8) ∙ lines_of-feedless (chars line) h.feedless) in
    sym (length-map (lines_of line) chars) ∙ e

pub line-columns : {text : List ℕ} {n : ℕ} → IsLine text n → n ≡ text_columns text
line-columns {text} {n} line = sym (text_columns-one text (line-alone text n line) ∙ line.columns)

-- and an exact one
pub letters-exact : (text : List ℕ) → IsUtf8 text → list_all is_letter_byte text ≡ true → IsExactLine text
letters-exact text u h =
    let n = sum_by byte_columns text in
    let letters : AreLetters text n = record { all = h; columns = refl } in
    let line = letters-line text n u letters in
    let one = line-alone text n line in
    record {
      utf8 = u;
      one = one;
      counted = (letters-counted text n u letters).counts ∙ sym (text_columns-one text one ∙ line.columns);
    }
