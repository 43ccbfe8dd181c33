-- Letters at the front of a text, and letters broken between characters: each line is a piece, and takes what it counts.
use Rattle.tabled_text.proofs.Names.{All, All-cons, All-nil, AreLetters, BeginsBy, Bool, IsLetterLine, IsPiece, IsUtf8, IsUtf8-encode}
use Rattle.tabled_text.proofs.Names.{IsUtf8-nil, IsUtf8-past_char, List, TextUnit, [], and_from, and_parts, ap, append-nil, append_all}
use Rattle.tabled_text.proofs.Names.{append_text, append_used, arith, cases_lt, char_count, chars, chars-append, chars-nil, columns_of}
use Rattle.tabled_text.proofs.Names.{cond, count_of, encode_ascii, encode_utf8_all, encodes-append, encodes-chars, eqb, eqb-true, false}
use Rattle.tabled_text.proofs.Names.{inl, inr, is_in_range, is_letter_byte, is_letter_or_break, last_line, last_of, le-leb, leb-true}
use Rattle.tabled_text.proofs.Names.{length, length-append, lines_of, list_all, lit<, lt-leb, map, nat_le, ne_eqb, needed, nil_from_length}
use Rattle.tabled_text.proofs.Names.{or_cases, pending, refl, replicate, unit_or_filler, slice_split_none, subst, sum_by-cons, sym, text_columns}
use Rattle.tabled_text.proofs.Names.{true, unicode_width, unit_of_char, units, units_of_words, used_after, words_of, written_line, ℕ}
use Rattle.tabled_text.proofs.Names.{⊎_elim, ◌++◌, ◌+◌, ◌-◌, ◌<◌, ◌==◌, ◌||◌, ◌∙◌, ◌∷◌, ◌≡◌, ◌≤◌}
use Rattle.std.specs.Char.{encode_utf8}
use Rattle.tabled_text.proofs.Basics.{all-halves, cond-cases}
use Rattle.tabled_text.proofs.Bridge.{lines_of-chars, lines_of-feedless, lines_of-one, text_columns-nil, text_columns-one}
use Rattle.tabled_text.proofs.CountBound.{count-some}
use Rattle.tabled_text.proofs.CutLemmas.{IsScalar-first, Walked, chars-push}
use Rattle.tabled_text.proofs.CutWhole.{IsReached-counted}
use Rattle.tabled_text.proofs.Filling.{append_all-append, append_all-breaks, append_text-fits, needed-le-line, not_empty}
use Rattle.tabled_text.proofs.LetterBytes.{letter-encoded, letters-counted, letters-exact, letters-line}
use Rattle.tabled_text.proofs.Pieces.{Taken, fitted, map-append, piece-written}
use Rattle.tabled_text.proofs.Searched.{all-chars}
use Rattle.tabled_text.proofs.WordBreaks.{needed-narrow, wide-word}
use Rattle.tabled_text.proofs.WrapKept.{line-short}

-- ---- the front of a text, as a loop over characters takes it off

pub letters-taken : (n columns : ℕ) {text front rest : List ℕ} → text ≡ front ++ rest → IsUtf8 front → IsUtf8 rest
    → AreLetters front columns → columns ≤ n → Taken n text columns rest
letters-taken n columns {text} {front} {rest} parts utf8 after h le = record {
  front = front;
  is = record { parts = parts; utf8 = utf8; rest_utf8 = after; counted = sym (letters-counted front columns utf8 h).counts; fits = le };
}

pub letters-walked : (n columns : ℕ) {text front rest : List ℕ} → text ≡ front ++ rest → IsUtf8 front → AreLetters front columns
    → columns ≤ n → Walked n text rest columns
letters-walked n columns {text} {front} {rest} parts utf8 h le =
    let counts = (letters-counted front columns utf8 h).counts in
    let last : last_line (chars front) ≡ chars front = ap last_of (lines_of-feedless (chars front) (letters-line front columns utf8 h).feedless) in
    record {
      front = front;
      parts = parts;
      utf8 = utf8;
      columns_are = sym (ap count_of last ∙ counts);
      reached = IsReached-counted n (chars front) (omega (arith, counts));
    }

-- ---- pieces

-- a character needs a column
pub needed-some : (n c : ℕ) → 0 < n → 1 ≤ needed n (unit_of_char c)
needed-some n c pos = cond-cases (λ k. 1 ≤ k) (nat_le (char_count c) n) (char_count c) 1 (λ _. count-some c) (λ _. omega arith)

-- characters that fit are a line, if the next one does not fit
filled : (n : ℕ) (front cs : List ℕ) (c : ℕ) → 0 < n → count_of front ≤ n → n < count_of front + needed n (unit_of_char c)
    → append_all n 0 (map unit_of_char (front ++ c ∷ cs)) ≡ front ++ 10 ∷ append_all n 0 (map unit_of_char (c ∷ cs))
filled n front cs c some le wide =
    let us = map unit_of_char (c ∷ cs) in
    let fit = fitted n 0 front (omega arith) in
    ap (append_all n 0) (map-append front (c ∷ cs))
    ∙ append_all-append n 0 (map unit_of_char front) us
    ∙ ap (λ l. l ++ append_all n (used_after n 0 (map unit_of_char front)) us) fit.text
    ∙ ap (λ k. front ++ append_all n k us) fit.used_is
    ∙ ap (λ l. front ++ l) (append_all-breaks n (0 + count_of front) (unit_of_char c) (map unit_of_char cs) some (omega arith))

-- what is written where the first line has the characters fs
line-more : (n : ℕ) (text front rest fs : List ℕ)
    → append_all n 0 (map unit_of_char (chars text)) ≡ fs ++ 10 ∷ append_all n 0 (map unit_of_char (chars rest))
    → encode_utf8_all fs ≡ front → written_line n false text ≡ front ++ 10 ∷ written_line n false rest
line-more n text front rest fs whole e =
    let more = append_all n 0 (map unit_of_char (chars rest)) in
    ap encode_utf8_all whole ∙ encodes-append fs (10 ∷ more) ∙ ap (λ l. l ++ (encode_utf8 10 ++ encode_utf8_all more)) e
    ∙ ap (λ feed. front ++ (feed ++ encode_utf8_all more)) (encode_ascii 10 (lit< tt))

-- a piece with more after it
record IsFirstPiece (n : ℕ) (text piece rest : List ℕ) : Type 0 where
  some : 0 < length piece
  written : written_line n false text ≡ piece ++ 10 ∷ written_line n false rest

module _ (n columns : ℕ) (text piece rest : List ℕ) (h : list_all is_letter_byte text ≡ true) (p : IsPiece n text piece columns rest)
    (pos : 0 < n) (wide : n ≤ 1 → 0 < columns) (most : (c : ℕ) (cs : List ℕ) → chars rest ≡ c ∷ cs → n < columns + char_count c) where
  both : (list_all is_letter_byte piece ≡ true) × (list_all is_letter_byte rest ≡ true)
  both = all-halves is_letter_byte piece rest (ap (list_all is_letter_byte) (sym p.parts) ∙ h)

  last-piece : chars rest ≡ [] → written_line n false text ≡ piece
  last-piece e =
      sym (sym (append-nil piece) ∙ ap (λ l. piece ++ encode_utf8_all (append_all n (0 + columns) (map unit_of_char l))) (sym e)
      ∙ piece-written n n 0 columns text piece rest p (omega arith))

  first-piece : (cs : List ℕ) → chars rest ≡ cs → (cs ≡ [] → ⊥) → IsFirstPiece n text piece rest
  first-piece [] e ne = absurd (ne refl)
  first-piece (c ∷ cs) e ne =
      let counted = p.counted in
      let fits = p.fits in
      let far = most c cs e in
      let bytes : rest ≡ encode_utf8 c ++ encode_utf8_all cs = sym (encodes-chars rest p.rest_utf8) ∙ ap encode_utf8_all e in
      let own = letter-encoded c
      (all-halves is_letter_byte (encode_utf8 c) (encode_utf8_all cs) (ap (list_all is_letter_byte) (sym bytes) ∙ both.1)).0 in
      let few : char_count c ≤ 2 = let columns_are = own.columns in let narrow = own.few in omega arith in
      let need : n < columns + needed n (unit_of_char c) = elim (cases_lt n (char_count c)) [
        | inl over ↦ let some = wide (omega arith) in omega (arith, needed-some n c pos)
        | inr le ↦ omega (arith, needed-narrow n (unit_of_char c) le)
      ] in
      let whole : append_all n 0 (map unit_of_char (chars text)) ≡ chars piece ++ 10 ∷ append_all n 0 (map unit_of_char (chars rest)) =
      ap (λ l. append_all n 0 (map unit_of_char l)) (ap chars p.parts ∙ chars-append piece rest p.utf8 ∙ ap (λ l. chars piece ++ l) e)
      ∙ filled n (chars piece) cs c pos (omega arith) (omega arith)
      ∙ ap (λ l. chars piece ++ 10 ∷ append_all n 0 (map unit_of_char l)) (sym e) in
      record {
        some = elim (cases_lt 0 (length piece)) [
          | inl some ↦ some
          | inr none ↦
              let nothing : count_of (chars piece) ≡ 0 = ap (λ l. count_of (chars l)) (nil_from_length piece (omega arith))
              ∙ ap count_of chars-nil in
              elim (cases_lt 1 n) [
                | inl big ↦ absurd (omega arith)
                | inr small ↦ absurd (let some = wide small in omega arith)
              ]
        ];
        written = line-more n text piece rest (chars piece) whole (encodes-chars piece p.utf8);
      }

  pub letter-piece : IsLetterLine n text piece columns rest
  letter-piece =
      let exact = letters-exact piece p.utf8 both.0 in
      let first : 0 < length rest → IsFirstPiece n text piece rest =
      λ some. first-piece (chars rest) refl (not_empty rest p.rest_utf8 (λ z. omega arith)) in
      record {
        takes = sym exact.counted ∙ sym p.counted;
        one = exact.one;
        last = λ z. last-piece (ap chars (nil_from_length rest z) ∙ chars-nil);
        more = λ some. (first some).written;
        shorter = λ some. omega (arith, ap length p.parts, length-append piece rest, (first some).some);
        letters = both.1;
        utf8 = p.rest_utf8;
      }

-- ---- lines of one column, each of which has one letter or U+FFFD in its place

pub single : (c : ℕ) → (append_text 1 0 (unit_of_char c) ≡ unit_or_filler 1 0 (unit_of_char c)) × (append_used 1 0 (unit_of_char c) ≡ 0 + char_count c)
single c =
    let few = needed-le-line 1 (unit_of_char c) (lit< tt) in
    append_text-fits 1 0 (unit_of_char c) (le-leb (0 + needed 1 (unit_of_char c)) 1 (omega arith))

single-more : (c d : ℕ) (us : List TextUnit)
    → append_all 1 0 (unit_of_char c ∷ unit_of_char d ∷ us) ≡ unit_or_filler 1 0 (unit_of_char c) ++ 10 ∷ append_all 1 0 (unit_of_char d ∷ us)
single-more c d us =
    let rest = unit_of_char d ∷ us in
    let used = (single c).1 in
    let need = needed-some 1 d (lit< tt) in
    ap (λ l. l ++ append_all 1 (append_used 1 0 (unit_of_char c)) rest) (single c).0
    ∙ ap (λ l. unit_or_filler 1 0 (unit_of_char c) ++ l)
    (append_all-breaks 1 (append_used 1 0 (unit_of_char c)) (unit_of_char d) us (lit< tt) (omega (arith, used, count-some c, need)))

-- nothing is one empty line
pub letter-none : (n : ℕ) (text : List ℕ) → IsUtf8 text → chars text ≡ [] → IsLetterLine n text text 0 text
letter-none n text u e =
    let none : text ≡ [] = sym (encodes-chars text u) ∙ ap encode_utf8_all e in
    subst (λ t. IsLetterLine n t t 0 t) (sym none) record {
      takes = text_columns-nil;
      one = refl;
      last = λ _. ap (λ cs. encode_utf8_all (append_all n 0 (map unit_of_char cs))) chars-nil;
      more = λ some. absurd (omega arith);
      shorter = λ some. absurd (omega arith);
      letters = refl;
      utf8 = IsUtf8-nil;
    }

record IsReplacement (bytes : List ℕ) : Type 0 where
  is : encode_utf8_all (replicate (1 - 0) 0xFFFD) ≡ bytes
  takes : text_columns bytes ≡ 1
  one : length (lines_of bytes) ≡ 1

replaced : IsReplacement (0xEF ∷ 0xBF ∷ 0xBD ∷ [])
unfolding unicode_width
replaced = record { is = refl; takes = refl; one = refl }

module _ (count : ℕ) (text after : List ℕ) (u : IsUtf8 text) (h : list_all is_letter_byte text ≡ true)
    (b : BeginsBy (λ c. count ≡ char_count c) text after) where
  halves : (list_all is_letter_byte (encode_utf8 b.first) ≡ true) × (list_all is_letter_byte after ≡ true)
  halves = all-halves is_letter_byte (encode_utf8 b.first) after (ap (list_all is_letter_byte) (sym b.parts) ∙ h)

  line-single : (front : List ℕ) → encode_utf8_all (unit_or_filler 1 0 (unit_of_char b.first)) ≡ front → text_columns front ≡ 1
      → length (lines_of front) ≡ 1 → IsLetterLine 1 text front 1 after
  line-single front e takes one =
      let c = b.first in
      let utf8 = IsUtf8-past_char text after c u b.parts in
      record {
        takes = takes;
        one = one;
        last = λ z. ap (λ cs. encode_utf8_all (append_all 1 0 (map unit_of_char cs)))
            (b.characters ∙ ap (λ l. c ∷ l) (ap chars (nil_from_length after z) ∙ chars-nil))
            ∙ ap encode_utf8_all (append-nil (append_text 1 0 (unit_of_char c)) ∙ (single c).0) ∙ e;
        more = λ some. by_after (chars after) refl (not_empty after utf8 (λ z. omega arith));
        shorter = λ _. b.shorter;
        letters = halves.1;
        utf8 = utf8;
      }
    where
      by_after : (cs : List ℕ) → chars after ≡ cs → (cs ≡ [] → ⊥) → written_line 1 false text ≡ front ++ 10 ∷ written_line 1 false after
      by_after [] q ne = absurd (ne refl)
      by_after (d ∷ ds) q ne =
          line-more 1 text front after (unit_or_filler 1 0 (unit_of_char b.first))
          (ap (λ l. append_all 1 0 (map unit_of_char l)) (b.characters ∙ ap (λ l. b.first ∷ l) q)
          ∙ single-more b.first d (map unit_of_char ds)
          ∙ ap (λ l. unit_or_filler 1 0 (unit_of_char b.first) ++ 10 ∷ append_all 1 0 (map unit_of_char l)) (sym q)) e

  -- a letter of one column
  pub letter-alone : (front : List ℕ) → front ≡ encode_utf8 b.first → count ≤ 1 → IsLetterLine 1 text front 1 after
  letter-alone front f le =
      let c = b.first in
      let is = b.is in
      let some = count-some c in
      let scalar = IsScalar-first text c (chars after) u b.characters in
      let utf8 = subst IsUtf8 (sym f) (IsUtf8-encode c scalar) in
      let exact = letters-exact front utf8 (ap (list_all is_letter_byte) f ∙ halves.0) in
      let one : chars front ≡ c ∷ [] = ap chars f ∙ chars-push [] c IsUtf8-nil scalar ∙ ap (λ l. l ++ c ∷ []) chars-nil in
      line-single front
      (ap (λ t. encode_utf8_all (cond t (c ∷ []) (replicate (1 - 0) 0xFFFD))) (le-leb (char_count c) 1 (omega arith))
      ∙ append-nil (encode_utf8 c) ∙ sym f)
      (omega (arith, exact.counted, ap count_of one, sum_by-cons char_count c [])) exact.one

  -- U+FFFD for a wider one
  pub letter-replaced : 1 < count → IsLetterLine 1 text (0xEF ∷ 0xBF ∷ 0xBD ∷ []) 1 after
  letter-replaced wide =
      let c = b.first in
      let is = b.is in
      line-single (0xEF ∷ 0xBF ∷ 0xBD ∷ [])
      (ap (λ t. encode_utf8_all (cond t (c ∷ []) (replicate (1 - 0) 0xFFFD))) (lt-leb (char_count c) 1 (omega arith)) ∙ replaced.is)
      replaced.takes replaced.one

-- ---- whole texts

some-counted : (cs : List ℕ) → 0 < count_of cs → 0 < length cs
some-counted [] few = absurd (omega arith)
some-counted (c ∷ cs) few = omega arith

-- letters that are one word are written as if words were not kept
pub written-letters : (n : ℕ) (words : Bool) (text : List ℕ) → IsUtf8 text → list_all is_letter_byte text ≡ true
    → (words ≡ true → words_of (chars text) ≡ chars text ∷ []) → written_line n false text ≡ written_line n words text
written-letters n false text u h w = refl
written-letters n true text u h w =
    let cs = chars text in
    let exact = letters-exact text u h in
    let columns : columns_of cs ≡ count_of cs = sym (exact.counted ∙ text_columns-one text exact.one) in
    elim (cases_lt n (count_of cs)) [
      | inl wide ↦ ap (λ us. encode_utf8_all (append_all n 0 us))
          (sym (ap (units_of_words n) (w refl) ∙ wide-word n cs (omega arith) (some-counted cs (omega arith))))
      | inr le ↦ ap encode_utf8_all (line-short n false cs le ∙ sym (line-short n true cs le))
    ]

-- and they are one line
pub pending-letters : (n : ℕ) (words : Bool) (text : List ℕ) → IsUtf8 text → list_all is_letter_byte text ≡ true
    → written_line n words text ≡ encode_utf8_all (pending n words false (lines_of (chars text)))
pending-letters n words text u h =
    let one : lines_of (chars text) ≡ chars text ∷ [] = lines_of-chars text u ∙ ap (map chars) (lines_of-one text (letters-exact text u h).one) in
    ap encode_utf8_all (sym (append-nil (append_all n 0 (units n words (chars text)))) ∙ ap (pending n words false) (sym one))

-- ---- bytes from a first one on

pub letters-run : (first : ℕ) (bs : List ℕ) → 10 < first → list_all (is_in_range first 255) bs ≡ true
    → list_all is_letter_or_break bs ≡ true → list_all is_letter_byte bs ≡ true
letters-run first [] low r h = refl
letters-run first (b ∷ bs) low r h =
    let own = and_parts (is_in_range first 255 b) (list_all (is_in_range first 255) bs) r in
    let parts = and_parts (is_letter_or_break b) (list_all is_letter_or_break bs) h in
    let above : first ≤ b = leb-true first b (and_parts (nat_le first b) (nat_le b 255) own.0).0 in
    let letter : is_letter_byte b ≡ true = ⊎_elim
    (λ tab. absurd (let e = eqb-true b 9 tab in omega arith))
    (λ other. ⊎_elim (λ feed. absurd (let e = eqb-true b 10 feed in omega arith)) (λ own. own) (or_cases (b == 10) (is_letter_byte b) other))
    (or_cases (b == 9) ((b == 10) || is_letter_byte b) parts.0) in
    and_from (is_letter_byte b) (list_all is_letter_byte bs) letter (letters-run first bs low own.1 parts.1)

spaceless : (bs : List ℕ) → list_all (is_in_range 33 255) bs ≡ true → All (λ b. eqb b 32 ≡ false) bs
spaceless [] h = All-nil (λ b. eqb b 32 ≡ false)
spaceless (b ∷ bs) h =
    let parts = and_parts (is_in_range 33 255 b) (list_all (is_in_range 33 255) bs) h in
    let above : 33 ≤ b = leb-true 33 b (and_parts (nat_le 33 b) (nat_le b 255) parts.0).0 in
    All-cons (λ b. eqb b 32 ≡ false) b bs (ne_eqb b 32 (λ e. omega arith)) (spaceless bs parts.1)

pub one-word : (text : List ℕ) → IsUtf8 text → list_all (is_in_range 33 255) text ≡ true → words_of (chars text) ≡ chars text ∷ []
one-word text u h = slice_split_none (λ b. eqb b 32) (chars text) (all-chars 32 (lit< tt) text u (spaceless text h))
