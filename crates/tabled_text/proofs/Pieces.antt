-- Printable ASCII, whose characters are its bytes and take a column each, broken between bytes.
use Rattle.tabled_text.proofs.Names.{All, All-cons, All-nil, BeginsBy, Bool, IsParted, IsPiece, IsReached, IsUtf8-append, IsUtf8-encode}
use Rattle.tabled_text.proofs.Names.{IsUtf8-from_ascii, IsUtf8-past_char, List, TextUnit, [], and_parts, ap, append-nil, append_all}
use Rattle.tabled_text.proofs.Names.{append_assoc, append_used, arith, char_count, chars, chars-append, cond, count_of, drop, encode_utf8}
use Rattle.tabled_text.proofs.Names.{encode_utf8_all, encodes-append, encodes-chars, false, is_in_range, last_line, last_of, le-leb, length}
use Rattle.tabled_text.proofs.Names.{length-drop, length-take-le, lines_of, list_all, map, max, nat_le, nat_tests, needed, pending, refl}
use Rattle.tabled_text.proofs.Names.{replicate, subst, sum_by-cons, sym, take, take-append-drop, true, unit_of_char, units, used_after, ℕ}
use Rattle.tabled_text.proofs.Names.{◌++◌, ◌+◌, ◌-◌, ◌<◌, ◌∙◌, ◌∷◌, ◌≡◌, ◌≤◌}
use Rattle.std.specs.Str.{IsAscii}
use Rattle.std.proofs.lemmas.Str.{chars-IsAscii}
use Rattle.std.proofs.lemmas.Str.Ascii.{IsAscii-cons, IsAscii-nil}
use Rattle.tabled_text.proofs.Basics.{all-parts}
use Rattle.tabled_text.proofs.CountBound.{count-some}
use Rattle.tabled_text.proofs.CutLemmas.{IsParted-full, IsScalar-first, Walked, chars-push, count_of-push, more_bytes}
use Rattle.tabled_text.proofs.Filling.{append_all-append, append_all-breaks, append_text-fits}
use Rattle.tabled_text.proofs.LetterLemmas.{columns-printable}
use Rattle.tabled_text.proofs.PlainLines.{one_line, plain_line-printable}

abbrev pub is_printable : List ℕ → Bool
is_printable bytes = list_all (is_in_range 0x20 0x7E) bytes

pub IsAscii-printable : (bytes : List ℕ) → is_printable bytes ≡ true → IsAscii bytes
IsAscii-printable [] h = IsAscii-nil
IsAscii-printable (b ∷ bytes) h =
    let parts = and_parts (is_in_range 0x20 0x7E b) (is_printable bytes) h in
    let small : b < 128 = grind (arith, nat_tests) in
    IsAscii-cons b bytes small (IsAscii-printable bytes parts.1)

pub chars-printable : (bytes : List ℕ) → is_printable bytes ≡ true → chars bytes ≡ bytes
chars-printable bytes h = chars-IsAscii bytes (IsAscii-printable bytes h)

pub count-printable : (c : ℕ) → is_in_range 0x20 0x7E c ≡ true → char_count c ≡ 1
count-printable c h = ap (max 1) (columns-printable c h)

pub count_of-printable : (cs : List ℕ) → is_printable cs ≡ true → count_of cs ≡ length cs
count_of-printable [] h = refl
count_of-printable (c ∷ cs) h =
    let parts = and_parts (is_in_range 0x20 0x7E c) (is_printable cs) h in
    omega (arith, sum_by-cons char_count c cs, count-printable c parts.0, count_of-printable cs parts.1)

-- characters that count at most the columns left are written as they are
pub record Fitted (n used : ℕ) (cs : List ℕ) : Type 0 where
  pub text : append_all n used (map unit_of_char cs) ≡ cs
  pub used_is : used_after n used (map unit_of_char cs) ≡ used + count_of cs

pub fitted : (n used : ℕ) (cs : List ℕ) → count_of cs ≤ n - used → Fitted n used cs
fitted n used [] le = record { text = refl; used_is = omega arith }
fitted n used (c ∷ cs) le =
    let sum = sum_by-cons char_count c cs in
    let some = count-some c in
    let own = le-leb (char_count c) n (omega arith) in
    let need : needed n (unit_of_char c) ≡ char_count c = ap (λ b. cond b (char_count c) 1) own in
    let put = append_text-fits n used (unit_of_char c) (le-leb (used + needed n (unit_of_char c)) n (omega (arith, need))) in
    let more = fitted n (used + char_count c) cs (omega arith) in
    let far : used + char_count c + count_of cs ≡ used + count_of (c ∷ cs) = omega arith in
    record {
      text = ap (λ l. l ++ append_all n (append_used n used (unit_of_char c)) (map unit_of_char cs))
          (put.0 ∙ ap (λ b. cond b (c ∷ []) (replicate (n - used) 0xFFFD)) own)
          ∙ ap (λ k. c ∷ append_all n k (map unit_of_char cs)) put.1 ∙ ap (λ l. c ∷ l) more.text;
      used_is = ap (λ k. used_after n k (map unit_of_char cs)) put.1 ∙ more.used_is ∙ far;
    }

-- a line begins after a full one
broken-one : (n : ℕ) (cs : List ℕ) (us : List TextUnit) → 0 < n → is_printable cs ≡ true → 0 < length cs
    → append_all n n (map unit_of_char cs ++ us) ≡ 10 ∷ append_all n 0 (map unit_of_char cs ++ us)
broken-one n [] us some h l = absurd (omega arith)
broken-one n (c ∷ cs) us some h l =
    let one = count-printable c (and_parts (is_in_range 0x20 0x7E c) (is_printable cs) h).0 in
    let need : needed n (unit_of_char c) ≡ 1 = ap (λ k. cond (nat_le k n) k 1) one ∙ ap (λ b. cond b 1 1) (le-leb 1 n some) in
    append_all-breaks n n (unit_of_char c) (map unit_of_char cs ++ us) some (omega (arith, need))

pub map-append : (xs ys : List ℕ) → map unit_of_char (xs ++ ys) ≡ map unit_of_char xs ++ map unit_of_char ys
map-append [] ys = refl
map-append (x ∷ xs) ys = ap (λ l. unit_of_char x ∷ l) (map-append xs ys)

used_after-append : (n used : ℕ) (xs ys : List TextUnit) → used_after n used (xs ++ ys) ≡ used_after n (used_after n used xs) ys
used_after-append n used [] ys = refl
used_after-append n used (x ∷ xs) ys = used_after-append n (append_used n used x) xs ys

-- ---- a piece of a text

-- a loop has taken a piece off the text
pub record Taken (n : ℕ) (text : List ℕ) (columns : ℕ) (rest : List ℕ) : Type 0 where
  pub front : List ℕ
  pub is : IsPiece n text front columns rest

pub Taken-more : (n : ℕ) (text : List ℕ) (columns count : ℕ) (rest after : List ℕ) → Taken n text columns rest
    → BeginsBy (λ c. count ≡ char_count c) rest after → columns + count ≤ n → Taken n text (columns + count) after
Taken-more n text columns count rest after t b le =
    let p = t.is in
    let c = b.first in
    let s = IsScalar-first rest c (chars after) p.rest_utf8 b.characters in
    record {
      front = t.front ++ encode_utf8 c;
      is = record {
        parts = more_bytes text t.front rest after c p.parts b.parts;
        utf8 = IsUtf8-append t.front (encode_utf8 c) p.utf8 (IsUtf8-encode c s);
        rest_utf8 = IsUtf8-past_char rest after c p.rest_utf8 b.parts;
        counted = omega (arith, p.counted, b.is, ap count_of (chars-push t.front c p.utf8 s), count_of-push (chars t.front) c);
        fits = le;
      };
    }

-- what is used and written of a piece and of what follows
module _ (n m used columns : ℕ) (text piece rest : List ℕ) (p : IsPiece m text piece columns rest) (room : m ≤ n - used) where
  spelled-text : map unit_of_char (chars text) ≡ map unit_of_char (chars piece) ++ map unit_of_char (chars rest)
  spelled-text = ap (λ l. map unit_of_char (chars l)) p.parts ∙ ap (map unit_of_char) (chars-append piece rest p.utf8) ∙ map-append (chars piece) (chars rest)

  fits-piece : Fitted n used (chars piece)
  fits-piece = let e = p.counted in let le = p.fits in fitted n used (chars piece) (omega arith)

  used-piece : used_after n used (map unit_of_char (chars piece)) ≡ used + columns
  used-piece = fits-piece.used_is ∙ ap (λ k. used + k) (sym p.counted)

  pub piece-used : used_after n used (map unit_of_char (chars text)) ≡ used_after n (used + columns) (map unit_of_char (chars rest))
  piece-used =
      ap (used_after n used) spelled-text ∙ used_after-append n used (map unit_of_char (chars piece)) (map unit_of_char (chars rest))
      ∙ ap (λ k. used_after n k (map unit_of_char (chars rest))) used-piece

  pub piece-written : piece ++ encode_utf8_all (append_all n (used + columns) (map unit_of_char (chars rest)))
      ≡ encode_utf8_all (append_all n used (map unit_of_char (chars text)))
  piece-written =
      let next = append_all n (used + columns) (map unit_of_char (chars rest)) in
      let whole : append_all n used (map unit_of_char (chars text)) ≡ chars piece ++ next =
      ap (append_all n used) spelled-text ∙ append_all-append n used (map unit_of_char (chars piece)) (map unit_of_char (chars rest))
      ∙ ap (λ l. l ++ append_all n (used_after n used (map unit_of_char (chars piece))) (map unit_of_char (chars rest))) fits-piece.text
      ∙ ap (λ k. chars piece ++ append_all n k (map unit_of_char (chars rest))) used-piece in
      ap (λ l. l ++ encode_utf8_all next) (sym (encodes-chars piece p.utf8)) ∙ sym (encodes-append (chars piece) next) ∙ ap encode_utf8_all (sym whole)

-- ---- printable ASCII in pieces

-- characters fill up a line from column k on, and those after them begin the next one
pub filled-line : (n k m : ℕ) (cs : List ℕ) (us : List TextUnit) → 0 < n → k + m ≡ n → is_printable cs ≡ true → m < length cs
    → append_all n k (map unit_of_char cs ++ us) ≡ take m cs ++ 10 ∷ append_all n 0 (map unit_of_char (drop m cs) ++ us)
filled-line n k m cs us some e h long =
    let front = take m cs in
    let back = drop m cs in
    let more = map unit_of_char back ++ us in
    let parts = all-parts (is_in_range 0x20 0x7E) m cs h in
    let len : length front ≡ m = length-take-le m cs (omega arith) in
    let count = count_of-printable front parts.0 in
    let fit = fitted n k front (omega arith) in
    let full : used_after n k (map unit_of_char front) ≡ n = let used = fit.used_is in omega arith in
    let left : 0 < length back = omega (arith, length-drop m cs) in
    ap (λ l. append_all n k (map unit_of_char l ++ us)) (sym (take-append-drop m cs))
    ∙ ap (λ l. append_all n k (l ++ us)) (map-append front back)
    ∙ ap (append_all n k) (append_assoc (map unit_of_char front) (map unit_of_char back) us)
    ∙ append_all-append n k (map unit_of_char front) more
    ∙ ap (λ l. l ++ append_all n (used_after n k (map unit_of_char front)) more) fit.text
    ∙ ap (λ j. front ++ append_all n j more) full
    ∙ ap (λ l. front ++ l) (broken-one n back us some parts.1 left)

-- a text of printable ASCII is one line
pub pending-printable : (n : ℕ) (words : Bool) (text : List ℕ) → is_printable text ≡ true
    → encode_utf8_all (append_all n 0 (units n words (chars text))) ≡ encode_utf8_all (pending n words false (lines_of (chars text)))
pending-printable n words text h =
    ap encode_utf8_all (sym (append-nil (append_all n 0 (units n words (chars text))))
    ∙ ap (pending n words false) (sym (one_line (chars text) (plain_line-printable text h).characters)))

-- ---- cut

printable-line : (cs : List ℕ) → is_printable cs ≡ true → lines_of cs ≡ cs ∷ []
printable-line cs h = subst (λ l. lines_of l ≡ l ∷ []) (chars-printable cs h) (one_line (chars cs) (plain_line-printable cs h).characters)

last-printable : (cs : List ℕ) → is_printable cs ≡ true → count_of (last_line cs) ≡ length cs
last-printable cs h = ap (λ ls. count_of (last_of ls)) (printable-line cs h) ∙ count_of-printable cs h

reached-printable : (n : ℕ) (cs : List ℕ) → is_printable cs ≡ true → length cs ≤ n → IsReached n cs
reached-printable n cs h le = record {
  fits = subst (All (λ line. count_of line ≤ n)) (sym (printable-line cs h))
      (All-cons (λ line. count_of line ≤ n) cs [] (omega (arith, count_of-printable cs h)) (All-nil (λ line. count_of line ≤ n)));
  shorter = λ k l. omega
      (arith, last-printable (take k cs) (all-parts (is_in_range 0x20 0x7E) k cs h).0, length-take-le k cs (omega arith));
}

walked-printable : (n : ℕ) (text : List ℕ) → is_printable (take n text) ≡ true → n ≤ length text → Walked n text (drop n text) n
walked-printable n text h within =
    let cs = take n text in
    let len : length cs ≡ n = length-take-le n text within in
    let same : chars cs ≡ cs = chars-printable cs h in
    record {
      front = cs;
      parts = sym (take-append-drop n text);
      utf8 = IsUtf8-from_ascii cs (IsAscii-printable cs h);
      columns_are = sym (ap (λ l. count_of (last_line l)) same ∙ last-printable cs h ∙ len);
      reached = subst (IsReached n) (sym same) (reached-printable n cs h (omega arith));
    }

-- the first n bytes of a longer text, if they are printable
pub parted-printable : (n : ℕ) (text front after : List ℕ) → n ≤ length text → is_printable (take n text) ≡ true
    → front ≡ take n text → after ≡ drop n text → IsParted n (chars text) (chars front) 0 (chars after)
unfolding walked-printable
parted-printable n text front after within h f a =
    subst (λ l. IsParted n (chars text) (chars front) 0 (chars l)) (sym a) (IsParted-full front (walked-printable n text h within) refl f)
