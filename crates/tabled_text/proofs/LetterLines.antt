-- Letters by their first byte, the first line of letters that are broken where they stand, and what each letter writes.
use Rattle.tabled_text.proofs.Names.{BeginsBy, Bool, Bor, IsLetter, IsLetterLine, IsUtf8, List, None, Some, [], and_from, and_parts, ap}
use Rattle.tabled_text.proofs.Names.{append-nil, append_all, append_used, arith, cases_lt, char_count, chars, cond, count_of}
use Rattle.tabled_text.proofs.Names.{encode_utf8_all, encodes-chars, false, get_or, inl, inr, is_inner_byte, is_letter_byte, is_narrow_lead}
use Rattle.tabled_text.proofs.Names.{is_wide_lead, le-leb, lead_byte, length, lines_of, list_all, lit<, lt-leb, lt-ltb, map, min, nat_lt}
use Rattle.tabled_text.proofs.Names.{nat_tests, needed, nil_from_length, refl, replicate, scalar, subst, sum_by-cons, sym, true}
use Rattle.tabled_text.proofs.Names.{unicode_width, unit_of_char, written_line, ℕ, ◌++◌, ◌+◌, ◌-◌, ◌<◌, ◌∙◌, ◌∷◌, ◌≡◌, ◌≤◌}
use Rattle.std.specs.Char.{encode_utf8}
use Rattle.std.proofs.lemmas.Bool.{ltb-true}
use Rattle.tabled_text.specs.LineEnds.{AreEnds, IsFirstLine, wrapped_text}
use Rattle.tabled_text.specs.declared.line_ends.LineEnds.TheVariants.{Columns}
use Rattle.tabled_text.proofs.Bridge.{lines_of-feed, lines_of-one, text_columns-one}
use Rattle.tabled_text.proofs.CountBound.{count-some}
use Rattle.tabled_text.proofs.Filling.{append_all-breaks, append_text-fits}
use Rattle.tabled_text.proofs.LetterBytes.{letters-exact}
use Rattle.tabled_text.proofs.LetterLemmas.{IsSplitLetter, ascii-length, lead-outer, letter-count, letter-split, narrow-length}
use Rattle.tabled_text.proofs.LetterLemmas.{narrow-letter, wide-length, wide-letter}
use Rattle.tabled_text.proofs.LetterPieces.{letter-piece, letter-replaced, needed-some, single}
use Rattle.tabled_text.proofs.Pieces.{Taken}
use Rattle.tabled_text.proofs.WordBreaks.{needed-narrow}
use Rattle.tabled_text.proofs.WrappedText.{wrapped-counted, wrapped-line}

-- ---- the first of letters, by its first byte

first-all : (test : ℕ → Bool) (xs : List ℕ) → list_all test xs ≡ true → 0 < length xs → test (get_or xs 0 0) ≡ true
first-all test [] h some = absurd (omega arith)
first-all test (x ∷ xs) h some = (and_parts (test x) (list_all test xs) h).0

known-narrow : (lead : ℕ) → is_letter_byte lead ≡ true → is_inner_byte lead ≡ false → lead < 224 → is_narrow_lead lead ≡ true
known-narrow lead h outer low = grind (arith, nat_tests)

known-wide : (lead : ℕ) → is_letter_byte lead ≡ true → is_inner_byte lead ≡ false → 224 ≤ lead → is_wide_lead lead ≡ true
known-wide lead h outer high = grind (arith, nat_tests)

-- letters, by the bytes that are read of them
pub record AreRead (text bytes : List ℕ) : Type 0 where
  pub same : bytes ≡ text
  pub utf8 : IsUtf8 text
  pub letters : list_all is_letter_byte text ≡ true
  pub some : 0 < length text

-- the size and the columns that the first byte says
known : {text bytes : List ℕ} {found : ℕ × ℕ} (size columns : ℕ) → AreRead text bytes → found ≡ (size, columns)
    → ((c : ℕ) → get_or bytes 0 0 ≡ lead_byte c → is_letter_byte (lead_byte c) ≡ true
    → IsLetter c columns × (length (encode_utf8 c) ≡ size)) → IsSplitLetter text found.0 found.1
known {text} {bytes} {found} size columns r is own =
    subst (λ (p : ℕ × ℕ). IsSplitLetter text p.0 p.1) (sym is)
    (letter-split text size columns r.utf8 r.some λ c led.
    own c (ap (λ bs. get_or bs 0 0) r.same ∙ led) (sym (ap is_letter_byte led) ∙ first-all is_letter_byte text r.letters r.some))

pub known-one : {text bytes : List ℕ} {found : ℕ × ℕ} → AreRead text bytes → found ≡ (1, 1) → get_or bytes 0 0 < 128
    → IsSplitLetter text found.0 found.1
known-one r is low = known 1 1 r is λ c led h. (
  narrow-letter c (known-narrow (lead_byte c) h (lead-outer c) (omega arith)),
  ascii-length c (omega arith),
)

pub known-two : {text bytes : List ℕ} {found : ℕ × ℕ} → AreRead text bytes → found ≡ (2, 1) → 128 ≤ get_or bytes 0 0
    → get_or bytes 0 0 < 224 → IsSplitLetter text found.0 found.1
known-two r is high low = known 2 1 r is λ c led h.
    let narrow = known-narrow (lead_byte c) h (lead-outer c) (omega arith) in
    (narrow-letter c narrow, narrow-length c narrow (omega arith))

pub known-three : {text bytes : List ℕ} {found : ℕ × ℕ} → AreRead text bytes → found ≡ (3, 2) → 224 ≤ get_or bytes 0 0
    → IsSplitLetter text found.0 found.1
known-three r is high = known 3 2 r is λ c led h.
    let wide = known-wide (lead_byte c) h (lead-outer c) (omega arith) in
    (wide-letter c wide, wide-length c wide)

-- ---- the first line

pub ends-letters : (n : ℕ) (text : List ℕ) → 0 < n → list_all is_letter_byte text ≡ true → AreEnds (Columns n) text
ends-letters n text pos h = and_from (nat_lt 0 n) (list_all is_letter_byte text) (lt-ltb 0 n pos) h

-- letters whose lines may end after n columns
pub record AreBroken (n : ℕ) (text : List ℕ) : Type 0 where
  pub some : 0 < n
  pub letters : list_all is_letter_byte text ≡ true
  pub one : length (lines_of text) ≡ 1
  pub written : (words : Bool) → wrapped_text n words text ≡ written_line n words text

pub are-broken : (n : ℕ) (text : List ℕ) → IsUtf8 text → AreEnds (Columns n) text → AreBroken n text
are-broken n text u ends =
    let parts = and_parts (nat_lt 0 n) (list_all is_letter_byte text) ends in
    let some = ltb-true 0 n parts.0 in
    let one = (letters-exact text u parts.1).one in
    record { some = some; letters = parts.1; one = one; written = λ words. wrapped-line n words text some u one }

pub first-more : (n columns : ℕ) (text front : List ℕ) (rest : Bor (List ℕ)) → IsUtf8 text → AreEnds (Columns n) text
    → IsLetterLine n text front columns rest.now → 0 < length rest.now → IsFirstLine (Columns n) text front columns (Some rest)
first-more n columns text front rest u ends line some =
    let b = are-broken n text u ends in
    let more = ends-letters n rest.now b.some line.letters in
    let next = written_line n false rest.now in
    record {
      lines = ap lines_of (b.written false ∙ line.more some) ∙ lines_of-feed front next
          ∙ ap (λ ls. ls ++ lines_of next) (lines_of-one front line.one)
          ∙ ap (λ l. front ∷ lines_of l) (sym ((are-broken n rest.now line.utf8 more).written false));
      takes = sym line.takes ∙ text_columns-one front line.one;
      ends_are = more;
    }

pub first-last : (n columns : ℕ) (text front rest : List ℕ) → IsUtf8 text → AreEnds (Columns n) text
    → IsLetterLine n text front columns rest → length rest ≡ 0 → IsFirstLine (Columns n) text front columns None
first-last n columns text front rest u ends line none =
    let b = are-broken n text u ends in
    record {
      lines = ap lines_of (b.written false ∙ line.last none) ∙ lines_of-one front line.one;
      takes = sym line.takes ∙ text_columns-one front line.one;
      ends_are = tt;
    }

-- letters that fit are their first line
pub first-whole : (n columns : ℕ) (text : List ℕ) → IsUtf8 text → AreEnds (Columns n) text → columns ≡ count_of (chars text)
    → columns ≤ n → IsFirstLine (Columns n) text text columns None
first-whole n columns text u ends counted fits =
    let b = are-broken n text u ends in
    let exact = letters-exact text u b.letters in
    record {
      lines = ap lines_of (wrapped-counted n false text b.some u (omega (arith, counted))) ∙ lines_of-one text b.one;
      takes = counted ∙ exact.counted ∙ text_columns-one text b.one;
      ends_are = tt;
    }

-- ---- a loop that takes letters off a text

letter-counts : {c own : ℕ} → IsLetter c own → char_count c ≡ own
letter-counts l = let e = l.columns in let some = l.some in omega arith

counted-none : (cs : List ℕ) → count_of cs ≡ 0 → cs ≡ []
counted-none [] none = refl
counted-none (c ∷ cs) none = absurd (omega (arith, sum_by-cons char_count c cs, count-some c))

taken-none : {n columns : ℕ} (text rest : List ℕ) → Taken n text columns rest → columns ≡ 0 → text ≡ rest
taken-none {n} {columns} text rest t none =
    let p = t.is in
    let e = counted-none (chars t.front) (sym p.counted ∙ none) in
    p.parts ∙ ap (λ l. l ++ rest) (sym (encodes-chars t.front p.utf8) ∙ ap encode_utf8_all e)

pub taken-all : {n columns : ℕ} (text rest : List ℕ) → Taken n text columns rest → length rest ≡ 0 → columns ≡ count_of (chars text)
taken-all {n} {columns} text rest t none =
    let p = t.is in
    let whole : text ≡ t.front = p.parts ∙ ap (λ l. t.front ++ l) (nil_from_length rest none) ∙ append-nil t.front in
    p.counted ∙ ap (λ l. count_of (chars l)) (sym whole)

-- the first letter is wider than a line
pub line-replaced : (n columns own : ℕ) (text rest after : List ℕ) → IsUtf8 text → AreEnds (Columns n) text → Taken n text columns rest
    → columns ≡ 0 → BeginsBy (λ c. IsLetter c own) rest after → n < own → IsLetterLine n text (0xEF ∷ 0xBF ∷ 0xBD ∷ []) 1 after
line-replaced n columns own text rest after u ends t none b wide =
    let broken = are-broken n text u ends in
    let some = broken.some in
    let few = b.is.few in
    let one : n ≡ 1 = omega arith in
    let begins = subst (λ l. BeginsBy (λ c. IsLetter c own) l after) (sym (taken-none text rest t none)) b in
    subst (λ k. IsLetterLine k text (0xEF ∷ 0xBF ∷ 0xBD ∷ []) 1 after) (sym one)
    (letter-replaced own text after u broken.letters (letter-count own text after begins) (omega arith))

-- the next letter does not fit
pub line-full : (n columns own : ℕ) (text rest after : List ℕ) → IsUtf8 text → AreEnds (Columns n) text → (t : Taken n text columns rest)
    → 0 < columns → BeginsBy (λ c. IsLetter c own) rest after → n - columns < own → IsLetterLine n text t.front columns rest
line-full n columns own text rest after u ends t some b far =
    let broken = are-broken n text u ends in
    letter-piece n columns text t.front rest broken.letters t.is broken.some (λ _. some) λ d ds e.
    let same : b.first ≡ d = ap (λ l. get_or l 0 0) (sym b.characters ∙ e) in
    omega (arith, letter-counts b.is, ap char_count same)

-- ---- letter after letter

-- what letters write of which the first begins at a column
abbrev pub walked : ℕ → ℕ → List ℕ → List ℕ
walked n columns cs = append_all n columns (map unit_of_char cs)

-- after a full line it does not matter by how much its last unit passes it
walked-full : (n used : ℕ) (cs : List ℕ) → 0 < n → n ≤ used → walked n used cs ≡ walked n n cs
walked-full n used [] pos le = refl
walked-full n used (c ∷ cs) pos le =
    append_all-breaks n used (unit_of_char c) (map unit_of_char cs) pos (omega (arith, needed-some n c pos))
    ∙ sym (append_all-breaks n n (unit_of_char c) (map unit_of_char cs) pos (omega (arith, needed-some n c pos)))

-- the columns that a letter needs
letter-needed : (n own c : ℕ) → 0 < n → IsLetter c own → needed n (unit_of_char c) ≡ min own n
letter-needed n own c pos l =
    let few = l.few in
    let count = letter-counts l in
    elim (cases_lt n own) [
      | inl over ↦
          let one : needed n (unit_of_char c) ≡ 1 = ap (λ b. cond b (char_count c) 1) (lt-leb (char_count c) n (omega arith)) in
          omega arith
      | inr le ↦ omega (arith, needed-narrow n (unit_of_char c) (omega arith))
    ]

-- what a letter shows that fits into its line: itself or U+FFFD
pub record IsShown (n columns own c : ℕ) : Type 0 where
  pub shows : ℕ
  pub letter : IsLetter shows (min own n)
  pub scalar_if : scalar c ≡ true → scalar shows ≡ true
  pub next : (cs : List ℕ) → walked n columns (c ∷ cs) ≡ shows ∷ walked n (columns + min own n) cs

replacement : IsLetter 0xFFFD 1
unfolding unicode_width
replacement = record { simple = refl; columns = refl; some = lit< tt; few = lit< tt }

-- a wide letter in a line of one column
replaced : (c : ℕ) (cs : List ℕ) → char_count c ≡ 2 → walked 1 0 (c ∷ cs) ≡ 0xFFFD ∷ walked 1 1 cs
replaced c cs wide =
    let one = single c in
    let used : append_used 1 0 (unit_of_char c) ≡ 2 = omega (arith, one.1) in
    ap (λ l. l ++ walked 1 (append_used 1 0 (unit_of_char c)) cs)
    (one.0 ∙ ap (λ b. cond b (c ∷ []) (replicate (1 - 0) 0xFFFD)) (lt-leb (char_count c) 1 (omega arith)))
    ∙ ap (λ k. 0xFFFD ∷ walked 1 k cs) used ∙ ap (λ l. 0xFFFD ∷ l) (walked-full 1 2 cs (lit< tt) (lit< tt))

pub letter-shown : (n columns own c : ℕ) → 0 < n → IsLetter c own → columns + min own n ≤ n → IsShown n columns own c
letter-shown n columns own c pos l fits =
    let few = l.few in
    let count = letter-counts l in
    elim (cases_lt n own) [
      | inl over ↦
          let one : n ≡ 1 = omega arith in
          let none : columns ≡ 0 = omega arith in
          let two : own ≡ 2 = omega arith in
          subst (λ n. IsShown n columns own c) (sym one)
          (subst (λ columns. IsShown 1 columns own c) (sym none)
          (subst (λ own. IsShown 1 0 own c) (sym two) record {
            shows = 0xFFFD;
            letter = replacement;
            scalar_if = λ _. refl;
            next = λ cs. replaced c cs (count ∙ two);
          }))
      | inr le ↦
          let own_is : min own n ≡ own = omega arith in
          let needs = needed-narrow n (unit_of_char c) (omega arith) in
          let put = append_text-fits n columns (unit_of_char c) (le-leb (columns + needed n (unit_of_char c)) n (omega arith)) in
          let used : append_used n columns (unit_of_char c) ≡ columns + min own n = omega (arith, put.1) in
          record {
            shows = c;
            letter = subst (IsLetter c) (sym own_is) l;
            scalar_if = λ s. s;
            next = λ cs.
                ap (λ l. l ++ walked n (append_used n columns (unit_of_char c)) cs)
                (put.0 ∙ ap (λ b. cond b (c ∷ []) (replicate (n - columns) 0xFFFD)) (le-leb (char_count c) n (omega arith)))
                ∙ ap (λ k. c ∷ walked n k cs) used;
          }
    ]

pub letter-breaks : (n columns own c : ℕ) (cs : List ℕ) → 0 < n → IsLetter c own → n < columns + min own n
    → walked n columns (c ∷ cs) ≡ 10 ∷ walked n 0 (c ∷ cs)
letter-breaks n columns own c cs pos l far =
    append_all-breaks n columns (unit_of_char c) (map unit_of_char cs) pos (omega (arith, letter-needed n own c pos l))
