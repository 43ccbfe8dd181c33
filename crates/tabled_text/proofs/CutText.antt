-- The cut text as a function of the text, and what is left of letters.
use Rattle.tabled_text.proofs.Names.{AreLetters, IsCut, IsLetter, IsLongestReached, IsParted, IsReached, IsUtf8}
use Rattle.tabled_text.proofs.Names.{IsUtf8-append, IsUtf8-encode, IsUtf8-past_char, List, [], and_from, ap, append-nil, append_assoc, arith}
use Rattle.tabled_text.proofs.Names.{cases_Bool, chars-append, get_or, is_no_feed, unicode_width, line_columns, lit<, suc, zero, char_columns, char_count, chars, chars-encodes, cond, count_of, encode_utf8, encode_utf8_all, eqb-false}
use Rattle.tabled_text.proofs.Names.{eqb-true, is_simple, last_line, last_of, length, lines_of, list_all, list_all-append, missing_columns}
use Rattle.tabled_text.proofs.Names.{nat_lt, nat_tests, refl, replicate, scalar, scalars, scalars-chars, subst, sum_by_push, sym, text_columns, true, ℕ, ⊎_elim}
use Rattle.tabled_text.proofs.Names.{◌++◌, ◌+◌, ◌-◌, ◌<◌, ◌==◌, ◌∙◌, ◌∷◌, ◌≡◌, ◌≤◌, BeginsBy}
use Rattle.tabled_text.proofs.Basics.{all-halves, list_all-copies}
use Rattle.tabled_text.proofs.Bridge.{lines_of-feedless, lines_of-one, list_all-scalars}
use Rattle.tabled_text.proofs.CutLemmas.{All-last_line, IsCut-filled, IsParted-full, IsParted-wide, IsReached-feed, IsReached-nil, IsReached-push, IsScalar-first}
use Rattle.tabled_text.proofs.CutLemmas.{Walked, chars-push, count_of-push, front_boundary, front_taken, last_line-feed, last_line-push}
use Rattle.tabled_text.proofs.CutLemmas.{longest_at_end, longest_at_full, longest_at_wide, more_bytes}
use Rattle.tabled_text.proofs.CutOnce.{cut-once}
use Rattle.tabled_text.proofs.CutWhole.{IsReached-counted}
use Rattle.tabled_text.proofs.LetterBytes.{AreCounted, counted-line, letters-counted, line-alone, line-columns, simple-no_feed}
use Rattle.tabled_text.proofs.LetterLemmas.{letter-count}
use Rattle.tabled_text.proofs.LineLaws.{line-each}
use Rattle.tabled_text.specs.Cut.{IsCutAt, cut_behind, cut_text}

-- ---- as a function of the text

-- the longest reached beginning of some characters, and what is left of all
record Cuts (n : ℕ) (whole answer : List ℕ) : Type 0 where
  pub front : List ℕ
  pub rest : List ℕ
  pub longest : IsLongestReached n whole front rest
  pub characters : answer ≡ front ++ replicate (missing_columns n front rest) 0xFFFD

cuts-as : {n : ℕ} {whole whole' answer answer' : List ℕ} → whole ≡ whole' → answer ≡ answer' → Cuts n whole answer → Cuts n whole' answer'
cuts-as {n} {whole} {whole'} {answer} {answer'} e f h = subst (λ w. Cuts n w answer') e (subst (Cuts n whole) f h)

-- what is left behind a reached beginning
cuts-behind : (n used : ℕ) (front cs : List ℕ) → IsReached n front → used ≡ count_of (last_line front)
    → Cuts n (front ++ cs) (front ++ cut_behind n used cs)
cuts-behind n used front [] r e = record {
  front = front;
  rest = [];
  longest = subst (λ w. IsLongestReached n w front []) (sym (append-nil front)) (longest_at_end n front r);
  characters = refl;
}
cuts-behind n used front (c ∷ cs) r e =
    let low : used ≤ n = omega (arith, e, All-last_line (λ l. count_of l ≤ n) front r.fits) in
    let more = cut_behind n (used + char_count c) cs in
    let next = cond (nat_lt n (used + char_count c)) (replicate (n - used) 0xFFFD) (c ∷ more) in
    let other = cond (c == 10) (c ∷ cut_behind n 0 cs) next in
    let step : cut_behind n used (c ∷ cs) ≡ cond (used == n) [] other = refl in
    ⊎_elim
    (λ full.
    let is : used ≡ n = eqb-true used n full in
    let none : n - count_of (last_line front) ≡ 0 = omega (arith, is, e) in
    cuts-as refl (ap (λ t. front ++ t) (sym (step ∙ ap (λ b. cond b [] other) full))) record {
      front = front;
      rest = c ∷ cs;
      longest = longest_at_full n (front ++ c ∷ cs) front (c ∷ cs) refl r (sym e ∙ is);
      characters = ap (λ k. front ++ replicate k 0xFFFD) (sym none);
    })
    (λ open_.
    let ne = eqb-false used n open_ in
    let less : count_of (last_line front) < n = omega (arith, ne, low, e) in
    let behind : cut_behind n used (c ∷ cs) ≡ other = step ∙ ap (λ b. cond b [] other) open_ in
    ⊎_elim
    (λ feed.
    let is : c ≡ 10 = eqb-true c 10 feed in
    cuts-as (append_assoc front (c ∷ []) cs)
    (append_assoc front (c ∷ []) (cut_behind n 0 cs) ∙ ap (λ t. front ++ t) (sym (behind ∙ ap (λ b. cond b (c ∷ cut_behind n 0 cs) next) feed)))
    (cuts-behind n 0 (front ++ c ∷ []) cs (subst (λ y. IsReached n (front ++ y ∷ [])) (sym is) (IsReached-feed n front r less))
    (sym (ap (λ y. count_of (last_line (front ++ y ∷ []))) is ∙ ap count_of (last_line-feed front)))))
    (λ no_feed.
    let ne_feed = eqb-false c 10 no_feed in
    let here : cut_behind n used (c ∷ cs) ≡ next = behind ∙ ap (λ b. cond b (c ∷ cut_behind n 0 cs) next) no_feed in
    ⊎_elim
    (λ wide.
    let past : n < used + char_count c = grind (arith, nat_tests) in
    cuts-as refl (ap (λ t. front ++ t) (sym (here ∙ ap (λ b. cond b (replicate (n - used) 0xFFFD) (c ∷ more)) wide))) record {
      front = front;
      rest = c ∷ cs;
      longest = longest_at_wide n (front ++ c ∷ cs) front cs c refl r ne_feed (omega (arith, past, e));
      characters = ap (λ k. front ++ replicate (n - k) 0xFFFD) e;
    })
    (λ fits.
    let room : used + char_count c ≤ n = grind (arith, nat_tests) in
    cuts-as (append_assoc front (c ∷ []) cs)
    (append_assoc front (c ∷ []) more ∙ ap (λ t. front ++ t) (sym (here ∙ ap (λ b. cond b (replicate (n - used) 0xFFFD) (c ∷ more)) fits)))
    (cuts-behind n (used + char_count c) (front ++ c ∷ []) cs (IsReached-push n front c ne_feed r less (omega (arith, room, e)))
    (omega (arith, e, ap count_of (last_line-push front c no_feed), count_of-push (last_line front) c))))
    (cases_Bool (nat_lt n (used + char_count c))))
    (cases_Bool (c == 10)))
    (cases_Bool (used == n))

-- the function gives the cut text
pub IsCut-text : (n : ℕ) (text : List ℕ) → IsUtf8 text → IsCut n text (cut_text n text)
IsCut-text n text u =
    let k = cuts-behind n 0 [] (chars text) (IsReached-nil n) refl in
    let left = cut_behind n 0 (chars text) in
    let fill : List ℕ = replicate (missing_columns n k.front k.rest) 0xFFFD in
    let fills : scalars fill ≡ true =
    sym (list_all-scalars fill) ∙ list_all-copies scalar 0xFFFD (missing_columns n k.front k.rest) refl in
    let all : scalars (k.front ++ k.rest) ≡ true = ap scalars (sym k.longest.parts) ∙ scalars-chars text u in
    let own : scalars left ≡ true =
    ap scalars k.characters
    ∙ sym (list_all-scalars (k.front ++ fill))
    ∙ list_all-append scalar k.front fill
    ∙ and_from (list_all scalar k.front) (list_all scalar fill)
    (all-halves scalar k.front k.rest (list_all-scalars (k.front ++ k.rest) ∙ all)).0 (list_all-scalars fill ∙ fills) in
    record {
      front = k.front;
      rest = k.rest;
      longest = k.longest;
      utf8 = (left, (own, refl));
      characters = chars-encodes left own ∙ k.characters;
    }

-- any text that is left is the one of the function
pub cut-text : {n : ℕ} {text answer : List ℕ} → IsUtf8 text → IsCut n text answer → answer ≡ cut_text n text
cut-text {n} {text} u h = cut-once h (IsCut-text n text u)

-- ---- letters

-- letters at the front of a text, which take so many columns, at most n
pub record AreTaken (n : ℕ) (text rest : List ℕ) (columns : ℕ) : Type 0 where
  pub front : List ℕ
  pub parts : text ≡ front ++ rest
  pub utf8 : IsUtf8 front
  pub rest_utf8 : IsUtf8 rest
  pub counted : AreCounted (chars front) columns
  pub fits : columns ≤ n

pub letters-taken : (n columns : ℕ) {text front rest : List ℕ} → text ≡ front ++ rest → IsUtf8 front → IsUtf8 rest → AreLetters front columns
    → columns ≤ n → AreTaken n text rest columns
letters-taken n columns {text} {front} {rest} parts utf8 after h le = record {
  front = front;
  parts = parts;
  utf8 = utf8;
  rest_utf8 = after;
  counted = letters-counted front columns utf8 h;
  fits = le;
}

counted-push : (cs : List ℕ) (n c k : ℕ) → AreCounted cs n → IsLetter c k → AreCounted (cs ++ c ∷ []) (n + k)
counted-push cs n c k h own = record {
  simple = list_all-append is_simple cs (c ∷ []) ∙ and_from (list_all is_simple cs) (list_all is_simple (c ∷ [])) h.simple
      (and_from (is_simple c) true own.simple refl);
  columns = omega (arith, sum_by_push char_columns cs c, h.columns, own.columns);
  counts = omega (arith, count_of-push cs c, own.columns, own.some, h.counts);
}

-- with one more
pub letters-more : {n columns count : ℕ} {text rest after : List ℕ} → AreTaken n text rest columns
    → BeginsBy (λ c. IsLetter c count) rest after → columns + count ≤ n → AreTaken n text after (columns + count)
letters-more {n} {columns} {count} {text} {rest} {after} t b le =
    let c = b.first in
    let s = IsScalar-first rest c (chars after) t.rest_utf8 b.characters in
    record {
      front = t.front ++ encode_utf8 c;
      parts = more_bytes text t.front rest after c t.parts b.parts;
      utf8 = IsUtf8-append t.front (encode_utf8 c) t.utf8 (IsUtf8-encode c s);
      rest_utf8 = IsUtf8-past_char rest after c t.rest_utf8 b.parts;
      counted = subst (λ cs. AreCounted cs (columns + count)) (sym (chars-push t.front c t.utf8 s)) (counted-push (chars t.front) columns c count t.counted b.is);
      fits = le;
    }

-- the first characters of a text, and U+FFFD in the columns that are missing
taken-walked : {n columns : ℕ} {text rest : List ℕ} → (t : AreTaken n text rest columns) → Walked n text rest columns
taken-walked {n} {columns} {text} {rest} t =
    let line = counted-line t.front columns t.utf8 t.counted in
    let last : last_line (chars t.front) ≡ chars t.front = ap last_of (lines_of-feedless (chars t.front) line.feedless) in
    record {
      front = t.front;
      parts = t.parts;
      utf8 = t.utf8;
      columns_are = sym (ap count_of last ∙ t.counted.counts);
      reached = IsReached-counted n (chars t.front) (omega (arith, t.counted.counts, t.fits));
    }

letter-fill : IsLetter 0xFFFD 1
unfolding unicode_width
letter-fill = record { simple = refl; columns = refl; some = lit< tt; few = omega arith }

counted-fills : (cs : List ℕ) (n k : ℕ) → AreCounted cs n → AreCounted (cs ++ replicate k 0xFFFD) (n + k)
counted-fills cs n zero h = subst (λ t. AreCounted t (n + 0)) (sym (append-nil cs)) (let same : n ≡ n + 0 = omega arith in subst (AreCounted cs) same h)
counted-fills cs n (suc k) h =
    let same : (n + 1) + k ≡ n + suc k = omega arith in
    subst (AreCounted (cs ++ replicate (suc k) 0xFFFD)) same
    (subst (λ t. AreCounted t ((n + 1) + k)) (append_assoc cs (0xFFFD ∷ []) (replicate k 0xFFFD))
    (counted-fills (cs ++ 0xFFFD ∷ []) (n + 1) k (counted-push cs n 0xFFFD 1 h letter-fill)))

-- letters are cut where they take n columns with the filled ones
letters-cut : {n columns : ℕ} {text rest after : List ℕ} (fills : ℕ) → IsUtf8 text → (t : AreTaken n text rest columns)
    → IsParted n (chars text) (chars t.front) fills after → columns + fills ≡ n → IsCutAt n text (length text - length rest) fills
letters-cut {n} {columns} {text} {rest} fills u t parted full =
    let taken = front_taken t.front rest t.parts in
    let fill : List ℕ = replicate fills 0xFFFD in
    let is : t.front ++ encode_utf8_all fill ≡ cut_text n text = cut-text u (IsCut-filled t.utf8 parted refl) in
    let utf8 : IsUtf8 (t.front ++ encode_utf8_all fill) = subst IsUtf8 (sym is) (IsCut-text n text u).utf8 in
    let own : scalars fill ≡ true = sym (list_all-scalars fill) ∙ list_all-copies scalar 0xFFFD fills refl in
    let characters : chars (t.front ++ encode_utf8_all fill) ≡ chars t.front ++ fill =
    chars-append t.front (encode_utf8_all fill) t.utf8 ∙ ap (λ cs. chars t.front ++ cs) (chars-encodes fill own) in
    let counted : AreCounted (chars (t.front ++ encode_utf8_all fill)) (columns + fills) =
    subst (λ cs. AreCounted cs (columns + fills)) (sym characters) (counted-fills (chars t.front) columns fills t.counted) in
    record {
      boundary = front_boundary t.front rest t.parts t.rest_utf8;
      same = sym is ∙ ap (λ front. front ++ encode_utf8_all fill) (sym taken);
      columns_are = sym full ∙ line-columns (counted-line (t.front ++ encode_utf8_all fill) (columns + fills) utf8 counted) ∙ ap text_columns is;
    }

-- n columns of letters are what is left of a text
pub letters-left : {n columns : ℕ} {text rest : List ℕ} → IsUtf8 text → AreTaken n text rest columns → columns ≡ n
    → IsCutAt n text (length text - length rest) 0
unfolding taken-walked
letters-left {n} {columns} {text} {rest} u t full =
    letters-cut {after = chars rest} 0 u t (IsParted-full t.front (taken-walked t) full refl) (omega (arith, full))

-- or fewer columns, where the next letter passes n
pub letters-filled : {n columns count : ℕ} {text rest : List ℕ} (after : List ℕ) → IsUtf8 text → AreTaken n text rest columns
    → BeginsBy (λ c. IsLetter c count) rest after → columns < n → n < columns + count → IsCutAt n text (length text - length rest) 1
unfolding taken-walked
letters-filled {n} {columns} {count} {text} {rest} after u t b less wide =
    let y = b.first in
    let few = b.is.few in
    let one : n - columns ≡ 1 = omega arith in
    let own = (letter-count count rest after b).is in
    let no_feed : y ≡ 10 → ⊥ = λ e. no-feed y e (simple-no_feed y b.is.simple) in
    letters-cut {after = chars after} 1 u t
    (subst (λ k. IsParted n (chars text) (chars t.front) k (chars after)) one
    (IsParted-wide after y t.front b.characters no_feed (omega (arith, wide, own)) (λ e. omega (arith, e, less)) (taken-walked t) refl))
    (omega (arith, one, less))
  where
    no-feed : (y : ℕ) → y ≡ 10 → is_no_feed y ≡ true → ⊥
    no-feed y e h = grind (arith, nat_tests)

-- ---- lines

-- one line is left of one
pub cut-one_line : (n : ℕ) (text : List ℕ) → IsUtf8 text → length (lines_of text) ≡ 1 → length (lines_of (cut_text n text)) ≡ 1
cut-one_line n text u one =
    let cut = IsCut-text n text u in
    let fill : List ℕ = replicate (missing_columns n cut.front cut.rest) 0xFFFD in
    let whole : get_or (lines_of text) 0 [] ≡ text = ap (λ lines. get_or lines 0 []) (lines_of-one text one) in
    let feedless : list_all is_no_feed (chars text) ≡ true =
    subst (λ line. list_all is_no_feed (chars line) ≡ true) whole (line-each text u 0 (omega (arith, one))).feedless in
    let front = (all-halves is_no_feed cut.front cut.rest (ap (list_all is_no_feed) (sym cut.longest.parts) ∙ feedless)).0 in
    let all : list_all is_no_feed (chars (cut_text n text)) ≡ true =
    ap (list_all is_no_feed) cut.characters ∙ list_all-append is_no_feed cut.front fill
    ∙ and_from (list_all is_no_feed cut.front) (list_all is_no_feed fill) front
    (list_all-copies is_no_feed 0xFFFD (missing_columns n cut.front cut.rest) refl) in
    line-alone (cut_text n text) (line_columns (cut_text n text)) record { utf8 = cut.utf8; feedless = all; columns = refl }
