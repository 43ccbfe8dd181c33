-- A text that fits is wrapped to itself.
use Rattle.tabled_text.proofs.Names.{All, All-cons, All-head, All-nil, All-tail, Bool, Fits, IsAdditive, IsUtf8, IsWrapped, List, TextUnit}
use Rattle.tabled_text.proofs.Names.{[], ap, append-nil, append_all, arith, char_columns, char_count, chars, columns_of, cond, count_of}
use Rattle.tabled_text.proofs.Names.{encode_utf8_all, encodes-chars, false, greatest, is_additive, join_with_byte}
use Rattle.tabled_text.proofs.Names.{join_with_byte-slice_split, le-leb, length, lines_of, list_all, map, nat_le, pending, refl, space}
use Rattle.tabled_text.proofs.Names.{subst, sum_by, sum_by-append, sum_by-cons, sym, text_columns, text_of, true, unit_of_char, units}
use Rattle.tabled_text.proofs.Names.{units_of_word, units_of_words, width_of, words_of, ℕ, ◌++◌, ◌+◌, ◌<◌, ◌∙◌, ◌∷◌, ◌≡◌, ◌≤◌}
use Rattle.tabled_text.proofs.Basics.{cond-cases}
use Rattle.tabled_text.proofs.Bridge.{begins, some_line, text_columns-chars}
use Rattle.tabled_text.proofs.CountBound.{columns-count, count-some}
use Rattle.tabled_text.proofs.CutWhole.{IsReached-counted, count_of-bytes}
use Rattle.tabled_text.proofs.Filling.{IsWrapped-written, append_all-fits, full_text}
use Rattle.tabled_text.proofs.FitLemmas.{EachUnit, EachUnit-units, text_of_lines-is}
use Rattle.tabled_text.proofs.OwnBreaking.{text_from-narrow, text_of-units, unit-le}
use Rattle.tabled_text.proofs.PlainLemmas.{count_of-plain, line_columns-plain}
use Rattle.tabled_text.proofs.WrapRoom.{EachPlain, EachPlain-lines, Good, good-made}

-- ---- additive texts

pub fits-sum : (n used : ℕ) (g : List TextUnit) → used + width_of g ≤ n → Fits n used g
fits-sum n used [] h = tt
fits-sum n used (u ∷ g) h =
    let e = sum_by-cons (λ (v : TextUnit). v.width) u g in
    let own : u.width ≤ n = omega arith in
    (subst (λ b. used + cond b u.width 1 ≤ n) (sym (le-leb u.width n own)) (omega arith), fits-sum n (used + u.width) g (omega arith))

-- plain units are as wide as their text
width-good : (us : List TextUnit) → EachUnit Good us → width_of us ≡ sum_by char_columns (text_of us)
width-good [] h = refl
width-good (u ∷ us) h =
    omega (arith, h.0.1, width-good us h.1, sum_by-cons (λ (v : TextUnit). v.width) u us, sum_by-append char_columns u.text (text_of us))

-- a line whose units fit is one group, whatever follows
kept-before : (n : ℕ) (words : Bool) (line : List ℕ) (rest : List TextUnit) → width_of (units n words line) ≤ n
    → append_all n 0 (units n words line ++ rest) ≡ line ++ append_all n (0 + width_of (units n words line)) rest
kept-before n words line rest wide =
    let us : List TextUnit = units n words line in
    append_all-fits n 0 us rest (fits-sum n 0 us (omega (arith, wide)))
    ∙ ap (λ l. l ++ append_all n (0 + width_of us) rest) (text_from-narrow n 0 us (unit-le n us wide) ∙ text_of-units n words line)

pub line_kept-before : (n : ℕ) (words : Bool) (line : List ℕ) (rest : List TextUnit) → list_all is_additive line ≡ true
    → columns_of line ≤ n → append_all n 0 (units n words line ++ rest) ≡ line ++ append_all n (columns_of line) rest
line_kept-before n words line rest plain room =
    let us : List TextUnit = units n words line in
    let width = width-good us (EachUnit-units is_additive Good good-made n words line plain) in
    let columns : 0 + width_of us ≡ columns_of line =
    omega (arith, width, ap (sum_by char_columns) (text_of-units n words line), line_columns-plain line plain) in
    kept-before n words line rest (omega arith) ∙ ap (λ k. line ++ append_all n k rest) columns

-- ---- a text of at most n bytes: its units are no wider than their characters count

abbrev pub own_width : TextUnit → ℕ
own_width unit = unit.width

pub width-chars : (cs : List ℕ) → width_of (map unit_of_char cs) ≡ count_of cs
width-chars [] = refl
width-chars (c ∷ cs) =
    omega (arith, sum_by-cons own_width (unit_of_char c) (map unit_of_char cs), sum_by-cons char_count c cs, width-chars cs)

width-word : (n : ℕ) (word : List ℕ) → width_of (units_of_word n word) ≤ count_of word
width-word n [] = omega arith
width-word n (c ∷ cs) =
    let whole : TextUnit = record { text = c ∷ cs; width = columns_of (c ∷ cs) } in
    cond-cases (λ us. width_of us ≤ count_of (c ∷ cs)) (nat_le (columns_of (c ∷ cs)) n) (whole ∷ []) (map unit_of_char (c ∷ cs))
    (λ _. omega (arith, columns-count (c ∷ cs), sum_by-cons own_width whole [])) (λ _. omega (arith, width-chars (c ∷ cs)))

width-words : (n : ℕ) (words : List (List ℕ)) → width_of (units_of_words n words) ≤ count_of (join_with_byte 32 words)
width-words n [] = omega arith
width-words n (w ∷ []) = width-word n w
width-words n (w ∷ x ∷ ws) =
    let more = units_of_words n (x ∷ ws) in
    let rest = join_with_byte 32 (x ∷ ws) in
    omega (
      arith,
      sum_by-append own_width (units_of_word n w) (space ∷ more),
      sum_by-cons own_width space more,
      width-word n w,
      width-words n (x ∷ ws),
      sum_by-append char_count w (32 ∷ rest),
      sum_by-cons char_count 32 rest,
      count-some 32,
    )

width-line : (n : ℕ) (words : Bool) (line : List ℕ) → width_of (units n words line) ≤ count_of line
width-line n false line = omega (arith, width-chars line)
width-line n true line = subst (λ l. width_of (units n true line) ≤ count_of l) (join_with_byte-slice_split 32 line) (width-words n (words_of line))

pub line-short : (n : ℕ) (words : Bool) (line : List ℕ) → count_of line ≤ n → append_all n 0 (units n words line) ≡ line
line-short n words line few =
    let us : List TextUnit = units n words line in
    ap (append_all n 0) (sym (append-nil us)) ∙ kept-before n words line [] (omega (arith, width-line n words line)) ∙ append-nil line

lines-short : (n : ℕ) (words : Bool) (line : List ℕ) (lines : List (List ℕ)) → All (λ l. count_of l ≤ n) (line ∷ lines)
    → append_all n 0 (units n words line) ++ pending n words true lines ≡ join_with_byte 10 (line ∷ lines)
lines-short n words line [] h = append-nil _ ∙ line-short n words line (All-head (λ l. count_of l ≤ n) line [] h)
lines-short n words line (next ∷ lines) h =
    ap (λ l. l ++ pending n words true (next ∷ lines)) (line-short n words line (All-head (λ l. count_of l ≤ n) line (next ∷ lines) h))
    ∙ ap (λ l. line ++ 10 ∷ l) (lines-short n words next lines (All-tail (λ l. count_of l ≤ n) line (next ∷ lines) h))

-- what is written of a line of at most n bytes
pub written-short : (n : ℕ) (words : Bool) (line : List ℕ) → IsUtf8 line → length line ≤ n
    → line ≡ encode_utf8_all (append_all n 0 (units n words (chars line)))
written-short n words line u le =
    sym (ap encode_utf8_all (line-short n words (chars line) (omega (arith, count_of-bytes line u))) ∙ encodes-chars line u)

-- what is written of a text whose lines count at most n
pub pending-short : (n : ℕ) (words : Bool) (cs : List ℕ) → All (λ l. count_of l ≤ n) (lines_of cs) → pending n words false (lines_of cs) ≡ cs
pending-short n words cs all =
    let b = begins (lines_of cs) (some_line cs) in
    ap (pending n words false) b.parts ∙ lines-short n words b.first b.rest (subst (All (λ l. count_of l ≤ n)) b.parts all)
    ∙ ap (join_with_byte 10) (sym b.parts) ∙ join_with_byte-slice_split 10 cs

pub IsWrapped-short : (n : ℕ) (words : Bool) (text : List ℕ) → IsUtf8 text → 0 < n → length text ≤ n → IsWrapped n words text text
IsWrapped-short n words text u some le =
    let same = pending-short n words (chars text) (IsReached-counted n (chars text) (omega (arith, count_of-bytes text u))).fits in
    IsWrapped-written n words text text (λ z. omega arith) u (sym (ap encode_utf8_all same ∙ encodes-chars text u))

-- an additive text of at most n columns
pub plain-counts : (n : ℕ) (ls : List (List ℕ)) → EachPlain ls → greatest (map columns_of ls) ≤ n → All (λ l. count_of l ≤ n) ls
plain-counts n [] p h = All-nil (λ l. count_of l ≤ n)
plain-counts n (l ∷ ls) p h =
    let same = line_columns-plain l p.0 ∙ sym (count_of-plain l p.0) in
    All-cons (λ l. count_of l ≤ n) l ls (omega arith) (plain-counts n ls p.1 (omega arith))

pub wrap_kept : (n : ℕ) (words : Bool) (text answer : List ℕ) → 0 < n → IsAdditive text → text_columns text ≤ n
    → IsWrapped n words text answer → answer ≡ text
wrap_kept n words text answer pos p room w =
    let cs : List ℕ = chars text in
    let full = full_text n words text answer pos w in
    let wide : greatest (map columns_of (lines_of cs)) ≤ n = subst (λ k. k ≤ n) (text_columns-chars text p.utf8) room in
    let same : chars answer ≡ cs = full.answered ∙ text_of_lines-is n pos words (lines_of cs) full.broken full.fullest
    ∙ pending-short n words cs (plain-counts n (lines_of cs) (EachPlain-lines cs p.characters) wide) in
    sym (encodes-chars answer w.utf8) ∙ ap encode_utf8_all same ∙ encodes-chars text p.utf8
