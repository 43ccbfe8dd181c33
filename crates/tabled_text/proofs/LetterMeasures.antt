-- The columns and the number of lines of letters that are broken, found letter after letter.
use Rattle.tabled_text.proofs.Names.{All, All-head, All-tail, BeginsBy, Bool, IsLetter, IsUtf8, IsUtf8-past_char, List, [], and_from}
use Rattle.tabled_text.proofs.Names.{and_parts, ap, arith, byte_columns, cases_lt, char_columns, chars, chars-encodes, chars-nil}
use Rattle.tabled_text.proofs.Names.{columns_of, cond, encode_utf8, encode_utf8_all, encodes-chars, false, greatest, inl, inr}
use Rattle.tabled_text.proofs.Names.{is_letter_byte, is_simple, length, length-map, lines_of, list_all, map, max, min, nil_from_length}
use Rattle.tabled_text.proofs.Names.{not-true, onto_first, or_right, refl, scalar, scalars, scalars-chars, str_width-simple, subst, sum_by}
use Rattle.tabled_text.proofs.Names.{sum_by-cons, sym, text_columns, true, words_of, ℕ, ◌+◌, ◌<◌, ◌==◌, ◌||◌, ◌∙◌, ◌∷◌, ◌≡◌, ◌≤◌}
use Rattle.tabled_text.specs.LineEnds.{AreEnds, IsWrappedInPlace, wrapped_text}
use Rattle.tabled_text.specs.declared.line_ends.LineEnds.TheVariants.{Columns}
use Rattle.tabled_text.proofs.Basics.{all-halves}
use Rattle.tabled_text.proofs.Bridge.{each_in_lines, lines_of-chars, some_line, text_columns-chars}
use Rattle.tabled_text.proofs.LetterBytes.{letter-encoded, simple-no_feed}
use Rattle.tabled_text.proofs.LetterLines.{are-broken, letter-breaks, letter-shown, walked}
use Rattle.tabled_text.proofs.LetterPieces.{written-letters}

-- ---- the widest line of characters

-- the columns of the widest line, if `used` columns stand before the first
abbrev widest_from : ℕ → List ℕ → ℕ
widest_from used [] = used
widest_from used (c ∷ cs) = cond (c == 10) (max used (widest_from 0 cs)) (widest_from (used + char_columns c) cs)

-- the same of the lines, whose characters' columns are added up
abbrev widest_of : ℕ → List (List ℕ) → ℕ
widest_of used [] = used
widest_of used (l ∷ ls) = max (used + sum_by char_columns l) (greatest (map (sum_by char_columns) ls))

widest-lines : (used : ℕ) (cs : List ℕ) → widest_from used cs ≡ widest_of used (lines_of cs)
widest-lines used [] = let e : used ≡ max (used + 0) 0 = omega arith in e
widest-lines used (c ∷ cs) = join (c == 10) (lines_of cs) (some_line cs) (widest-lines 0 cs) (widest-lines (used + char_columns c) cs)
  where
    join : (b : Bool) (ls : List (List ℕ)) → 0 < length ls → widest_from 0 cs ≡ widest_of 0 ls
        → widest_from (used + char_columns c) cs ≡ widest_of (used + char_columns c) ls
        → cond b (max used (widest_from 0 cs)) (widest_from (used + char_columns c) cs) ≡ widest_of used (cond b ([] ∷ ls) (onto_first c ls))
    join b [] some h k = absurd (omega arith)
    join true (l ∷ ls) some h k = omega arith
    join false (l ∷ ls) some h k = omega (arith, k, sum_by-cons char_columns c l)

widest-first : (ls : List (List ℕ)) → greatest (map (sum_by char_columns) ls) ≡ widest_of 0 ls
widest-first [] = refl
widest-first (l ∷ ls) = omega arith

simple-lines : (ls : List (List ℕ)) → All (λ l. list_all is_simple l ≡ true) ls
    → greatest (map columns_of ls) ≡ greatest (map (sum_by char_columns) ls)
simple-lines [] h = refl
simple-lines (l ∷ ls) h =
    let own : columns_of l ≡ sum_by char_columns l = str_width-simple false l (All-head (λ l. list_all is_simple l ≡ true) l ls h) in
    let more = simple-lines ls (All-tail (λ l. list_all is_simple l ≡ true) l ls h) in
    omega arith

-- characters that end no special sequence, and line feeds
record AreSimple (cs : List ℕ) : Type 0 where
  simple : list_all (λ c. (c == 10) || is_simple c) cs ≡ true
  text : scalars cs ≡ true

simple-columns : (cs : List ℕ) → AreSimple cs → text_columns (encode_utf8_all cs) ≡ widest_from 0 cs
simple-columns cs h =
    text_columns-chars (encode_utf8_all cs) (cs, (h.text, refl))
    ∙ ap (λ l. greatest (map columns_of (lines_of l))) (chars-encodes cs h.text)
    ∙ simple-lines (lines_of cs) (each_in_lines is_simple cs h.simple) ∙ widest-first (lines_of cs) ∙ sym (widest-lines 0 cs)

simple-count : (cs : List ℕ) → AreSimple cs → length (lines_of (encode_utf8_all cs)) ≡ length (lines_of cs)
simple-count cs h =
    let text = encode_utf8_all cs in
    sym (length-map (lines_of text) chars) ∙ ap length (sym (lines_of-chars text (cs, (h.text, refl))))
    ∙ ap (λ l. length (lines_of l)) (chars-encodes cs h.text)

simple-letter : (c own : ℕ) (cs : List ℕ) → IsLetter c own → scalar c ≡ true → AreSimple cs → AreSimple (c ∷ cs)
simple-letter c own cs l s h = record {
  simple = and_from ((c == 10) || is_simple c) (list_all (λ c. (c == 10) || is_simple c) cs) (or_right (c == 10) (is_simple c) l.simple) h.simple;
  text = and_from (scalar c) (scalars cs) s h.text;
}

simple-feed : (cs : List ℕ) → AreSimple cs → AreSimple (10 ∷ cs)
simple-feed cs h = record { simple = h.simple; text = h.text }

-- what letters write is simple
walked-simple : (n columns : ℕ) (cs : List ℕ) → 0 < n → list_all is_letter_byte (encode_utf8_all cs) ≡ true → scalars cs ≡ true
    → AreSimple (walked n columns cs)
walked-simple n columns [] pos h s = record { simple = refl; text = refl }
walked-simple n columns (c ∷ cs) pos h s =
    let halves = all-halves is_letter_byte (encode_utf8 c) (encode_utf8_all cs) h in
    let scalar_parts = and_parts (scalar c) (scalars cs) s in
    let own = sum_by byte_columns (encode_utf8 c) in
    let letter = letter-encoded c halves.0 in
    let on : (k : ℕ) → k + min own n ≤ n → AreSimple (walked n k (c ∷ cs)) = λ k fits.
    (let d = letter-shown n k own c pos letter fits in
    subst AreSimple (sym (d.next cs))
    (simple-letter d.shows (min own n) (walked n (k + min own n) cs) d.letter (d.scalar_if scalar_parts.0)
    (walked-simple n (k + min own n) cs pos halves.1 scalar_parts.1))) in
    elim (cases_lt n (columns + min own n)) [
      | inl far ↦ subst AreSimple (sym (letter-breaks n columns own c cs pos letter far)) (simple-feed (walked n 0 (c ∷ cs)) (on 0 (omega arith)))
      | inr fits ↦ on columns fits
    ]

-- ---- a letter more

onto-length : (c : ℕ) (ls : List (List ℕ)) → 0 < length ls → length (onto_first c ls) ≡ length ls
onto-length c [] some = absurd (omega arith)
onto-length c (l ∷ ls) some = refl

-- what is measured from a letter on, by what is measured after it
record IsStep (n columns after : ℕ) (cs rest : List ℕ) (before begun : ℕ) : Type 0 where
  widest : widest_from columns (walked n columns cs) ≡ max before (widest_from after (walked n after rest))
  count : length (lines_of (walked n columns cs)) ≡ begun + length (lines_of (walked n after rest))

module _ (n own c : ℕ) (cs : List ℕ) (pos : 0 < n) (letter : IsLetter c own) where
  -- a letter goes on with a line
  letter-on : (columns : ℕ) → columns + min own n ≤ n → IsStep n columns (columns + min own n) (c ∷ cs) cs 0 0
  letter-on columns fits =
      let d = letter-shown n columns own c pos letter fits in
      let next = walked n (columns + min own n) cs in
      let no : (d.shows == 10) ≡ false = not-true (d.shows == 10) (simple-no_feed d.shows d.letter.simple) in
      let widest : widest_from columns (walked n columns (c ∷ cs)) ≡ widest_from (columns + min own n) next =
      ap (widest_from columns) (d.next cs)
      ∙ ap (λ b. cond b (max columns (widest_from 0 next)) (widest_from (columns + char_columns d.shows) next)) no
      ∙ ap (λ k. widest_from (columns + k) next) d.letter.columns in
      let count : length (lines_of (walked n columns (c ∷ cs))) ≡ length (lines_of next) =
      ap (λ l. length (lines_of l)) (d.next cs) ∙ ap (λ b. length (cond b ([] ∷ lines_of next) (onto_first d.shows (lines_of next)))) no
      ∙ onto-length d.shows (lines_of next) (some_line next) in
      record { widest = omega (arith, widest); count = omega (arith, count) }

  -- or begins the next one
  letter-next : (columns : ℕ) → n < columns + min own n → IsStep n columns (0 + min own n) (c ∷ cs) cs columns 1
  letter-next columns far =
      let breaks = letter-breaks n columns own c cs pos letter far in
      let on = letter-on 0 (omega arith) in
      record {
        widest = ap (widest_from columns) breaks ∙ (let e = on.widest in omega (arith, e));
        count = ap (λ l. length (lines_of l)) breaks ∙ (let e = on.count in omega (arith, e));
      }

-- ---- a loop over letters

-- `count` lines were begun, the widest of which before the last takes `widest` columns. The last one
-- takes `columns` and goes on with `rest`
pub record IsMeasured (n : ℕ) (text rest : List ℕ) (widest count columns : ℕ) : Type 0 where
  widest_is : max widest (widest_from columns (walked n columns (chars rest))) ≡ widest_from 0 (walked n 0 (chars text))
  count_is : count + length (lines_of (walked n columns (chars rest))) ≡ length (lines_of (walked n 0 (chars text))) + 1
  pub fits : columns ≤ n
  pub few : count + length rest ≤ length text + 1
  pub letters : list_all is_letter_byte rest ≡ true
  pub utf8 : IsUtf8 rest

pub measured-start : (n : ℕ) (text : List ℕ) → IsUtf8 text → AreEnds (Columns n) text → IsMeasured n text text 0 1 0
measured-start n text u ends = record {
  widest_is = omega arith;
  count_is = omega arith;
  fits = omega arith;
  few = omega arith;
  letters = (are-broken n text u ends).letters;
  utf8 = u;
}

-- a step of the loop
measured-step : {n widest count columns own : ℕ} {text rest after : List ℕ} (then before begun : ℕ) → IsMeasured n text rest widest count columns
    → (b : BeginsBy (λ c. IsLetter c own) rest after) → IsStep n columns then (b.first ∷ chars after) (chars after) before begun
    → begun ≤ 1 → then ≤ n → IsMeasured n text after (max widest before) (count + begun) then
measured-step {n} {widest} {count} {columns} {own} {text} {rest} {after} then before begun m b s few fits = record {
  widest_is = omega (arith, m.widest_is, ap (λ cs. widest_from columns (walked n columns cs)) b.characters, s.widest);
  count_is = omega (arith, m.count_is, ap (λ cs. length (lines_of (walked n columns cs))) b.characters, s.count);
  fits = fits;
  few = omega (arith, m.few, b.shorter);
  letters = (all-halves is_letter_byte (encode_utf8 b.first) after (ap (list_all is_letter_byte) (sym b.parts) ∙ m.letters)).1;
  utf8 = IsUtf8-past_char rest after b.first m.utf8 b.parts;
}

pub measured-as : {n widest count columns widest' count' columns' : ℕ} {text rest : List ℕ} → IsMeasured n text rest widest count columns
    → widest ≡ widest' → count ≡ count' → columns ≡ columns' → IsMeasured n text rest widest' count' columns'
measured-as {n} {widest} {count} {columns} {widest'} {count'} {columns'} {text} {rest} m e f g =
    subst (λ k. IsMeasured n text rest k count' columns') e
    (subst (λ k. IsMeasured n text rest widest k columns') f (subst (λ k. IsMeasured n text rest widest count k) g m))

pub measured-on : {n widest count columns own : ℕ} {text rest after : List ℕ} → 0 < n → IsMeasured n text rest widest count columns
    → BeginsBy (λ c. IsLetter c own) rest after → columns + min own n ≤ n → IsMeasured n text after widest count (columns + min own n)
measured-on {n} {widest} {count} {columns} {own} {text} {rest} {after} pos m b fits =
    measured-as (measured-step (columns + min own n) 0 0 m b (letter-on n own b.first (chars after) pos b.is columns fits) (omega arith) fits)
    (omega arith) (omega arith) refl

pub measured-next : {n widest count columns own : ℕ} {text rest after : List ℕ} → 0 < n → IsMeasured n text rest widest count columns
    → BeginsBy (λ c. IsLetter c own) rest after → n < columns + min own n
    → IsMeasured n text after (max widest columns) (count + 1) (0 + min own n)
measured-next {n} {widest} {count} {columns} {own} {text} {rest} {after} pos m b far =
    measured-step (0 + min own n) columns 1 m b (letter-next n own b.first (chars after) pos b.is columns far) (omega arith) (omega arith)

-- its end
pub record AreMeasures (n columns count : ℕ) (text : List ℕ) : Type 0 where
  pub columns_are : columns ≡ text_columns (wrapped_text n false text)
  pub count_is : count ≡ length (lines_of (wrapped_text n false text))

pub measured-end : {n widest count columns : ℕ} (text rest : List ℕ) → IsUtf8 text → AreEnds (Columns n) text
    → IsMeasured n text rest widest count columns → length rest ≡ 0 → AreMeasures n (max widest columns) count text
measured-end {n} {widest} {count} {columns} text rest u ends m none =
    let b = are-broken n text u ends in
    let written = b.written false in
    let cs = walked n 0 (chars text) in
    let simple = walked-simple n 0 (chars text) b.some (ap (list_all is_letter_byte) (encodes-chars text u) ∙ b.letters) (scalars-chars text u) in
    let nothing : chars rest ≡ [] = ap chars (nil_from_length rest none) ∙ chars-nil in
    record {
      columns_are = ap (λ l. max widest (widest_from columns (walked n columns l))) (sym nothing) ∙ m.widest_is
          ∙ sym (ap text_columns written ∙ simple-columns cs simple);
      count_is = omega (
        arith,
        m.count_is,
        ap (λ l. length (lines_of (walked n columns l))) nothing,
        ap (λ l. length (lines_of l)) written,
        simple-count cs simple,
      );
    }

-- ---- texts that are measured where they stand

-- a line that is not changed
pub kept-in-place : (n : ℕ) (words : Bool) (text : List ℕ) → length (lines_of text) ≡ 1 → wrapped_text n words text ≡ text
    → IsWrappedInPlace n words text (text_columns text) 1
kept-in-place n words text one same = record {
  columns_are = ap text_columns (sym same);
  lines_are = sym one ∙ ap (λ l. length (lines_of l)) (sym same);
  whole = λ _. same;
  letters = λ no. absurd (no refl);
  broken = λ no. absurd (no refl);
}

-- letters of several lines, which are one word if words are kept
pub broken-in-place : (n columns lines : ℕ) (words : Bool) (text : List ℕ) → IsUtf8 text → AreEnds (Columns n) text
    → (words ≡ true → words_of (chars text) ≡ chars text ∷ []) → AreMeasures n columns lines text → (lines ≡ 1 → ⊥)
    → IsWrappedInPlace n words text columns lines
broken-in-place n columns lines words text u ends word m several =
    let b = are-broken n text u ends in
    let same : wrapped_text n words text ≡ wrapped_text n false text =
    b.written words ∙ sym (written-letters n words text u b.letters word) ∙ sym (b.written false) in
    record {
      columns_are = m.columns_are ∙ ap text_columns (sym same);
      lines_are = m.count_is ∙ ap (λ l. length (lines_of l)) (sym same);
      whole = λ one. absurd (several one);
      letters = λ _. ends;
      broken = λ _. same;
    }
