-- Whether each unit of a text is at most n columns wide, and whether a text is what the walk writes.
use Rattle.tabled_text.proofs.Names.{All, All-cons, All-head, All-nil, All-tail, AllZip, Bool, Bor, EachUnitFits, Expects}
use Rattle.tabled_text.proofs.Names.{IsFittingWrapping, IsFullest, IsFullestText, IsUtf8, List, MatchBool, None, Option, Some, TextUnit, []}
use Rattle.tabled_text.proofs.Names.{and_from, and_parts, ap, append-nil, append_all, arith, char_columns, char_count, chars}
use Rattle.tabled_text.proofs.Names.{chars_from_encodes, columns_of, cond, encode_utf8_all, encodes-chars, false, fits_line, fits_word}
use Rattle.tabled_text.proofs.Names.{is_no_feed, le-leb, leb-true, lines_of, list_all, list_all-append, map, nat_le, ne_eqb, option_copied}
use Rattle.tabled_text.proofs.Names.{or_right, pending, refl, slice_split, space, subst, sym, text_of_lines, true, unit_of_char, units}
use Rattle.tabled_text.proofs.Names.{units_of_word, units_of_words, width_or_zero-le, words_of, ℕ, ⊎_elim, ⊤, ◌&&◌, ◌++◌, ◌<◌, ◌==◌, ◌||◌}
use Rattle.tabled_text.proofs.Names.{◌↔◌, ◌∙◌, ◌∷◌, ◌≡◌, ◌≤◌, ◌⊎◌}
use Rattle.std.proofs.Math.Bool.{and-true}
use Rattle.tabled_text.specs.OldText.{all_chars_fit}
use Rattle.std.proofs.Common.{MatchOption, ◌≢◌}
use Rattle.std.proofs.lemmas.List.{append_cancel_left}
use Rattle.tabled_text.proofs.Basics.{all-weaker, cond-cases, every}
use Rattle.tabled_text.proofs.Bridge.{Each, Each-split}
use Rattle.tabled_text.proofs.Filling.{AllZip-broken, text_is, text_of_lines-broken}

-- ---- what holds of each character of a line holds of each in its words and its units

-- all characters of a text but its line feeds
pub Each-lines : (p q : ℕ → Bool) → ((c : ℕ) → q c ≡ true → (c == 10) ≡ false → p c ≡ true) → (cs : List ℕ)
    → list_all q cs ≡ true → Each p (slice_split (λ c. c == 10) cs)
Each-lines p q f cs h = Each-split (λ c. c == 10) q p f cs h

-- P holds of each unit
abbrev pub EachUnit : (TextUnit → Type 0) → List TextUnit → Type 0
EachUnit P [] = ⊤
EachUnit P (u ∷ us) = P u × EachUnit P us

pub EachUnit-append : (P : TextUnit → Type 0) (us vs : List TextUnit) → EachUnit P us → EachUnit P vs → EachUnit P (us ++ vs)
EachUnit-append P [] vs f g = g
EachUnit-append P (u ∷ us) vs f g = (f.0, EachUnit-append P us vs f.1 g)

pub EachUnit-parts : (P : TextUnit → Type 0) (us vs : List TextUnit) → EachUnit P (us ++ vs) → EachUnit P us × EachUnit P vs
EachUnit-parts P [] vs h = (tt, h)
EachUnit-parts P (u ∷ us) vs h = let r = EachUnit-parts P us vs h.1 in ((h.0, r.0), r.1)

-- P holds of the units that are made of characters that pass
pub record IsMade (q : ℕ → Bool) (P : TextUnit → Type 0) : Type 0 where
  pub char : (c : ℕ) → q c ≡ true → P (unit_of_char c)
  pub word : (cs : List ℕ) → list_all q cs ≡ true → P (record { text = cs; width = columns_of cs })
  pub space : P space

module _ (q : ℕ → Bool) (P : TextUnit → Type 0) (made : IsMade q P) where
  pub EachUnit-chars : (cs : List ℕ) → list_all q cs ≡ true → EachUnit P (map unit_of_char cs)
  EachUnit-chars [] h = tt
  EachUnit-chars (c ∷ cs) h = let parts = and_parts (q c) (list_all q cs) h in (made.char c parts.0, EachUnit-chars cs parts.1)

  EachUnit-word : (n : ℕ) (word : List ℕ) → list_all q word ≡ true → EachUnit P (units_of_word n word)
  EachUnit-word n [] h = tt
  EachUnit-word n (c ∷ cs) h =
      let whole : TextUnit = record { text = c ∷ cs; width = columns_of (c ∷ cs) } in
      cond-cases (EachUnit P) (nat_le (columns_of (c ∷ cs)) n) (whole ∷ []) (map unit_of_char (c ∷ cs))
      (λ _. (made.word (c ∷ cs) h, tt)) (λ _. EachUnit-chars (c ∷ cs) h)

  EachUnit-words : (n : ℕ) (words : List (List ℕ)) → Each q words → EachUnit P (units_of_words n words)
  EachUnit-words n [] h = tt
  EachUnit-words n (w ∷ []) h = EachUnit-word n w h.0
  EachUnit-words n (w ∷ x ∷ ws) h =
      EachUnit-append P (units_of_word n w) (space ∷ units_of_words n (x ∷ ws)) (EachUnit-word n w h.0)
      (made.space, EachUnit-words n (x ∷ ws) h.1)

  pub EachUnit-units : (n : ℕ) (words : Bool) (line : List ℕ) → list_all q line ≡ true → EachUnit P (units n words line)
  EachUnit-units n false line h = EachUnit-chars line h
  EachUnit-units n true line h = EachUnit-words n (words_of line) (Each-split (λ c. c == 32) q q (λ c a b. a) line h)

-- no line feed is in a unit
abbrev pub Feedless : TextUnit → Type 0
Feedless unit = list_all is_no_feed unit.text ≡ true

pub feedless-units : (n : ℕ) (words : Bool) (line : List ℕ) → list_all is_no_feed line ≡ true → EachUnit Feedless (units n words line)
feedless-units n words line h =
    let made : IsMade is_no_feed Feedless = record { char = λ c a. and_from (is_no_feed c) true a refl; word = λ cs a. a; space = refl } in
    EachUnit-units is_no_feed Feedless made n words line h

-- ---- word by word and character by character

abbrev pub narrow : ℕ → List TextUnit → Bool
narrow n us = list_all (λ u. nat_le u.width n) us

narrow-chars : (n : ℕ) (cs : List ℕ) → narrow n (map unit_of_char cs) ≡ all_chars_fit n cs
narrow-chars n [] = refl
narrow-chars n (c ∷ cs) = ap (λ b. nat_le (char_count c) n && b) (narrow-chars n cs)

narrow-word : (n : ℕ) (word : List ℕ) → narrow n (units_of_word n word) ≡ fits_word n word
narrow-word n [] = by_test (nat_le (columns_of []) n)
  where
    by_test : (b : Bool) → true ≡ (b || true)
    by_test true = refl
    by_test false = refl
narrow-word n (c ∷ cs) = by_test (nat_le (columns_of (c ∷ cs)) n) refl
  where
    by_test : (b : Bool) → nat_le (columns_of (c ∷ cs)) n ≡ b
        → narrow n (cond b (record { text = c ∷ cs; width = columns_of (c ∷ cs) } ∷ []) (map unit_of_char (c ∷ cs)))
        ≡ (b || all_chars_fit n (c ∷ cs))
    by_test true e = ap (λ t. t && true) e
    by_test false e = narrow-chars n (c ∷ cs)

narrow-words : (n : ℕ) → 0 < n → (ws : List (List ℕ)) → narrow n (units_of_words n ws) ≡ list_all (fits_word n) ws
narrow-words n pos [] = refl
narrow-words n pos (w ∷ []) = narrow-word n w ∙ sym (and-true (fits_word n w))
narrow-words n pos (w ∷ x ∷ ws) =
    let rest = units_of_words n (x ∷ ws) in
    list_all-append (λ (u : TextUnit). nat_le u.width n) (units_of_word n w) (space ∷ rest)
    ∙ ap (λ b. b && narrow n (space ∷ rest)) (narrow-word n w)
    ∙ ap (λ b. fits_word n w && (b && narrow n rest)) (le-leb 1 n pos)
    ∙ ap (λ b. fits_word n w && b) (narrow-words n pos (x ∷ ws))

narrow-line : (n : ℕ) → 0 < n → (words : Bool) (line : List ℕ) → narrow n (units n words line) ≡ fits_line n words line
narrow-line n pos false line = narrow-chars n line
narrow-line n pos true line = narrow-words n pos (words_of line)

narrow-All : (n : ℕ) (us : List TextUnit) → (narrow n us ≡ true) ↔ All (λ u. u.width ≤ n) us
narrow-All n [] = (λ h. All-nil (λ (u : TextUnit). u.width ≤ n), λ h. refl)
narrow-All n (u ∷ us) =
    let more = narrow-All n us in (
      λ h. (let parts = and_parts (nat_le u.width n) (narrow n us) h in
          All-cons (λ (u : TextUnit). u.width ≤ n) u us (leb-true u.width n parts.0) (more.0 parts.1)),
      λ h. and_from (nat_le u.width n) (narrow n us)
          (le-leb u.width n (All-head (λ (u : TextUnit). u.width ≤ n) u us h)) (more.1 (All-tail (λ (u : TextUnit). u.width ≤ n) u us h)),
    )

fits_lines-All : (n : ℕ) → 0 < n → (words : Bool) (ls : List (List ℕ))
    → (list_all (fits_line n words) ls ≡ true) ↔ All (λ line. All (λ u. u.width ≤ n) (units n words line)) ls
fits_lines-All n pos words [] = (λ h. All-nil (λ line. All (λ (u : TextUnit). u.width ≤ n) (units n words line)), λ h. refl)
fits_lines-All n pos words (l ∷ ls) =
    let P : List ℕ → Type 0 = λ line. All (λ (u : TextUnit). u.width ≤ n) (units n words line) in
    let more = fits_lines-All n pos words ls in
    let own = narrow-All n (units n words l) in
    let same = narrow-line n pos words l in (
      λ h. (let parts = and_parts (fits_line n words l) (list_all (fits_line n words) ls) h in
          All-cons P l ls (own.0 (same ∙ parts.0)) (more.0 parts.1)),
      λ h. and_from (fits_line n words l) (list_all (fits_line n words) ls) (sym same ∙ own.1 (All-head P l ls h)) (more.1 (All-tail P l ls h)),
    )

-- the test of the code is what it says
pub fits_lines-iff : (n : ℕ) → 0 < n → (words : Bool) (text : List ℕ)
    → (list_all (fits_line n words) (lines_of (chars text)) ≡ true) ↔ EachUnitFits n words text
fits_lines-iff n pos words text = fits_lines-All n pos words (lines_of (chars text))

-- ---- where no character counts more than n

room-words : (n : ℕ) (ws : List (List ℕ)) → Each (λ c. nat_le (char_count c) n) ws → list_all (fits_word n) ws ≡ true
room-words n [] h = refl
room-words n (w ∷ ws) h = and_from (fits_word n w) (list_all (fits_word n) ws)
    (or_right (nat_le (columns_of w) n) (all_chars_fit n w) h.0) (room-words n ws h.1)

room-line : (n : ℕ) (words : Bool) (line : List ℕ) → all_chars_fit n line ≡ true → fits_line n words line ≡ true
room-line n false line h = h
room-line n true line h = room-words n (words_of line)
    (Each-split (λ c. c == 32) (λ c. nat_le (char_count c) n) (λ c. nat_le (char_count c) n) (λ c a b. a) line h)

room-lines : (n : ℕ) (words : Bool) (ls : List (List ℕ)) → Each (λ c. nat_le (char_count c) n) ls → list_all (fits_line n words) ls ≡ true
room-lines n words [] h = refl
room-lines n words (l ∷ ls) h = and_from (fits_line n words l) (list_all (fits_line n words) ls) (room-line n words l h.0) (room-lines n words ls h.1)

-- each unit is at most n wide
pub fits-room : (n : ℕ) → 0 < n → (words : Bool) (text : List ℕ) → all_chars_fit n (chars text) ≡ true → EachUnitFits n words text
fits-room n pos words text h =
    (fits_lines-iff n pos words text).0 (room-lines n words (lines_of (chars text))
    (Each-split (λ c. c == 10) (λ c. nat_le (char_count c) n) (λ c. nat_le (char_count c) n) (λ c a b. a) (chars text) h))

-- no character counts more than 3
counts : (n c : ℕ) → 3 ≤ n → nat_le (char_count c) n ≡ true
counts n c h = le-leb (char_count c) n (let w : char_columns c ≤ 3 = width_or_zero-le false c in omega arith)

finds_wide : (n : ℕ) → 3 ≤ n → (cs : List ℕ) → all_chars_fit n cs ≡ true
finds_wide n h cs = all-weaker (λ c. true) (λ c. nat_le (char_count c) n) (λ c _. counts n c h) cs (every cs)

pub fits-wide : (n : ℕ) → 3 ≤ n → (words : Bool) (cs : List ℕ) → list_all (fits_line n words) (lines_of cs) ≡ true
fits-wide n h words cs =
    room-lines n words (lines_of cs) (Each-split (λ c. c == 10) (λ c. nat_le (char_count c) n)
    (λ c. nat_le (char_count c) n) (λ c a b. a) cs (finds_wide n h cs))

-- ---- a text is the wrapping exactly if it is what the walk writes

pub strip_is : (s p : List ℕ) (r : Option (Bor (List ℕ))) → MatchOption r ((rest : List ℕ) → s ≢ p ++ rest)
    (λ x. s ≡ p ++ x.now) → (z : List ℕ) → (s ≡ p ++ z) ↔ (option_copied r ≡ Some z)
strip_is s p None h z = (λ e. absurd (h z e), λ e. cc)
strip_is s p (Some x) h z = (
  λ e. ap (λ l. Some l) (append_cancel_left p x.now z (sym h ∙ e)),
  λ e. let same : x.now
      ≡ z = cc in h ∙ ap (λ l. p ++ l) same,
)

pub text_of_lines-is : (n : ℕ) → 0 < n → (words : Bool) (lines : List (List ℕ)) (broken : List (List (List TextUnit)))
    → AllZip (λ line groups. IsFullest n (units n words line) groups) lines broken → text_of_lines n broken ≡ pending n words false lines
text_of_lines-is n pos words [] [] h = refl
text_of_lines-is n pos words (line ∷ []) (g ∷ []) h = text_is n pos (units n words line) g h.0 ∙ sym (append-nil (append_all n 0 (units n words line)))
text_of_lines-is n pos words (line ∷ next ∷ lines) (g ∷ k ∷ gs) h =
    ap (λ l. l ++ (10 ∷ text_of_lines n (k ∷ gs))) (text_is n pos (units n words line) g h.0)
    ∙ ap (λ l. append_all n 0 (units n words line) ++ (10 ∷ l)) (text_of_lines-is n pos words (next ∷ lines) (k ∷ gs) h.1)
text_of_lines-is n pos words [] _ h = absurd h
text_of_lines-is n pos words _ [] h = absurd h
text_of_lines-is n pos words _ _ h = absurd h.1

pub IsFullestText-iff : (n : ℕ) → 0 < n → (words : Bool) (cs out : List ℕ) → IsUtf8 out
    → (out ≡ encode_utf8_all (pending n words false (lines_of cs))) ↔ IsFullestText n words cs (chars out)
IsFullestText-iff n pos words cs out u = (
  λ e. record {
    broken = _;
    fullest = AllZip-broken n pos words (lines_of cs);
    answered = sym (chars_from_encodes (pending n words false (lines_of cs)) out u (sym e)) ∙ text_of_lines-broken n pos words (lines_of cs);
  },
  λ f. sym (encodes-chars out u) ∙ ap encode_utf8_all (f.answered ∙ text_of_lines-is n pos words (lines_of cs) f.broken f.fullest),
)

pub expected-iff : (n : ℕ) → 0 < n → (words : Bool) (cs out : List ℕ) → IsUtf8 out → (t : Option (List ℕ))
    → Expects (Some out) (encode_utf8_all (pending n words false (lines_of cs))) t → (t ≡ Some []) ↔ IsFullestText n words cs (chars out)
expected-iff n pos words cs out u t h =
    let text = encode_utf8_all (pending n words false (lines_of cs)) in
    let at = h [] in
    let iff = IsFullestText-iff n pos words cs out u in (
      λ e. let whole = at.1 e in let same : out ≡ text ++ [] = cc in iff.0 (same ∙ append-nil text),
      λ f. at.0 (ap (λ l. Some l) (iff.1 f ∙ sym (append-nil text))),
    )

-- where each unit finds room
pub roomy-iff : (n : ℕ) → 0 < n → (words : Bool) (text wrapped : List ℕ) → IsUtf8 wrapped
    → list_all (fits_line n words) (lines_of (chars text)) ≡ true
    → IsFullestText n words (chars text) (chars wrapped) ↔ IsFittingWrapping n words text wrapped
roomy-iff n pos words text wrapped u fits =
    let nonzero : (n == 0) ≡ false = ne_eqb n 0 (λ z. omega arith) in
    let full = IsFullestText n words (chars text) (chars wrapped) in (
      λ f. record {
        columns = pos;
        units = (fits_lines-iff n pos words text).0 fits;
        wrapped = record { utf8 = u; wrapped = subst (λ b. MatchBool b (wrapped ≡ []) full) (sym nonzero) f };
      },
      λ r. subst (λ b. MatchBool b (wrapped ≡ []) full) nonzero r.wrapped.wrapped,
    )

-- where one doesn't, or there is no column, nothing is
pub not_roomy : (n : ℕ) (words : Bool) (text wrapped : List ℕ)
    → (n ≡ 0) ⊎ (list_all (fits_line n words) (lines_of (chars text)) ≡ false) → IsFittingWrapping n words text wrapped → ⊥
not_roomy n words text wrapped h r = ⊎_elim
    (λ z. let pos = r.columns in omega arith)
    (λ no. let yes = (fits_lines-iff n r.columns words text).1 r.units in let clash : false ≡ true = sym no ∙ yes in cc) h
