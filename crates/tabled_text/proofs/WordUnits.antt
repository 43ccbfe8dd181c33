-- The units of a line that is wrapped between words: their text and their widths, and what holds of each.
use Rattle.tabled_text.proofs.Names.{List, TextUnit, [], ap, append-nil, append_assoc, arith, char_count, columns_of, count_of, flat_map}
use Rattle.tabled_text.proofs.Names.{is_no_feed, join_with_byte, join_with_byte-slice_split, leb-false, length, list_all, map, nat_le, refl, space}
use Rattle.tabled_text.proofs.Names.{subst, sum_by-append, sum_by-cons, sym, text_of, true, unit_of_char, width_of, words_of, inl, inr, and_from}
use Rattle.tabled_text.proofs.Names.{ℕ, ◌++◌, ◌<◌, ◌==◌, ◌∙◌, ◌∷◌, ◌≡◌, ◌≤◌, Bool}
use Rattle.std.proofs.lemmas.List.Concat.{flat_map-append}
use Rattle.tabled_text.specs.WordWrap.{SpacedUnit, further_units, on_line, spaced_units, spaced_word, with_spaces, word_units}
use Rattle.tabled_text.proofs.Basics.{cond-cases}
use Rattle.tabled_text.proofs.Bridge.{Each, Each-split, begins-split}
use Rattle.tabled_text.proofs.CountBound.{columns-count, count-some}
use Rattle.tabled_text.proofs.FitLemmas.{EachUnit, EachUnit-append, EachUnit-chars, EachUnit-parts, Feedless, IsMade}
use Rattle.tabled_text.proofs.FittingLaws.{Laid, Laid-chars, Sound, sound-parts}
use Rattle.tabled_text.proofs.OwnBreaking.{text_of-chars}
use Rattle.tabled_text.proofs.WrapKept.{own_width, width-chars}

abbrev pub whole_word : List ℕ → TextUnit
whole_word word = record { text = word; width = columns_of word }

-- what holds of the whole word and of its characters holds of its units
pub word-cases : (P : List TextUnit → Type 0) (n : ℕ) (word : List ℕ) → (columns_of word ≤ n → P (whole_word word ∷ []))
    → (n < columns_of word → P (map unit_of_char word)) → P (word_units n word)
word-cases P n word f g =
    cond-cases P (nat_le (columns_of word) n) (whole_word word ∷ []) (map unit_of_char word)
    (λ yes. f (grind (arith, yes))) (λ no. g (leb-false (columns_of word) n no))

pub word_units-some : (n : ℕ) (word : List ℕ) → 0 < length (word_units n word)
word_units-some n [] = word-cases (λ us. 0 < length us) n [] (λ _. omega arith)
    (λ wide. absurd (let none : columns_of [] ≤ 0 = columns-count [] in omega arith))
word_units-some n (c ∷ cs) = word-cases (λ us. 0 < length us) n (c ∷ cs) (λ _. omega arith) (λ _. omega arith)

-- ---- units with what is before them

pub with_spaces-append : (g h : List SpacedUnit) → with_spaces (g ++ h) ≡ with_spaces g ++ with_spaces h
with_spaces-append g h = flat_map-append (λ (u : SpacedUnit). u.before ++ u.unit ∷ []) g h

pub on_line-append : (u : SpacedUnit) (g h : List SpacedUnit) → on_line (u ∷ (g ++ h)) ≡ on_line (u ∷ g) ++ with_spaces h
on_line-append u g h = ap (λ l. u.unit ∷ l) (with_spaces-append g h)

-- what is before the first unit, and the others
pub with_spaces-first : (u : SpacedUnit) (g : List SpacedUnit) → with_spaces (u ∷ g) ≡ u.before ++ on_line (u ∷ g)
with_spaces-first u g = append_assoc u.before (u.unit ∷ []) (with_spaces g)

with_spaces-none : (us : List TextUnit) → with_spaces (spaced_word [] us) ≡ us
with_spaces-none [] = refl
with_spaces-none (u ∷ us) = ap (λ l. u ∷ l) (with_spaces-none us)

with_spaces-word : (before us : List TextUnit) → 0 < length us → with_spaces (spaced_word before us) ≡ before ++ us
with_spaces-word before [] some = absurd (omega arith)
with_spaces-word before (u ∷ us) some =
    append_assoc before (u ∷ []) (with_spaces (spaced_word [] us)) ∙ ap (λ l. before ++ u ∷ l) (with_spaces-none us)

-- the units of words, with a space before each or between every two
abbrev pub further_words : ℕ → List (List ℕ) → List TextUnit
further_words n [] = []
further_words n (w ∷ ws) = space ∷ (word_units n w ++ further_words n ws)

abbrev pub all_words : ℕ → List (List ℕ) → List TextUnit
all_words n [] = []
all_words n (w ∷ ws) = word_units n w ++ further_words n ws

with_spaces-further : (n : ℕ) (words : List (List ℕ)) → with_spaces (further_units n words) ≡ further_words n words
with_spaces-further n [] = refl
with_spaces-further n (w ∷ ws) =
    with_spaces-append (spaced_word (space ∷ []) (word_units n w)) (further_units n ws)
    ∙ ap (λ l. l ++ with_spaces (further_units n ws)) (with_spaces-word (space ∷ []) (word_units n w) (word_units-some n w))
    ∙ ap (λ l. space ∷ (word_units n w ++ l)) (with_spaces-further n ws)

pub with_spaces-units : (n : ℕ) (words : List (List ℕ)) → with_spaces (spaced_units n words) ≡ all_words n words
with_spaces-units n [] = refl
with_spaces-units n (w ∷ ws) =
    with_spaces-append (spaced_word [] (word_units n w)) (further_units n ws)
    ∙ ap (λ l. l ++ with_spaces (further_units n ws)) (with_spaces-none (word_units n w))
    ∙ ap (λ l. word_units n w ++ l) (with_spaces-further n ws)

-- the first unit of a line, which has nothing before it, and the others
pub record BeginsBare (units : List SpacedUnit) : Type 0 where
  pub first : TextUnit
  pub more : List SpacedUnit
  pub is : units ≡ record { before = []; unit = first } ∷ more

bare-word : (us : List TextUnit) (g : List SpacedUnit) → 0 < length us → BeginsBare (spaced_word [] us ++ g)
bare-word [] g some = absurd (omega arith)
bare-word (u ∷ us) g some = record { first = u; more = spaced_word [] us ++ g; is = refl }

pub begins-bare : (n : ℕ) (line : List ℕ) → BeginsBare (spaced_units n (words_of line))
begins-bare n line =
    let b = begins-split (λ c. c == 32) line in
    subst (λ ws. BeginsBare (spaced_units n ws)) (sym b.parts)
    (bare-word (word_units n b.first) (further_units n b.rest) (word_units-some n b.first))

-- so a line on a line of its own has all its units and spaces
pub on_line-units : (n : ℕ) (line : List ℕ) → on_line (spaced_units n (words_of line)) ≡ all_words n (words_of line)
on_line-units n line =
    let b = begins-bare n line in
    let bare : SpacedUnit = record { before = []; unit = b.first } in
    let same : on_line (bare ∷ b.more) ≡ with_spaces (bare ∷ b.more) = refl in
    ap on_line b.is ∙ same ∙ ap with_spaces (sym b.is) ∙ with_spaces-units n (words_of line)

-- ---- the text of a line, and its width

text_of-word : (n : ℕ) (word : List ℕ) → text_of (word_units n word) ≡ word
text_of-word n word = word-cases (λ us. text_of us ≡ word) n word (λ _. append-nil word) (λ _. text_of-chars word)

text_of-joined : (n : ℕ) (w : List ℕ) (ws : List (List ℕ)) → text_of (word_units n w ++ further_words n ws) ≡ join_with_byte 32 (w ∷ ws)
text_of-joined n w [] = ap text_of (append-nil (word_units n w)) ∙ text_of-word n w
text_of-joined n w (x ∷ ws) =
    flat_map-append (λ (p : TextUnit). p.text) (word_units n w) (further_words n (x ∷ ws))
    ∙ ap (λ l. l ++ text_of (further_words n (x ∷ ws))) (text_of-word n w) ∙ ap (λ l. w ++ 32 ∷ l) (text_of-joined n x ws)

pub text_of-line : (n : ℕ) (line : List ℕ) → text_of (on_line (spaced_units n (words_of line))) ≡ line
text_of-line n line =
    let b = begins-split (λ c. c == 32) line in
    ap text_of (on_line-units n line ∙ ap (all_words n) b.parts) ∙ text_of-joined n b.first b.rest
    ∙ ap (join_with_byte 32) (sym b.parts) ∙ join_with_byte-slice_split 32 line

width-word : (n : ℕ) (word : List ℕ) → width_of (word_units n word) ≤ count_of word
width-word n word = word-cases (λ us. width_of us ≤ count_of word) n word
    (λ _. omega (arith, columns-count word, sum_by-cons own_width (whole_word word) [])) (λ _. omega (arith, width-chars word))

width-joined : (n : ℕ) (w : List ℕ) (ws : List (List ℕ)) → width_of (word_units n w ++ further_words n ws)
    ≤ count_of (join_with_byte 32 (w ∷ ws))
width-joined n w [] = subst (λ us. width_of us ≤ count_of w) (sym (append-nil (word_units n w))) (width-word n w)
width-joined n w (x ∷ ws) =
    let more = word_units n x ++ further_words n ws in
    let rest = join_with_byte 32 (x ∷ ws) in
    omega (
      arith,
      sum_by-append own_width (word_units n w) (space ∷ more),
      sum_by-cons own_width space more,
      width-word n w,
      width-joined n x ws,
      sum_by-append char_count w (32 ∷ rest),
      sum_by-cons char_count 32 rest,
      count-some 32,
    )

pub width-line : (n : ℕ) (line : List ℕ) → width_of (on_line (spaced_units n (words_of line))) ≤ count_of line
width-line n line =
    let b = begins-split (λ c. c == 32) line in
    let joined = ap (join_with_byte 32) (sym b.parts) ∙ join_with_byte-slice_split 32 line in
    subst (λ us. width_of us ≤ count_of line) (sym (on_line-units n line ∙ ap (all_words n) b.parts))
    (subst (λ l. width_of (all_words n (b.first ∷ b.rest)) ≤ count_of l) joined (width-joined n b.first b.rest))

-- ---- what holds of each unit

module _ (q : ℕ → Bool) (P : TextUnit → Type 0) (made : IsMade q P) where
  each-word : (n : ℕ) (word : List ℕ) → list_all q word ≡ true → EachUnit P (word_units n word)
  each-word n word h = word-cases (EachUnit P) n word (λ _. (made.word word h, tt)) (λ _. EachUnit-chars q P made word h)

  each-further : (n : ℕ) (words : List (List ℕ)) → Each q words → EachUnit P (further_words n words)
  each-further n [] h = tt
  each-further n (w ∷ ws) h =
      (made.space, EachUnit-append P (word_units n w) (further_words n ws) (each-word n w h.0) (each-further n ws h.1))

  each-all : (n : ℕ) (words : List (List ℕ)) → Each q words → EachUnit P (all_words n words)
  each-all n [] h = tt
  each-all n (w ∷ ws) h = EachUnit-append P (word_units n w) (further_words n ws) (each-word n w h.0) (each-further n ws h.1)

  pub each-units : (n : ℕ) (line : List ℕ) → list_all q line ≡ true → EachUnit P (with_spaces (spaced_units n (words_of line)))
  each-units n line h =
      subst (EachUnit P) (sym (with_spaces-units n (words_of line)))
      (each-all n (words_of line) (Each-split (λ c. c == 32) q q (λ c a b. a) line h))

-- ---- what holds of the units of all groups holds of those of each on its line

pub each-on_line : (P : TextUnit → Type 0) (g : List SpacedUnit) → EachUnit P (with_spaces g) → EachUnit P (on_line g)
each-on_line P [] h = tt
each-on_line P (u ∷ g) h = (EachUnit-parts P u.before (on_line (u ∷ g)) (subst (EachUnit P) (with_spaces-first u g) h)).1

pub each-groups : (P : TextUnit → Type 0) (g : List SpacedUnit) (gs : List (List SpacedUnit))
    → EachUnit P (with_spaces (flat_map (λ x. x) (g ∷ gs))) → EachUnit P (on_line g) × EachUnit P (with_spaces (flat_map (λ x. x) gs))
each-groups P g gs h =
    let rest = flat_map (λ (x : List SpacedUnit). x) gs in
    let parts = EachUnit-parts P (with_spaces g) (with_spaces rest) (subst (EachUnit P) (with_spaces-append g rest) h) in
    (each-on_line P g parts.0, parts.1)

pub each-lines : (P : TextUnit → Type 0) (gs : List (List SpacedUnit)) → EachUnit P (with_spaces (flat_map (λ x. x) gs))
    → EachUnit P (flat_map (λ x. x) (map on_line gs))
each-lines P [] h = tt
each-lines P (g ∷ gs) h =
    let parts = each-groups P g gs h in
    EachUnit-append P (on_line g) (flat_map (λ x. x) (map on_line gs)) parts.0 (each-lines P gs parts.1)

sound-on_line : (g : List SpacedUnit) → Sound (with_spaces g) → Sound (on_line g)
sound-on_line [] s = s
sound-on_line (u ∷ g) s = (sound-parts u.before (on_line (u ∷ g)) (subst Sound (with_spaces-first u g) s)).1

pub sound-groups : (g : List SpacedUnit) (gs : List (List SpacedUnit)) → Sound (with_spaces (flat_map (λ x. x) (g ∷ gs)))
    → Sound (on_line g) × Sound (with_spaces (flat_map (λ x. x) gs))
sound-groups g gs s =
    let rest = flat_map (λ (x : List SpacedUnit). x) gs in
    let parts = sound-parts (with_spaces g) (with_spaces rest) (subst Sound (with_spaces-append g rest) s) in
    (sound-on_line g parts.0, parts.1)

-- ---- the units of a line as they stand in it

Laid-word : (n : ℕ) (word : List ℕ) (tail : List TextUnit) → ((j : ℕ) → Laid j tail) → Laid 0 (word_units n word ++ tail)
Laid-word n word tail h = word-cases (λ us. Laid 0 (us ++ tail)) n word
    (λ _. inr (inr (refl, (record { width = refl }, h 2)))) (λ _. Laid-chars 0 (omega arith) word tail h)

Laid-further : (n : ℕ) (words : List (List ℕ)) (j : ℕ) → Laid j (further_words n words)
Laid-further n [] j = tt
Laid-further n (w ∷ ws) j = inl (record { text = refl; width = refl }, Laid-word n w (further_words n ws) (Laid-further n ws))

Laid-all : (n : ℕ) (words : List (List ℕ)) → Laid 0 (all_words n words)
Laid-all n [] = tt
Laid-all n (w ∷ ws) = Laid-word n w (further_words n ws) (Laid-further n ws)

feedless-made : IsMade is_no_feed Feedless
feedless-made = record { char = λ c a. and_from (is_no_feed c) true a refl; word = λ cs a. a; space = refl }

pub feedless-words : (n : ℕ) (line : List ℕ) → list_all is_no_feed line ≡ true
    → EachUnit Feedless (with_spaces (spaced_units n (words_of line)))
feedless-words n line h = each-units is_no_feed Feedless feedless-made n line h

pub sound-units : (n : ℕ) (line : List ℕ) → list_all is_no_feed line ≡ true → Sound (with_spaces (spaced_units n (words_of line)))
sound-units n line h = record {
  laid = subst (Laid 0) (sym (with_spaces-units n (words_of line))) (Laid-all n (words_of line));
  feedless = feedless-words n line h;
}
