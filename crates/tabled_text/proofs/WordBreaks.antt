-- Printable ASCII, broken between words: what is before a break stays as it is.
use Rattle.tabled_text.proofs.Names.{All, All-cons, All-nil, Bool, Bor, BreaksAt, IsSplitAt, List, None, Option, Some, TextUnit, [], ap}
use Rattle.tabled_text.proofs.Names.{append-nil, append_all, append_assoc, arith, cases_Bool, cases_lt, columns_of, cond, drop, encode_utf8}
use Rattle.tabled_text.proofs.Names.{encode_utf8_all, encodes-IsAscii, encodes-append, eqb, eqb-true, false, get_or, get_or-drop, inl, inr}
use Rattle.tabled_text.proofs.Names.{is_additive, is_in_range, le-leb, length, length-append, length-drop, length-take-le, list_all, lt-leb}
use Rattle.tabled_text.proofs.Names.{map, needed, refl, slice_split_none, space, split_at, subst, suc, sym, take, take-append-drop, true}
use Rattle.tabled_text.proofs.Names.{unit_of_char, units, units_of_word, units_of_words, used_after, words_in, words_of, written_line, zero}
use Rattle.tabled_text.proofs.Names.{ℕ, ⊎_elim, ⊤, ◌++◌, ◌+◌, ◌-◌, ◌<◌, ◌∙◌, ◌∷◌, ◌≡◌, ◌≤◌}
use Rattle.std.proofs.Math.Seq.{drop-append_seam, drop-cons, get_or-append_seam, take-append_seam, take-suc}
use Rattle.std.proofs.lemmas.List.Elements.{All-drop}
use Rattle.tabled_text.proofs.Basics.{all-halves, all-parts}
use Rattle.tabled_text.proofs.Bridge.{begins-split, split-append}
use Rattle.tabled_text.proofs.Filling.{append_all-append, append_all-breaks, short, unit_of}
use Rattle.tabled_text.proofs.Pieces.{IsAscii-printable, chars-printable, count_of-printable, filled-line, fitted, is_printable}
use Rattle.tabled_text.proofs.PlainLines.{plain_line-printable}
use Rattle.tabled_text.proofs.Searched.{all-front, whole-front, whole-parts, words-split}
use Rattle.tabled_text.proofs.WrapKept.{line_kept-before}

-- ---- the units around a space

units-append : (n : ℕ) (ws : List (List ℕ)) (v : List ℕ) (vs : List (List ℕ)) → 0 < length ws
    → units_of_words n (ws ++ v ∷ vs) ≡ units_of_words n ws ++ space ∷ units_of_words n (v ∷ vs)
units-append n [] v vs h = absurd (omega arith)
units-append n (w ∷ []) v vs h = refl
units-append n (w ∷ u ∷ ws) v vs h =
    ap (λ l. units_of_word n w ++ space ∷ l) (units-append n (u ∷ ws) v vs (omega arith))
    ∙ sym (append_assoc (units_of_word n w) (space ∷ units_of_words n (u ∷ ws)) (space ∷ units_of_words n (v ∷ vs)))

abbrev kept_units : ℕ → List ℕ → List TextUnit
kept_units n cs = units_of_words n (words_of cs)

units-around : (n : ℕ) (xs ys : List ℕ) → kept_units n (xs ++ 32 ∷ ys) ≡ kept_units n xs ++ space ∷ kept_units n ys
units-around n xs ys =
    let back = begins-split (λ c. eqb c 32) ys in
    let some : 0 < length (words_of xs) = omega (arith, ap length (begins-split (λ c. eqb c 32) xs).parts) in
    ap (units_of_words n) (split-append (λ c. eqb c 32) 32 refl xs ys)
    ∙ subst (λ ws. units_of_words n (words_of xs ++ ws) ≡ units_of_words n (words_of xs) ++ space ∷ units_of_words n ws) (sym back.parts)
    (units-append n (words_of xs) back.first back.rest some)

-- the units before an index, which is 0 or after a space, and those from it on
around : (n k : ℕ) (line : List ℕ) → k ≤ length line → (0 < k → get_or line (k - 1) 0 ≡ 32)
    → kept_units n line ≡ kept_units n (take k line) ++ kept_units n (drop k line)
around n zero [] le at = refl
around n zero (c ∷ cs) le at = refl
around n (suc j) line le at =
    let xs = take j line in
    let zs = drop (suc j) line in
    let same : suc j - 1 ≡ j = omega arith in
    let is : get_or line j 0 ≡ 32 = ap (λ i. get_or line i 0) (sym same) ∙ at (omega arith) in
    let taken : take (suc j) line ≡ xs ++ 32 ∷ [] = take-suc line j 0 (omega arith) ∙ ap (λ c. xs ++ c ∷ []) is in
    ap (kept_units n) (split_at line j 0 (omega arith) ∙ ap (λ c. xs ++ c ∷ zs) is)
    ∙ units-around n xs zs ∙ sym (append_assoc (kept_units n xs) (space ∷ []) (kept_units n zs))
    ∙ ap (λ l. l ++ kept_units n zs) (sym (ap (kept_units n) taken ∙ units-around n xs []))

-- ---- the first unit after a break

record First (us : List TextUnit) (p : TextUnit) : Type 0 where
  tail : List TextUnit
  is : us ≡ p ∷ tail

first-word : (n : ℕ) (w : List ℕ) (ws : List (List ℕ)) (p : TextUnit) → units_of_word n w ≡ p ∷ [] → First (units_of_words n (w ∷ ws)) p
first-word n w [] p e = record { tail = []; is = e }
first-word n w (v ∷ ws) p e = record {
  tail = space ∷ units_of_words n (v ∷ ws);
  is = ap (λ l. l ++ space ∷ units_of_words n (v ∷ ws)) e;
}

columns-printable_line : (cs : List ℕ) → is_printable cs ≡ true → columns_of cs ≡ length cs
columns-printable_line cs h = subst (λ l. columns_of l ≡ length cs) (chars-printable cs h) (plain_line-printable cs h).columns

additive-printable : (cs : List ℕ) → is_printable cs ≡ true → list_all is_additive cs ≡ true
additive-printable cs h = subst (λ l. list_all is_additive l ≡ true) (chars-printable cs h) (plain_line-printable cs h).characters

-- a line ends before a unit that does not fit
ended : (n : ℕ) (front : List ℕ) (us : List TextUnit) (p : TextUnit) → 0 < n → is_printable front ≡ true → length front ≤ n → First us p
    → n < length front + needed n p → append_all n 0 (kept_units n front ++ us) ≡ front ++ 10 ∷ append_all n 0 us
ended n front us p some h le f wide =
    let columns = columns-printable_line front h in
    line_kept-before n true front us (additive-printable front h) (omega arith)
    ∙ ap (λ k. front ++ append_all n k us) columns
    ∙ ap (λ l. front ++ append_all n (length front) l) f.is
    ∙ ap (λ l. front ++ l) (append_all-breaks n (length front) p f.tail some wide)
    ∙ ap (λ l. front ++ 10 ∷ append_all n 0 l) (sym f.is)

pub needed-narrow : (n : ℕ) (p : TextUnit) → p.width ≤ n → needed n p ≡ p.width
needed-narrow n p le = ap (λ b. cond b p.width 1) (le-leb p.width n le)

-- before a space
pub breaks-before : (n : ℕ) (line : List ℕ) → 0 < n → is_printable line ≡ true → n < length line → get_or line n 0 ≡ 32
    → BreaksAt n true line n
breaks-before n line some h long at =
    let front = take n line in
    let ys = drop (suc n) line in
    let back : drop n line ≡ 32 ∷ ys = drop-cons line n 0 long ∙ ap (λ c. c ∷ ys) at in
    let whole : line ≡ front ++ 32 ∷ ys = split_at line n 0 long ∙ ap (λ c. front ++ c ∷ ys) at in
    let len : length front ≡ n = length-take-le n line (omega arith) in
    let need = needed-narrow n space some in
    let first : First (space ∷ kept_units n ys) space = record { tail = kept_units n ys; is = refl } in
    record {
      some = some;
      end = omega arith;
      rest = ap (λ l. append_all n 0 (kept_units n l)) whole ∙ ap (append_all n 0) (units-around n front ys)
          ∙ ended n front (space ∷ kept_units n ys) space some (all-parts (is_in_range 0x20 0x7E) n line h).0 (omega arith) first
          (omega (arith, need))
          ∙ ap (λ us. front ++ 10 ∷ append_all n 0 us) (sym (units-around n [] ys))
          ∙ ap (λ l. front ++ 10 ∷ append_all n 0 (kept_units n l)) (sym back);
    }

-- behind a space, before a word that does not fit
breaks-after : (n k : ℕ) (line word : List ℕ) (ws : List (List ℕ)) → 0 < n → is_printable line ≡ true → k ≤ n → n < length line
    → (0 < k → get_or line (k - 1) 0 ≡ 32) → words_of (drop k line) ≡ word ∷ ws → is_printable word ≡ true → length word ≤ n
    → n < k + length word → BreaksAt n true line k
breaks-after n k line word ws some h le long at words own short_word wide =
    let columns = columns-printable_line word own in
    let p = unit_of word (columns_of word) in
    let one : units_of_word n word ≡ p ∷ [] = short n word (λ e. (let z = ap length e in omega arith)) (omega arith) in
    let first : First (kept_units n (drop k line)) p = subst (λ l. First (units_of_words n l) p) (sym words) (first-word n word ws p one) in
    let len : length (take k line) ≡ k = length-take-le k line (omega arith) in
    let need : needed n p ≡ columns_of word = needed-narrow n p (omega arith) in
    record {
      some = omega arith;
      end = omega arith;
      rest = ap (append_all n 0) (around n k line (omega arith) at)
          ∙ ended n (take k line) (kept_units n (drop k line)) p some (all-parts (is_in_range 0x20 0x7E) k line h).0 (omega arith) first
          (omega (arith, need));
    }

-- ---- inside a word that is wider than a line

pub wide-word : (n : ℕ) (cs : List ℕ) → n < columns_of cs → 0 < length cs → units_of_word n cs ≡ map unit_of_char cs
wide-word n [] wide some = absurd (omega arith)
wide-word n (c ∷ cs) wide some =
    ap (λ b. cond b (unit_of (c ∷ cs) (columns_of (c ∷ cs)) ∷ []) (map unit_of_char (c ∷ cs))) (lt-leb (columns_of (c ∷ cs)) n wide)

own-word : (n : ℕ) (w : List ℕ) → All (λ b. eqb b 32 ≡ false) w → kept_units n w ≡ units_of_word n w
own-word n w none = ap (units_of_words n) (slice_split_none (λ b. eqb b 32) w none)

-- a word is written as its characters are
as-chars : (n : ℕ) (w : List ℕ) (us : List TextUnit) → is_printable w ≡ true → All (λ b. eqb b 32 ≡ false) w
    → append_all n 0 (map unit_of_char w ++ us) ≡ append_all n 0 (units_of_word n w ++ us)
as-chars n w us h none =
    let columns = columns-printable_line w h in
    let count = count_of-printable w h in
    elim (cases_lt n (length w)) [
      | inl wide ↦ ap (λ l. append_all n 0 (l ++ us)) (sym (wide-word n w (omega arith) (omega arith)))
      | inr le ↦
          let fit = fitted n 0 w (omega arith) in
          let same : used_after n 0 (map unit_of_char w) ≡ columns_of w = omega (arith, fit.used_is) in
          append_all-append n 0 (map unit_of_char w) us
          ∙ ap (λ l. l ++ append_all n (used_after n 0 (map unit_of_char w)) us) fit.text
          ∙ ap (λ k. w ++ append_all n k us) same
          ∙ sym (line_kept-before n true w us (additive-printable w h) (omega arith))
          ∙ ap (λ l. append_all n 0 (l ++ us)) (own-word n w none)
    ]

-- what follows a word: nothing, or a space and more
abbrev IsTail : List ℕ → Type 0
IsTail [] = ⊤
IsTail (c ∷ cs) = c ≡ 32

abbrev tail_units : ℕ → List ℕ → List TextUnit
tail_units n [] = []
tail_units n (c ∷ cs) = space ∷ kept_units n cs

opened : (n : ℕ) (w tail : List ℕ) → IsTail tail → All (λ b. eqb b 32 ≡ false) w
    → kept_units n (w ++ tail) ≡ units_of_word n w ++ tail_units n tail
opened n w [] t none = ap (kept_units n) (append-nil w) ∙ own-word n w none ∙ sym (append-nil (units_of_word n w))
opened n w (c ∷ cs) t none = ap (λ d. kept_units n (w ++ d ∷ cs)) t ∙ units-around n w cs
    ∙ ap (λ l. l ++ space ∷ kept_units n cs) (own-word n w none)

pub record BeginsWith (text word : List ℕ) : Type 0 where
  tail : List ℕ
  parts : text ≡ word ++ tail
  tail_is : IsTail tail
  none : All (λ b. eqb b 32 ≡ false) word

pub word-split : (text word : List ℕ) (after : Option (Bor (List ℕ))) → IsSplitAt 32 text word after → BeginsWith text word
word-split text word None s = record {
  tail = [];
  parts = whole-front 32 text word None s s.after_is ∙ sym (append-nil word);
  tail_is = tt;
  none = all-front 32 text word None s;
}
word-split text word (Some rest) s = record {
  tail = 32 ∷ rest.now;
  parts = whole-parts 32 text word rest s;
  tail_is = refl;
  none = all-front 32 text word (Some rest) s;
}

-- each text begins with a word, which may be empty
begun : (text : List ℕ) → (word : List ℕ) × BeginsWith text word
begun [] = ([], record { tail = []; parts = refl; tail_is = tt; none = All-nil (λ b. eqb b 32 ≡ false) })
begun (c ∷ cs) = ⊎_elim
    (λ yes. ([], record { tail = c ∷ cs; parts = refl; tail_is = eqb-true c 32 yes; none = All-nil (λ b. eqb b 32 ≡ false) }))
    (λ no. let more = begun cs in
    (c ∷ more.0, record { tail = more.1.tail; parts = ap (λ l. c ∷ l) more.1.parts; tail_is = more.1.tail_is; none = All-cons (λ b. eqb b 32 ≡ false) c more.0 no more.1.none }))
    (cases_Bool (eqb c 32))

-- a space follows it
space-at : (word tail : List ℕ) → IsTail tail → 0 < length tail → get_or (word ++ tail) (length word) 0 ≡ 32
space-at word [] t some = absurd (omega arith)
space-at word (c ∷ cs) t some = get_or-append_seam word c cs 0 ∙ t

-- a word that begins at k is wider than a line: it is broken where the line is full
pub breaks-inside : (n k m : ℕ) (line word : List ℕ) → 0 < n → is_printable line ≡ true → n < length line → k + m ≡ n
    → (0 < k → get_or line (k - 1) 0 ≡ 32) → BeginsWith (drop k line) word → n < length word → BreaksAt n true line n
breaks-inside n k m line word some h long e at t wide =
    let front = take k line in
    let none = t.none in
    let us = tail_units n t.tail in
    let halves = all-parts (is_in_range 0x20 0x7E) k line h in
    let own : is_printable word ≡ true = (all-halves (is_in_range 0x20 0x7E) word t.tail (ap is_printable (sym t.parts) ∙ halves.1)).0 in
    let head = take m word in
    let w = drop m word in
    let front_len : length front ≡ k = length-take-le k line (omega arith) in
    let columns = columns-printable_line front halves.0 in
    let head_len : length head ≡ m = length-take-le m word (omega arith) in
    let len : length (front ++ head) ≡ n = omega (arith, length-append front head) in
    let whole : line ≡ (front ++ head) ++ (w ++ t.tail) =
    sym (take-append-drop k line)
    ∙ ap (λ l. front ++ l) (t.parts ∙ ap (λ l. l ++ t.tail) (sym (take-append-drop m word)) ∙ append_assoc head w t.tail)
    ∙ sym (append_assoc front head (w ++ t.tail)) in
    let taken : take n line ≡ front ++ head = ap (take n) whole ∙ ap (λ i. take i ((front ++ head) ++ (w ++ t.tail))) (sym len)
    ∙ take-append_seam (front ++ head) (w ++ t.tail) in
    let dropped : drop n line ≡ w ++ t.tail = ap (drop n) whole ∙ ap (λ i. drop i ((front ++ head) ++ (w ++ t.tail))) (sym len)
    ∙ drop-append_seam (front ++ head) (w ++ t.tail) in
    let next = append_all n 0 (kept_units n (drop n line)) in
    record {
      some = some;
      end = omega arith;
      rest = ap (append_all n 0) (around n k line (omega arith) at)
          ∙ ap (λ l. append_all n 0 (kept_units n front ++ l))
          (ap (kept_units n) t.parts ∙ opened n word t.tail t.tail_is none
          ∙ ap (λ l. l ++ us) (wide-word n word (omega (arith, columns-printable_line word own)) (omega arith)))
          ∙ line_kept-before n true front (map unit_of_char word ++ us) (additive-printable front halves.0) (omega arith)
          ∙ ap (λ j. front ++ append_all n j (map unit_of_char word ++ us)) (columns ∙ front_len)
          ∙ ap (λ l. front ++ l) (filled-line n k m word us some e own (omega arith))
          ∙ ap (λ l. front ++ (head ++ 10 ∷ l))
          (as-chars n w us (all-parts (is_in_range 0x20 0x7E) m word own).1 (All-drop (λ b. eqb b 32 ≡ false) m word none)
          ∙ ap (append_all n 0) (sym (opened n w t.tail t.tail_is (All-drop (λ b. eqb b 32 ≡ false) m word none)) ∙ ap (kept_units n) (sym dropped)))
          ∙ sym (append_assoc front head (10 ∷ next))
          ∙ ap (λ l. l ++ 10 ∷ next) (sym taken);
    }

-- where no words are kept
pub breaks-full : (n : ℕ) (line : List ℕ) → 0 < n → is_printable line ≡ true → n < length line → BreaksAt n false line n
breaks-full n line some h long = record {
  some = some;
  end = omega arith;
  rest = ap (append_all n 0) (sym (append-nil (map unit_of_char line))) ∙ filled-line n 0 n line [] some (omega arith) h long
      ∙ ap (λ l. take n line ++ 10 ∷ append_all n 0 l) (append-nil (map unit_of_char (drop n line)));
}

-- ---- what is written

pub written-more : (n k : ℕ) (words : Bool) (cs : List ℕ) → is_printable cs ≡ true → BreaksAt n words cs k
    → take k cs ++ (encode_utf8 10 ++ written_line n words (drop k cs)) ≡ written_line n words cs
written-more n k words cs h b =
    let front = take k cs in
    let parts = all-parts (is_in_range 0x20 0x7E) k cs h in
    let more = append_all n 0 (units n words (drop k cs)) in
    let written : written_line n words cs ≡ front ++ (encode_utf8 10 ++ encode_utf8_all more) =
    ap (λ l. encode_utf8_all (append_all n 0 (units n words l))) (chars-printable cs h)
    ∙ ap encode_utf8_all b.rest ∙ encodes-append front (10 ∷ more)
    ∙ ap (λ l. l ++ (encode_utf8 10 ++ encode_utf8_all more)) (encodes-IsAscii front (IsAscii-printable front parts.0)) in
    ap (λ l. front ++ (encode_utf8 10 ++ encode_utf8_all (append_all n 0 (units n words l)))) (chars-printable (drop k cs) parts.1)
    ∙ sym written

-- ---- the word that passes a line

-- where it begins at k, no byte from there to the end of the line is a space
pub passes : (n k : ℕ) (line word : List ℕ) → n < length line → k ≤ n → BeginsWith (drop k line) word
    → ((j : ℕ) → k ≤ j → j < n → get_or line j 0 ≡ 32 → ⊥) → (get_or line n 0 ≡ 32 → ⊥) → n < k + length word
passes n k line word long le t none next =
    elim (cases_lt n (k + length word)) [
      | inl wide ↦ wide
      | inr few ↦
          let here : get_or line (k + length word) 0 ≡ 32 =
          sym (get_or-drop k line (length word) 0) ∙ ap (λ l. get_or l (length word) 0) t.parts
          ∙ space-at word t.tail t.tail_is (omega (arith, length-drop k line, ap length t.parts, length-append word t.tail)) in
          absurd (elim (cases_lt (k + length word) n) [
            | inl before ↦ none (k + length word) (omega arith) before here
            | inr at ↦ (let same : k + length word ≡ n = omega arith in next (ap (λ j. get_or line j 0) (sym same) ∙ here))
          ])
    ]

-- where a line has no space, it is broken where it is full
pub breaks-one : (n : ℕ) (line : List ℕ) → 0 < n → is_printable line ≡ true → n < length line
    → ((j : ℕ) → j < n → get_or line j 0 ≡ 32 → ⊥) → (get_or line n 0 ≡ 32 → ⊥) → BreaksAt n true line n
breaks-one n line some h long none next =
    let first = begun line in
    let wide = passes n 0 line first.0 long (omega arith) first.1 (λ j _ to is. none j to is) next in
    breaks-inside n 0 n line first.0 some h long (omega arith) (λ z. absurd (omega arith)) first.1 (omega (arith, wide))

-- it is split off
pub breaks-word : (n k : ℕ) (line word : List ℕ) (after : Option (Bor (List ℕ))) → 0 < n → is_printable line ≡ true → k ≤ n
    → n < length line → (0 < k → get_or line (k - 1) 0 ≡ 32) → IsSplitAt 32 (drop k line) word after → length word ≤ n → n < k + length word
    → BreaksAt n true line k
breaks-word n k line word after some h le long at s short_word wide =
    let back = all-parts (is_in_range 0x20 0x7E) k line h in
    let own : is_printable word ≡ true = ap is_printable s.front_is
    ∙ (all-parts (is_in_range 0x20 0x7E) (length word) (drop k line) back.1).0 in
    let words : words_of (drop k line) ≡ word ∷ words_in after =
    ap words_of (sym (chars-printable (drop k line) back.1)) ∙ words-split (drop k line) word after s
    ∙ ap (λ l. l ∷ words_in after) (chars-printable word own) in
    breaks-after n k line word (words_in after) some h le long at words own short_word wide
