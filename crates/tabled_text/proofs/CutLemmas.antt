-- One more character at the end of a beginning.
use Rattle.tabled_text.proofs.Names.{All, All-cons, All-head, All-nil, All-tail, Bool, IsCharBoundary, IsCharBoundary-at_seam, IsCut}
use Rattle.tabled_text.proofs.Names.{IsLongestReached, IsParted, IsReached, IsScalar, IsUtf8, IsUtf8-append, IsUtf8-encode, IsUtf8-nil}
use Rattle.tabled_text.proofs.Names.{List, [], and_from, and_parts, ap, append-nil, append_assoc, arith, cases_lt, char_count, chars}
use Rattle.tabled_text.proofs.Names.{chars-append, chars-encodes, chars-nil, chars_past_char, cond, count_of, drop, drop_at, encode_utf8}
use Rattle.tabled_text.proofs.Names.{encode_utf8_all, false, is_no_feed, last_line, last_of, length, length-append, length-take-le}
use Rattle.tabled_text.proofs.Names.{lines_of, missing_columns, ne_eqb, not, refl, replicate, scalars-chars, subst, sum_by_push, sym, take}
use Rattle.tabled_text.proofs.Names.{take-append-le, take-take, take_at, true, ℕ, ⊎_elim, ◌++◌, ◌+◌, ◌-◌, ◌<◌, ◌==◌, ◌∙◌, ◌∷◌, ◌≡◌, ◌≤◌}
use Rattle.std.proofs.lemmas.List.Elements.{All-push}
use Rattle.std.proofs.lemmas.List.{length_push}
use Rattle.tabled_text.specs.Cut.{IsSplit, following}
use lib.Utf8.{scalar, scalars}
use Rattle.tabled_text.proofs.Basics.{list_all-copies}
use Rattle.tabled_text.proofs.Bridge.{add_last, begins, lines_of-feed, lines_of-last, list_all-scalars, some_line}

abbrev is_feed : ℕ → Bool
is_feed c = c == 10

last_of-push : (S : List (List ℕ)) (x : List ℕ) → last_of (S ++ x ∷ []) ≡ x
last_of-push [] x = refl
last_of-push (s ∷ []) x = refl
last_of-push (s ∷ t ∷ S) x = last_of-push (t ∷ S) x

last_of-added : (xs s : List ℕ) (S : List (List ℕ)) → last_of (add_last (s ∷ S) xs) ≡ last_of (s ∷ S) ++ xs
last_of-added xs s [] = refl
last_of-added xs s (t ∷ []) = refl
last_of-added xs s (t ∷ u ∷ S) = last_of-added xs t (u ∷ S)

All-last_of : (P : List ℕ → Type 0) (s : List ℕ) (S : List (List ℕ)) → All P (s ∷ S) → P (last_of (s ∷ S))
All-last_of P s [] h = All-head P s [] h
All-last_of P s (t ∷ S) h = All-last_of P t S (All-tail P s (t ∷ S) h)

All-added : (P : List ℕ → Type 0) (xs s : List ℕ) (S : List (List ℕ)) → All P (s ∷ S) → P (last_of (s ∷ S) ++ xs)
    → All P (add_last (s ∷ S) xs)
All-added P xs s [] h p = All-cons P (s ++ xs) [] p (All-nil P)
All-added P xs s (t ∷ S) h p = All-cons P s (add_last (t ∷ S) xs) (All-head P s (t ∷ S) h) (All-added P xs t S (All-tail P s (t ∷ S) h) p)

-- the last line with one more character
pub last_line-feed : (cs : List ℕ) → last_line (cs ++ 10 ∷ []) ≡ []
last_line-feed cs = ap last_of (lines_of-feed cs []) ∙ last_of-push (lines_of cs) []

lines_of-push : (cs : List ℕ) (y : ℕ) → is_feed y ≡ false → lines_of (cs ++ y ∷ []) ≡ add_last (lines_of cs) (y ∷ [])
lines_of-push cs y h = lines_of-last cs (y ∷ []) (and_from (is_no_feed y) true (ap not h) refl)

pub last_line-push : (cs : List ℕ) (y : ℕ) → is_feed y ≡ false → last_line (cs ++ y ∷ []) ≡ last_line cs ++ y ∷ []
last_line-push cs y h =
    let k = begins (lines_of cs) (some_line cs) in
    ap last_of (lines_of-push cs y h)
    ∙ subst (λ S. last_of (add_last S (y ∷ [])) ≡ last_of S ++ y ∷ []) (sym k.parts) (last_of-added (y ∷ []) k.first k.rest)

All-lines_feed : (P : List ℕ → Type 0) (cs : List ℕ) → All P (lines_of cs) → P [] → All P (lines_of (cs ++ 10 ∷ []))
All-lines_feed P cs h p = subst (All P) (sym (lines_of-feed cs [])) (All-push P (lines_of cs) [] h p)

All-lines_push : (P : List ℕ → Type 0) (cs : List ℕ) (y : ℕ) → is_feed y ≡ false → All P (lines_of cs)
    → P (last_line cs ++ y ∷ []) → All P (lines_of (cs ++ y ∷ []))
All-lines_push P cs y e h p =
    let k = begins (lines_of cs) (some_line cs) in
    subst (All P) (sym (lines_of-push cs y e))
    (subst (λ S. All P S → P (last_of S ++ y ∷ []) → All P (add_last S (y ∷ []))) (sym k.parts) (All-added P (y ∷ []) k.first k.rest) h p)

pub All-last_line : (P : List ℕ → Type 0) (cs : List ℕ) → All P (lines_of cs) → P (last_line cs)
All-last_line P cs h =
    let k = begins (lines_of cs) (some_line cs) in
    subst (λ S. All P S → P (last_of S)) (sym k.parts) (All-last_of P k.first k.rest) h

pub count_of-push : (cs : List ℕ) (y : ℕ) → count_of (cs ++ y ∷ []) ≡ count_of cs + char_count y
count_of-push cs y = sum_by_push char_count cs y

-- a reached beginning, as long as it can be so far
pub IsReached-nil : (n : ℕ) → IsReached n []
IsReached-nil n = record {
  fits = All-cons (λ l. count_of l ≤ n) [] [] (omega arith) (All-nil (λ l. count_of l ≤ n));
  shorter = λ k h. absurd (omega arith);
}

open-push : (n : ℕ) (cs : List ℕ) (y : ℕ) → IsReached n cs → count_of (last_line cs) < n → (k : ℕ)
    → k < length (cs ++ y ∷ []) → count_of (last_line (take k (cs ++ y ∷ []))) < n
open-push n cs y r h k lt =
    let len = length_push cs y in
    ⊎_elim (λ below. let le : k ≤ length cs = omega arith in
    subst (λ l. count_of (last_line l) < n) (sym (take-append-le k cs (y ∷ []) le)) (r.shorter k below))
    (λ above. let is : length cs ≡ k = omega arith in subst (λ l. count_of (last_line l) < n) (sym (take_at cs (y ∷ []) k is)) h)
    (cases_lt k (length cs))

pub IsReached-feed : (n : ℕ) (cs : List ℕ) → IsReached n cs → count_of (last_line cs) < n → IsReached n (cs ++ 10 ∷ [])
IsReached-feed n cs r h = record {
  fits = All-lines_feed (λ l. count_of l ≤ n) cs r.fits (omega arith);
  shorter = open-push n cs 10 r h;
}

pub IsReached-push : (n : ℕ) (cs : List ℕ) (y : ℕ) → (y ≡ 10 → ⊥) → IsReached n cs → count_of (last_line cs) < n
    → count_of (last_line cs) + char_count y ≤ n → IsReached n (cs ++ y ∷ [])
IsReached-push n cs y ne r h room = record {
  fits = All-lines_push (λ l. count_of l ≤ n) cs y (ne_eqb y 10 ne) r.fits (let e = count_of-push (last_line cs) y in omega arith);
  shorter = open-push n cs y r h;
}

-- where the walk stops
pub longest_at_end : (n : ℕ) (cs : List ℕ) → IsReached n cs → IsLongestReached n cs cs []
longest_at_end n cs r = record { parts = sym (append-nil cs); reached = r; longest = λ k h _. h }

pub longest_at_full : (n : ℕ) (text front rest : List ℕ) → text ≡ front ++ rest → IsReached n front
    → count_of (last_line front) ≡ n → IsLongestReached n text front rest
longest_at_full n text front rest e r full = record {
  parts = e;
  reached = r;
  longest = λ k h o. ⊎_elim (λ past.
      let len : length (take k text) ≡ k = length-take-le k text h in
      let front_is : take (length front) (take k text)
      ≡ front = take-take (length front) k text (omega arith) ∙ ap (take (length front)) e ∙ take_at front rest (length front) refl in
      let low : count_of (last_line front) < n = subst (λ l. count_of (last_line l) < n) front_is (o.shorter (length front) (omega arith)) in
      absurd (omega arith)) (λ le. le) (cases_lt (length front) k);
}

pub longest_at_wide : (n : ℕ) (text front rest : List ℕ) (y : ℕ) → text ≡ front ++ y ∷ rest → IsReached n front
    → (y ≡ 10 → ⊥) → n < count_of (last_line front) + char_count y → IsLongestReached n text front (y ∷ rest)
longest_at_wide n text front rest y e r ne wide = record {
  parts = e;
  reached = r;
  longest = λ k h o. ⊎_elim (λ past.
      let more = front ++ y ∷ [] in
      let len_more : length more ≡ length front + 1 = length_push front y in
      let len : length (take k text) ≡ k = length-take-le k text h in
      let whole : text ≡ more ++ rest = e ∙ sym (append_assoc front (y ∷ []) rest) in
      let front_is : take (length more) (take k text)
      ≡ more = take-take (length more) k text (omega arith) ∙ ap (take (length more)) whole ∙ take_at more rest (length more) refl in
      let count : count_of (last_line more) ≡ count_of (last_line front) + char_count y = ap count_of
      (last_line-push front y (ne_eqb y 10 ne)) ∙ count_of-push (last_line front) y in
      ⊎_elim (λ further.
      let low : count_of (last_line more) < n = subst
      (λ l. count_of (last_line l) < n) front_is (o.shorter (length more) (omega arith)) in absurd (omega arith))
      (λ last.
      let is : take k text ≡ more = ap (λ j. take j text) (let j : k ≡ length more = omega arith in
      j) ∙ ap (take (length more)) whole ∙ take_at more rest (length more) refl in
      let low : count_of (last_line more) ≤ n = subst
      (λ l. count_of (last_line l) ≤ n) is (All-last_line (λ l. count_of l ≤ n) (take k text) o.fits) in absurd (omega arith))
      (cases_lt (length more) k)) (λ le. le) (cases_lt (length front) k);
}

-- a loop has taken front off the text, which is reached, and rest is left
pub record Walked (n : ℕ) (text rest : List ℕ) (columns : ℕ) : Type 0 where
  pub front : List ℕ
  pub parts : text ≡ front ++ rest
  pub utf8 : IsUtf8 front
  pub columns_are : columns ≡ count_of (last_line (chars front))
  pub reached : IsReached n (chars front)

pub Walked-start : (n : ℕ) (text : List ℕ) → Walked n text text 0
Walked-start n text = record {
  front = [];
  parts = refl;
  utf8 = IsUtf8-nil;
  columns_are = ap (λ l. count_of (last_line l)) (sym chars-nil);
  reached = subst (IsReached n) (sym chars-nil) (IsReached-nil n);
}

pub Walked-le : {n columns : ℕ} {text rest : List ℕ} → Walked n text rest columns → columns ≤ n
Walked-le {n} {columns} w = let h = All-last_line (λ l. count_of l ≤ n) (chars w.front) w.reached.fits in let e = w.columns_are in omega arith

-- what a step over one character needs
pub more_bytes : (text front rest after : List ℕ) (y : ℕ) → text ≡ front ++ rest → rest ≡ encode_utf8 y ++ after → text
    ≡ (front ++ encode_utf8 y) ++ after
more_bytes text front rest after y e f = e ∙ ap (λ l. front ++ l) f ∙ sym (append_assoc front (encode_utf8 y) after)

-- the first character of a text
pub IsScalar-first : (rest : List ℕ) (y : ℕ) (cs : List ℕ) → IsUtf8 rest → chars rest ≡ y ∷ cs → IsScalar y
IsScalar-first rest y cs v e = (and_parts (scalar y) (scalars cs) (subst (λ l. scalars l ≡ true) e (scalars-chars rest v))).0

-- the characters of a text with one more
pub chars-push : (front : List ℕ) (y : ℕ) → IsUtf8 front → IsScalar y → chars (front ++ encode_utf8 y) ≡ chars front ++ y ∷ []
chars-push front y u s =
    chars-append front (encode_utf8 y) u
    ∙ ap (λ l. chars front ++ l) (chars_past_char (encode_utf8 y) [] y (IsUtf8-encode y s)
    (sym (append-nil (encode_utf8 y))) ∙ ap (λ l. y ∷ l) chars-nil)

pub Walked-feed : {n columns : ℕ} {text rest : List ℕ} (after : List ℕ) (y : ℕ) → Walked n text rest columns
    → IsUtf8 rest → rest ≡ encode_utf8 y ++ after → chars rest ≡ y ∷ chars after → (columns ≡ n → ⊥) → y ≡ 10 → Walked n text after 0
Walked-feed {n} {columns} {text} {rest} after y w v e f ne feed =
    let s = IsScalar-first rest y (chars after) v f in
    let cs : chars (w.front ++ encode_utf8 y) ≡ chars w.front ++ 10 ∷ [] = chars-push w.front y w.utf8 s ∙ ap (λ z. chars w.front ++ z ∷ []) feed in
    let le = Walked-le w in
    let is = w.columns_are in
    record {
      front = w.front ++ encode_utf8 y;
      parts = more_bytes text w.front rest after y w.parts e;
      utf8 = IsUtf8-append w.front (encode_utf8 y) w.utf8 (IsUtf8-encode y s);
      columns_are = sym (ap (λ l. count_of (last_line l)) cs ∙ ap count_of (last_line-feed (chars w.front)));
      reached = subst (IsReached n) (sym cs) (IsReached-feed n (chars w.front) w.reached (omega arith));
    }

pub Walked-push : {n columns : ℕ} {text rest : List ℕ} (after : List ℕ) (y : ℕ) → Walked n text rest columns
    → IsUtf8 rest → rest ≡ encode_utf8 y ++ after → chars rest ≡ y ∷ chars after → (columns ≡ n → ⊥) → (y ≡ 10 → ⊥)
    → columns + char_count y ≤ n → Walked n text after (columns + char_count y)
Walked-push {n} {columns} {text} {rest} after y w v e f ne no_feed room =
    let s = IsScalar-first rest y (chars after) v f in
    let cs = chars-push w.front y w.utf8 s in
    let le = Walked-le w in
    let is = w.columns_are in
    let count = ap (λ l. count_of (last_line l)) cs ∙ ap count_of
    (last_line-push (chars w.front) y (ne_eqb y 10 no_feed)) ∙ count_of-push (last_line (chars w.front)) y in
    record {
      front = w.front ++ encode_utf8 y;
      parts = more_bytes text w.front rest after y w.parts e;
      utf8 = IsUtf8-append w.front (encode_utf8 y) w.utf8 (IsUtf8-encode y s);
      columns_are = omega arith;
      reached = subst (IsReached n) (sym cs) (IsReached-push n (chars w.front) y no_feed w.reached (omega arith) (omega arith));
    }

-- ---- what a stop says: b is the front that was split off
pub IsParted-wide : {n columns : ℕ} {text rest : List ℕ} (after : List ℕ) (y : ℕ) (b : List ℕ) → chars rest
    ≡ y ∷ chars after → (y ≡ 10 → ⊥) → n < columns + char_count y → (columns ≡ n → ⊥)
    → (w : Walked n text rest columns) → b ≡ w.front → IsParted n (chars text) (chars b) (n - columns) (chars after)
IsParted-wide {n} {columns} {text} {rest} after y b f no_feed wide ne w same =
    let is = w.columns_are in
    let le = Walked-le w in
    let e : chars text ≡ chars w.front ++ y ∷ chars after =
    ap chars w.parts ∙ chars-append w.front rest w.utf8 ∙ ap (λ l. chars w.front ++ l) f in
    let k : n - columns ≡ n - count_of (last_line (chars w.front)) = omega arith in
    let nonzero : ((n - columns) == 0) ≡ false = ne_eqb (n - columns) 0 (λ z. omega arith) in
    subst (λ l. IsParted n (chars text) (chars l) (n - columns) (chars after)) (sym same) record {
      rest = y ∷ chars after;
      longest = longest_at_wide n (chars text) (chars w.front) (chars after) y e w.reached no_feed (omega arith);
      columns = k;
      dropped = sym (ap (λ t. cond t (y ∷ chars after) (chars after)) nonzero);
    }

missing_at_full : (n : ℕ) (front rest : List ℕ) → count_of (last_line front) ≡ n → 0 ≡ missing_columns n front rest
missing_at_full n front [] e = refl
missing_at_full n front (c ∷ rest) e = omega arith

pub IsParted-full : {n columns : ℕ} {text rest : List ℕ} (b : List ℕ) → (w : Walked n text rest columns) → columns ≡ n
    → b ≡ w.front → IsParted n (chars text) (chars b) 0 (chars rest)
IsParted-full {n} {columns} {text} {rest} b w full same =
    let is = w.columns_are in
    let at : count_of (last_line (chars w.front)) ≡ n = omega arith in
    subst (λ l. IsParted n (chars text) (chars l) 0 (chars rest)) (sym same) record {
      rest = chars rest;
      longest = longest_at_full n (chars text) (chars w.front) (chars rest) (ap chars w.parts ∙ chars-append w.front rest w.utf8) w.reached at;
      columns = missing_at_full n (chars w.front) (chars rest) at;
      dropped = refl;
    }

pub IsParted-end : {n columns : ℕ} {text rest : List ℕ} (b : List ℕ) → (w : Walked n text rest columns) → chars rest
    ≡ [] → b ≡ w.front → IsParted n (chars text) (chars b) 0 (chars rest)
IsParted-end {n} {columns} {text} {rest} b w none same =
    let whole : chars text ≡ chars w.front = ap chars w.parts ∙ chars-append w.front rest w.utf8 ∙ ap
    (λ l. chars w.front ++ l) none ∙ append-nil (chars w.front) in
    subst (λ l. IsParted n (chars text) (chars l) 0 (chars rest)) (sym same) record {
      rest = [];
      longest = subst (λ l. IsLongestReached n l (chars w.front) []) (sym whole) (longest_at_end n (chars w.front) w.reached);
      columns = refl;
      dropped = none;
    }

-- where a text is split
pub front_length : {text : List ℕ} (front rest : List ℕ) → text ≡ front ++ rest → length text - length rest ≡ length front
front_length {text} front rest e = omega (arith, ap length e, length-append front rest)

pub front_taken : {text : List ℕ} (front rest : List ℕ) → text ≡ front ++ rest → take (length text - length rest) text ≡ front
front_taken {text} front rest e = ap (λ k. take k text) (front_length front rest e) ∙ ap (take (length front)) e ∙ take_at front rest (length front) refl

pub rest_taken : {text : List ℕ} (front rest : List ℕ) → text ≡ front ++ rest → drop (length text - length rest) text ≡ rest
rest_taken {text} front rest e = ap (λ k. drop k text) (front_length front rest e) ∙ ap (drop (length front)) e ∙ drop_at front rest (length front) refl

pub front_boundary : {text : List ℕ} (front rest : List ℕ) → text ≡ front ++ rest → IsUtf8 rest
    → IsCharBoundary text (length text - length rest)
front_boundary {text} front rest e u =
    subst (IsCharBoundary text) (sym (front_length front rest e)) (IsCharBoundary-at_seam text front rest e u)

-- the beginning, filled up, is the cut text
pub IsCut-filled : {n missing : ℕ} {text front answer after : List ℕ} → IsUtf8 front → IsParted n (chars text) (chars front) missing after
    → answer ≡ front ++ encode_utf8_all (replicate missing 0xFFFD) → IsCut n text answer
IsCut-filled {n} {missing} {front = front} u p e =
    let fill : List ℕ = replicate missing 0xFFFD in
    let own : scalars fill ≡ true = sym (list_all-scalars fill) ∙ list_all-copies scalar 0xFFFD missing refl in
    record {
      front = chars front;
      rest = p.rest;
      longest = p.longest;
      utf8 = subst IsUtf8 (sym e) (IsUtf8-append front (encode_utf8_all fill) u (fill, (own, refl)));
      characters = ap chars e ∙ chars-append front (encode_utf8_all fill) u ∙ ap (λ l. chars front ++ l) (chars-encodes fill own)
          ∙ ap (λ k. chars front ++ replicate k 0xFFFD) p.columns;
    }

-- with what follows
pub IsSplit-filled : {n missing : ℕ} {text front answer after : List ℕ} → IsUtf8 front → IsUtf8 after
    → IsParted n (chars text) (chars front) missing (chars after)
    → answer ≡ front ++ encode_utf8_all (replicate missing 0xFFFD) → IsSplit n text answer after
unfolding IsCut-filled
IsSplit-filled u v p e = record {
  cut = IsCut-filled u p e;
  utf8 = v;
  characters = p.dropped ∙ ap (λ k. following k p.rest) p.columns;
}
