-- Texts of one line whose characters count as many as its columns: they are not cut where they fit, else to the longest
-- beginning that does.
use Rattle.tabled_text.proofs.Names.{All, All-cons, All-head, All-nil, IsAdditive, IsCut, IsExactLine, IsLongestCut, IsLongestReached}
use Rattle.tabled_text.proofs.Names.{IsUtf8, List, Reading, State, [], ap, arith, char_count, chars, columns_of, count_of, drop, false}
use Rattle.tabled_text.proofs.Names.{is_additive, is_no_feed, last_line, last_of, length, line_columns, lines_of, list_all, min, plain}
use Rattle.tabled_text.proofs.Names.{read_before, refl, slice_index_or, step, str_width, subst, suc, sum_by-cons, sym, take}
use Rattle.tabled_text.proofs.Names.{take-append-drop, take-append-le, take-take, take_all, text_columns, true, zero, ℕ, ◌++◌, ◌+◌, ◌-◌}
use Rattle.tabled_text.proofs.Names.{◌<◌, ◌∙◌, ◌∷◌, ◌≡◌, ◌≤◌}
use Rattle.std.proofs.Common.{length-take}
use Rattle.tabled_text.specs.Longest.{IsLongestFitting}
use Rattle.tabled_text.proofs.Basics.{all-parts}
use Rattle.tabled_text.proofs.Bridge.{lines_of-feedless, lines_of-one, text_columns-one}
use Rattle.tabled_text.proofs.CountBound.{Bounded-read_before, Bounded-step, credit, flag-true, slack}
use Rattle.tabled_text.proofs.CutOnce.{cut-once}
use Rattle.tabled_text.proofs.CutWhole.{IsCut-counted}
use Rattle.tabled_text.proofs.Joining.{Follows, Goes, Steps, emoji_state, even, flags_state, lost, plain_state, quote_state, same_state}
use Rattle.tabled_text.proofs.Joining.{vowels_state}
use Rattle.tabled_text.proofs.LineLaws.{line-each}
use Rattle.tabled_text.proofs.OwnSteps.{both-step}
use Rattle.tabled_text.proofs.PlainLemmas.{count_of-plain, line_columns-plain}
use Rattle.tabled_text.proofs.PlainLines.{one_line, plain_line-each, text_columns-plain_line}

-- ---- the beginnings of such a line. It is read from its end: the reading of the whole is followed by that of a
-- beginning, which starts where the rest was read, and loses no column where the whole loses none

-- ---- whole readings
abbrev pub read : List ℕ → Reading
read cs = read_before false cs (0, plain)

pub lost-step : (c m : ℕ) (r : Reading) → credit r.1.after ≤ r.0 → r.0 + slack r.1 < m
    → (step false c r).0 + slack (step false c r).1 < m + char_count c
lost-step c m r covers less =
    let b = (Bounded-step (m - 1) c r (record { bound = omega arith; covers = covers })).bound in omega arith

pub goes-step : (c m k : ℕ) (r u : Reading) → credit r.1.after ≤ r.0 → Goes m k r u → Steps c m k (step false c r) (step false c u)
goes-step c m k (t, s) (own, u) covers (lost less) = lost (lost-step c m (t, s) covers less)
goes-step c m k (t, s) (own, u) covers (even both) = both-step c t own m k s u covers both

pub count-cons : (c : ℕ) (cs : List ℕ) → count_of cs + char_count c ≡ count_of (c ∷ cs)
count-cons c cs = omega (arith, sum_by-cons char_count c cs)

-- a text beside itself
pub goes-self : (cs : List ℕ) → Goes (count_of cs) (count_of cs) (read cs) (read cs)
goes-self [] = even (record { whole = refl; beginning = refl; opens = refl; follows = same_state refl })
goes-self (c ∷ cs) =
    subst (λ n. Goes n n (read (c ∷ cs)) (read (c ∷ cs))) (count-cons c cs)
    (goes-step c (count_of cs) (count_of cs) (read cs) (read cs) (Bounded-read_before cs).covers (goes-self cs))

pub goes-start : (rest : List ℕ) → Goes (count_of rest) (count_of rest) (read rest) (read rest)
    → Goes (count_of rest) 0 (read rest) (0, plain)
goes-start rest (lost less) = lost less
goes-start rest (even both) = even (record { whole = both.whole; beginning = refl; opens = both.opens; follows = plain_state refl })

-- a beginning beside the whole
pub goes-beginning : (front rest : List ℕ) → Goes (count_of (front ++ rest)) (count_of front) (read (front ++ rest)) (read front)
goes-beginning [] rest = goes-start rest (goes-self rest)
goes-beginning (c ∷ front) rest =
    let whole = read (front ++ rest) in
    subst (λ m. Goes m (count_of (c ∷ front)) (read (c ∷ (front ++ rest))) (read (c ∷ front))) (count-cons c (front ++ rest))
    (subst (λ k. Goes (count_of (front ++ rest) + char_count c) k (read (c ∷ (front ++ rest))) (read (c ∷ front))) (count-cons c front)
    (goes-step c (count_of (front ++ rest)) (count_of front) whole (read front) (Bounded-read_before (front ++ rest)).covers (goes-beginning front rest)))

pub own-slack : (s u : State) → slack s ≡ 0 → Follows s u → slack u ≡ 0
own-slack s u h (same_state e) = ap slack e ∙ h
own-slack s u h (plain_state e) = ap slack e
own-slack s u h (emoji_state y e) = let one = flag-true s.emoji y in absurd (omega arith)
own-slack s u h (quote_state off y e) = let one = flag-true s.quote y in absurd (omega arith)
own-slack s u h (flags_state d e) = ap slack e
own-slack s u h (vowels_state d e) = ap slack e

pub exact-front : (front rest : List ℕ) → columns_of (front ++ rest) ≡ count_of (front ++ rest)
    → Goes (count_of (front ++ rest)) (count_of front) (read (front ++ rest)) (read front) → columns_of front ≡ count_of front
unfolding str_width
exact-front front rest e (lost less) = absurd (omega arith)
exact-front front rest e (even both) =
    let w = both.whole in
    let b = both.beginning in
    let none : slack (read (front ++ rest)).1 ≡ 0 = omega arith in
    let own = own-slack (read (front ++ rest)).1 (read front).1 none both.follows in
    omega arith

-- a beginning of a line that counts as its columns does so too
pub exact-take : (k : ℕ) (line : List ℕ) → columns_of line ≡ count_of line → columns_of (take k line) ≡ count_of (take k line)
exact-take k line e =
    let parts : take k line ++ drop k line ≡ line = take-append-drop k line in
    exact-front (take k line) (drop k line) (subst (λ l. columns_of l ≡ count_of l) (sym parts) e) (goes-beginning (take k line) (drop k line))

-- ---- additive lines

-- each character counts
more-take : (j k : ℕ) (cs : List ℕ) → j < k → k ≤ length cs → count_of (take j cs) < count_of (take k cs)
more-take j k [] l r = absurd (omega arith)
more-take j zero (c ∷ cs) l r = absurd (omega arith)
more-take zero (suc k) (c ∷ cs) l r = omega (arith, sum_by-cons char_count c (take k cs))
more-take (suc j) (suc k) (c ∷ cs) l r =
    let more = more-take j k cs (omega arith) (omega arith) in
    omega (arith, sum_by-cons char_count c (take k cs), sum_by-cons char_count c (take j cs))

pub width-count : (cs : List ℕ) → list_all is_additive cs ≡ true → columns_of cs ≡ count_of cs
width-count cs h = line_columns-plain cs h ∙ sym (count_of-plain cs h)

-- where each beginning is a line that takes the columns of its count, the longest that is reached is the longest that finds room
pub longest_counted : (n : ℕ) (line front rest : List ℕ) → ((k : ℕ) → lines_of (take k line) ≡ take k line ∷ [])
    → ((k : ℕ) → columns_of (take k line) ≡ count_of (take k line)) → IsLongestReached n line front rest → IsLongestFitting n line front
longest_counted n line front rest one counted s =
    let begins : front ≡ take (length front) line = sym
    (ap (take (length front)) s.parts ∙ take-append-le (length front) front rest (omega arith)
    ∙ take_all (length front) front (omega arith)) in
    let own : lines_of front ≡ front ∷ [] = subst (λ f. lines_of f ≡ f ∷ []) (sym begins) (one (length front)) in
    let same : columns_of front ≡ count_of front = subst (λ f. columns_of f ≡ count_of f) (sym begins) (counted (length front)) in
    let fits : count_of front ≤ n = All-head (λ l. count_of l ≤ n) front []
    (subst (All (λ l. count_of l ≤ n)) own s.reached.fits) in
    record {
      beginning = begins;
      fits = omega arith;
      longest = λ k in_line room.
          let e = counted k in
          let len : length (take k line) ≡ min k (length line) = length-take k line in
          s.longest k in_line (record {
            fits = subst (All (λ l. count_of l ≤ n)) (sym (one k))
                (All-cons (λ l. count_of l ≤ n) (take k line) [] (omega arith) (All-nil (λ l. count_of l ≤ n)));
            shorter = λ j less.
                let inner : take j (take k line) ≡ take j line = take-take j k line (omega arith) in
                let last : last_line (take j (take k line)) ≡ take j line = ap last_line inner ∙ ap last_of (one j) in
                let m = more-take j k line (omega arith) in_line in
                subst (λ l. count_of l < n) (sym last) (omega arith);
          });
    }

-- a cut plain line is its longest beginning that finds room, filled up
pub cut_longest : (n : ℕ) (line answer : List ℕ) → list_all is_additive (chars line) ≡ true → IsCut n line answer
    → IsLongestCut n line answer
cut_longest n line answer plain cut =
    let cs = chars line in
    let each = λ (k : ℕ). (all-parts is_additive k cs plain).0 in
    record {
      front = cut.front;
      rest = cut.rest;
      parts = cut.longest.parts;
      longest = longest_counted n cs cut.front cut.rest (λ k. one_line (take k cs) (each k))
          (λ k. width-count (take k cs) (each k)) cut.longest;
      answered = cut.characters;
    }

-- a plain line that finds room is not cut
pub cut_kept : (n : ℕ) (line answer : List ℕ) → IsUtf8 line → list_all is_additive (chars line) ≡ true
    → columns_of (chars line) ≤ n → IsCut n line answer → answer ≡ line
cut_kept n line answer u plain room cut = cut-once cut (IsCut-counted n line u (omega (arith, width-count (chars line) plain)))

-- ---- exact lines

feedless : (text : List ℕ) → IsUtf8 text → length (lines_of text) ≡ 1 → list_all is_no_feed (chars text) ≡ true
feedless text u h =
    let first : slice_index_or (lines_of text) 0 [] ≡ text = ap (λ ls. slice_index_or ls 0 []) (lines_of-one text h) in
    subst (λ l. list_all is_no_feed (chars l) ≡ true) first (line-each text u 0 (omega arith)).feedless

pub exact-kept : (n : ℕ) (text answer : List ℕ) → IsExactLine text → text_columns text ≤ n → IsCut n text answer → answer ≡ text
exact-kept n text answer e room cut = cut-once cut (IsCut-counted n text e.utf8 (let counted = e.counted in omega arith))

-- a plain line is such
pub plain_exact : (text : List ℕ) → IsAdditive text → length (lines_of text) ≡ 1 → IsExactLine text
plain_exact text p h =
    let first : slice_index_or (lines_of text) 0 [] ≡ text = ap (λ ls. slice_index_or ls 0 []) (lines_of-one text h) in
    let L : List ℕ → Type 0 = λ l. (list_all is_additive (chars l) ≡ true) × (text_columns l ≡ line_columns l) in
    let plain = plain_line-each text p 0 (omega arith) in
    let own = subst L first (plain.characters, text_columns-plain_line plain) in
    record { utf8 = p.utf8; one = h; counted = sym (width-count (chars text) own.0) ∙ sym own.1 }

-- cut, such a line is its longest beginning that finds room, filled up
pub exact-longest : (n : ℕ) (text answer : List ℕ) → IsExactLine text → IsCut n text answer → IsLongestCut n text answer
exact-longest n text answer e cut =
    let cs = chars text in
    let none = feedless text e.utf8 e.one in
    record {
      front = cut.front;
      rest = cut.rest;
      parts = cut.longest.parts;
      longest = longest_counted n cs cut.front cut.rest (λ k. lines_of-feedless (take k cs) (all-parts is_no_feed k cs none).0)
          (λ k. exact-take k cs (sym (e.counted ∙ text_columns-one text e.one))) cut.longest;
      answered = cut.characters;
    }
