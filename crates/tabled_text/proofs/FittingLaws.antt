-- Texts of any characters that take at most n columns: what is wrapped, cut, joined and filled.
use Rattle.tabled_text.proofs.Names.{All, All-head, All-tail, AllZip, AreFullest, Bool, Fits, IsAdditive, IsAdditiveColumn, IsCut}
use Rattle.tabled_text.proofs.Names.{IsFullest, IsUtf8, IsUtf8-append, IsUtf8-nil, IsWrapped, List, TextUnit, [], and_from, ap, append-nil}
use Rattle.tabled_text.proofs.Names.{append_assoc, arith, cases_Bool, char_count, chars, chars-append, chars-nil, columns_of, cond}
use Rattle.tabled_text.proofs.Names.{count_of, encode_utf8_all, false, flat_map, inl, inr, is_no_feed, is_separator, join_with_byte}
use Rattle.tabled_text.proofs.Names.{last_of, leb-false, length, line_columns, lines_of, list_all, list_all-append, lit<, map}
use Rattle.tabled_text.proofs.Names.{missing_columns, nat_le, refl, replicate, unit_or_filler, space, stays, subst, sum_by, sum_by_push, sym}
use Rattle.tabled_text.proofs.Names.{text_columns, text_from, text_of_groups, text_of_lines, true, unit_of_char, units, units_of_word}
use Rattle.tabled_text.proofs.Names.{units_of_words, words_of, ℕ, ⊎_elim, ⊤, ◌++◌, ◌+◌, ◌-◌, ◌<◌, ◌∙◌, ◌∷◌, ◌≡◌, ◌≤◌, ◌⊎◌}
use Rattle.tabled_text.specs.Fitting.{FitsIn}
use Rattle.tabled_text.proofs.Basics.{cond-cases, list_all-copies}
use Rattle.tabled_text.proofs.Bridge.{Each, add_last, greatest-le, lines_of-feed, lines_of-feedless, lines_of-last, some_line}
use Rattle.tabled_text.proofs.Bridge.{text_columns-join}
use Rattle.tabled_text.proofs.CountBound.{columns-count}
use Rattle.tabled_text.proofs.CutLemmas.{All-last_line}
use Rattle.tabled_text.proofs.FewestLines.{feedless-lines, shown-feedless}
use Rattle.tabled_text.proofs.Filling.{wrapped-cases}
use Rattle.tabled_text.proofs.FitLemmas.{EachUnit, EachUnit-parts, Feedless, feedless-units}
use Rattle.tabled_text.proofs.LineLaws.{columns-between}
use Rattle.tabled_text.proofs.Searched.{IsUtf8-mark}
use Rattle.tabled_text.proofs.StayLemmas.{StaysWithin-filled, StaysWithin-none, missing-le, stays-suffix, text_columns-stays}
use Rattle.tabled_text.proofs.Within.{Within, Within-append, Within-followed, Within-nothing, columns-filled, text_columns-within}
use Rattle.tabled_text.proofs.WrapRoom.{plain_space}

-- ---- the units of a wrapped text, as they stand in a line

pub record IsSpace (unit : TextUnit) : Type 0 where
  pub text : unit.text ≡ 32 ∷ []
  pub width : unit.width ≡ 1

pub record IsCharacter (unit : TextUnit) : Type 0 where
  pub character : ℕ
  pub text : unit.text ≡ character ∷ []
  pub width : unit.width ≡ char_count character

pub record IsWord (unit : TextUnit) : Type 0 where
  pub width : unit.width ≡ columns_of unit.text

-- a space stands anywhere (0 before it), a character behind a space or a character (1), a whole word behind a space
-- only (2)
abbrev pub Laid : ℕ → List TextUnit → Type 0
Laid k [] = ⊤
Laid k (u ∷ us) = (IsSpace u × Laid 0 us) ⊎ (((k ≤ 1) × (IsCharacter u × Laid 1 us)) ⊎ ((k ≡ 0) × (IsWord u × Laid 2 us)))

Laid-less : (k : ℕ) (us : List TextUnit) → Laid k us → Laid 0 us
Laid-less k [] h = tt
Laid-less k (u ∷ us) h = ⊎_elim (λ a. inl a) (λ o. ⊎_elim (λ a. inr (inl (omega arith, a.1))) (λ a. inr (inr (refl, a.1))) o) h

Laid-parts : (k : ℕ) (us vs : List TextUnit) → Laid k (us ++ vs) → Laid k us × Laid 0 vs
Laid-parts k [] vs h = (tt, Laid-less k vs h)
Laid-parts k (u ∷ us) vs h = ⊎_elim
    (λ a. let r = Laid-parts 0 us vs a.1 in (inl (a.0, r.0), r.1))
    (λ o. ⊎_elim (λ a. let r = Laid-parts 1 us vs a.1.1 in (inr (inl (a.0, (a.1.0, r.0))), r.1))
    (λ a. let r = Laid-parts 2 us vs a.1.1 in (inr (inr (a.0, (a.1.0, r.0))), r.1)) o)
    h

pub Laid-chars : (k : ℕ) → k ≤ 1 → (cs : List ℕ) (tail : List TextUnit) → ((j : ℕ) → Laid j tail) → Laid k (map unit_of_char cs ++ tail)
Laid-chars k le [] tail h = h k
Laid-chars k le (c ∷ cs) tail h = inr (inl (le, (record { character = c; text = refl; width = refl }, Laid-chars 1 (omega arith) cs tail h)))

Laid-word : (n : ℕ) (word : List ℕ) (tail : List TextUnit) → ((j : ℕ) → Laid j tail) → Laid 0 (units_of_word n word ++ tail)
Laid-word n [] tail h = h 0
Laid-word n (c ∷ cs) tail h =
    let whole : TextUnit = record { text = c ∷ cs; width = columns_of (c ∷ cs) } in
    cond-cases (λ us. Laid 0 (us ++ tail)) (nat_le (columns_of (c ∷ cs)) n) (whole ∷ []) (map unit_of_char (c ∷ cs))
    (λ _. inr (inr (refl, (record { width = refl }, h 2)))) (λ _. Laid-chars 0 (omega arith) (c ∷ cs) tail h)

Laid-words : (n : ℕ) (words : List (List ℕ)) → Laid 0 (units_of_words n words)
Laid-words n [] = tt
Laid-words n (w ∷ []) = subst (Laid 0) (append-nil (units_of_word n w)) (Laid-word n w [] (λ j. tt))
Laid-words n (w ∷ x ∷ ws) = Laid-word n w (space ∷ units_of_words n (x ∷ ws)) (λ j. inl (record { text = refl; width = refl }, Laid-words n (x ∷ ws)))

Laid-units : (n : ℕ) (words : Bool) (line : List ℕ) → Laid 0 (units n words line)
Laid-units n false line = subst (Laid 0) (append-nil (map unit_of_char line)) (Laid-chars 0 (omega arith) line [] (λ j. tt))
Laid-units n true line = Laid-words n (words_of line)

-- ---- the columns of a group

separator-space : is_separator 32 ≡ true
separator-space = and_from _ true plain_space.0 refl

-- what stands behind the last space takes at most so many columns
record Held (k : ℕ) (front : List ℕ) (columns : ℕ) : Type 0 where
  bound : columns_of front ≤ columns
  counted : k ≤ 1 → columns ≡ count_of front
  empty : k ≡ 0 → front ≡ []

held-nothing : Held 0 [] 0
held-nothing = record { bound = columns-count []; counted = λ _. refl; empty = λ _. refl }

none_follows : (n used : ℕ) (us : List TextUnit) → Fits n used us → n < used → us ≡ []
none_follows n used [] f h = refl
none_follows n used (u ∷ us) f h = absurd (let a = f.0 in omega arith)

-- b columns up to the last space, and m behind it
columns-group : (n : ℕ) → 0 < n → (k b m : ℕ) (front : List ℕ) (us : List TextUnit) → Held k front m → b + m ≤ n → Laid k us
    → Fits n (b + m) us → b + columns_of (front ++ text_from n (b + m) us) ≤ n
columns-group n pos k b m front [] held le laid fits =
    let e = ap columns_of (append-nil front) in let h = held.bound in omega arith
columns-group n pos k b m front (u ∷ us) held le laid fits =
    let more = text_from n (b + m + u.width) us in
    let here = fits.0 in
    let P : List ℕ → Type 0 = λ l. b + columns_of (front ++ (l ++ more)) ≤ n in
    ⊎_elim
    (λ yes.
    let own : b + m + u.width ≤ n = subst (λ t. b + m + cond t u.width 1 ≤ n) yes here in
    subst (λ t. P (cond t u.text (replicate (n - (b + m)) 0xFFFD))) (sym yes)
    (⊎_elim
    (λ (s : IsSpace u × Laid 0 us).
    let w = s.0.width in
    let e : b + m + u.width ≡ b + m + 1 + 0 = omega arith in
    let rest = columns-group n pos 0 (b + m + 1) 0 [] us held-nothing (omega arith) s.1 (subst (λ x. Fits n x us) e fits.1) in
    let same : columns_of more ≡ columns_of (text_from n (b + m + 1 + 0) us) = ap (λ x. columns_of (text_from n x us)) e in
    let one = plain_space.1 in
    let bound = held.bound in
    let split = columns-between 32 front more separator-space in
    subst P (sym s.0.text) (omega arith))
    (λ o. ⊎_elim
    (λ (s : (k ≤ 1) × (IsCharacter u × Laid 1 us)).
    let c = s.1.0.character in
    let w = s.1.0.width in
    let counted = held.counted s.0 in
    let push : count_of (front ++ c ∷ []) ≡ count_of front + char_count c = sum_by_push char_count front c in
    let e : b + m + u.width ≡ b + (m + char_count c) = omega arith in
    let next : Held 1 (front ++ c ∷ []) (m + char_count c) = record {
      bound = (let a = columns-count (front ++ c ∷ []) in omega arith);
      counted = λ _. omega arith;
      empty = λ z. absurd (omega arith);
    } in
    let rest = columns-group n pos 1 b (m + char_count c) (front ++ c ∷ []) us next (omega arith) s.1.1 (subst (λ x. Fits n x us) e fits.1) in
    let back = subst (λ x. b + columns_of ((front ++ c ∷ []) ++ text_from n x us) ≤ n) (sym e) rest in
    subst P (sym s.1.0.text) (subst (λ l. b + columns_of l ≤ n) (append_assoc front (c ∷ []) more) back))
    (λ (s : (k ≡ 0) × (IsWord u × Laid 2 us)).
    let w = s.1.0.width in
    let z = s.0 in
    let none = held.empty z in
    let counted = held.counted (omega arith) in
    let m0 : m ≡ 0 = counted ∙ ap count_of none in
    let e : b + m + u.width ≡ b + u.width = omega arith in
    let next : Held 2 u.text u.width = record { bound = omega arith; counted = λ x. absurd (omega arith); empty = λ x. absurd (omega arith) } in
    let rest = columns-group n pos 2 b u.width u.text us next (omega arith) s.1.1 (subst (λ x. Fits n x us) e fits.1) in
    let back = subst (λ x. b + columns_of (u.text ++ text_from n x us) ≤ n) (sym e) rest in
    subst (λ f. b + columns_of (f ++ (u.text ++ more)) ≤ n) (sym none) back)
    o)
    laid))
    (λ no.
    let l = leb-false u.width n no in
    let tail = none_follows n (b + m + u.width) us fits.1 (omega arith) in
    let fill = columns-filled front (n - (b + m)) in
    let bound = held.bound in
    let last : b + columns_of (front ++ replicate (n - (b + m)) 0xFFFD) ≤ n = omega arith in
    let drop : front ++ (replicate (n - (b + m)) 0xFFFD ++ more) ≡ front ++ replicate (n - (b + m)) 0xFFFD =
    ap (λ us. front ++ (replicate (n - (b + m)) 0xFFFD ++ text_from n (b + m + u.width) us)) tail ∙ ap (λ l. front ++ l)
    (append-nil (replicate (n - (b + m)) 0xFFFD)) in
    subst (λ t. P (cond t u.text (replicate (n - (b + m)) 0xFFFD))) (sym no) (subst (λ l. b + columns_of l ≤ n) (sym drop) last))
    (cases_Bool (nat_le u.width n))

-- ---- groups are lines

feedless-group : (n used : ℕ) (us : List TextUnit) → EachUnit Feedless us → list_all is_no_feed (text_from n used us) ≡ true
feedless-group n used [] h = refl
feedless-group n used (u ∷ us) h =
    list_all-append is_no_feed (unit_or_filler n used u) (text_from n (used + u.width) us)
    ∙ and_from (list_all is_no_feed (unit_or_filler n used u)) _ (shown-feedless n used u h.0) (feedless-group n (used + u.width) us h.1)

pub Within-group : (n : ℕ) → 0 < n → (us : List TextUnit) → Laid 0 us → EachUnit Feedless us → Fits n 0 us
    → Within n (lines_of (text_from n 0 us))
Within-group n pos us laid feedless fits =
    let all = columns-group n pos 0 0 0 [] us held-nothing (omega arith) laid fits in
    let own : columns_of (text_from n 0 us) ≤ n = omega arith in
    subst (Within n) (sym (lines_of-feedless (text_from n 0 us) (feedless-group n 0 us feedless))) (own, tt)

-- what holds of all units of the groups
pub record Sound (units : List TextUnit) : Type 0 where
  pub laid : Laid 0 units
  pub feedless : EachUnit Feedless units

pub sound-parts : (us vs : List TextUnit) → Sound (us ++ vs) → Sound us × Sound vs
sound-parts us vs s =
    let l = Laid-parts 0 us vs s.laid in
    let f = EachUnit-parts Feedless us vs s.feedless in
    (record { laid = l.0; feedless = f.0 }, record { laid = l.1; feedless = f.1 })

Within-groups : (n : ℕ) → 0 < n → (groups : List (List TextUnit)) → Sound (flat_map (λ g. g) groups) → AreFullest n groups
    → Within n (lines_of (text_of_groups n groups))
Within-groups n pos [] s f = Within-nothing n
Within-groups n pos (g ∷ []) s f = let own = (sound-parts g [] s).0 in Within-group n pos g own.laid own.feedless f
Within-groups n pos (g ∷ h ∷ gs) s f =
    let parts = sound-parts g (flat_map (λ g. g) (h ∷ gs)) s in
    let own = parts.0 in
    subst (Within n) (sym (lines_of-feed (text_from n 0 g) (text_of_groups n (h ∷ gs))))
    (Within-append n (lines_of (text_from n 0 g)) (lines_of (text_of_groups n (h ∷ gs)))
    (Within-group n pos g own.laid own.feedless f.0) (Within-groups n pos (h ∷ gs) parts.1 f.2))

Within-line : (n : ℕ) → 0 < n → (words : Bool) (line : List ℕ) (groups : List (List TextUnit)) → list_all is_no_feed line ≡ true
    → IsFullest n (units n words line) groups → Within n (lines_of (text_of_groups n groups))
Within-line n pos words line groups h f =
    let sound : Sound (units n words line) = record { laid = Laid-units n words line; feedless = feedless-units n words line h } in
    Within-groups n pos groups (subst Sound (sym f.grouping.whole) sound) f.fullest

Within-lines : (n : ℕ) (words : Bool) → 0 < n → (lines : List (List ℕ)) (broken : List (List (List TextUnit))) → Each is_no_feed lines
    → AllZip (λ line groups. IsFullest n (units n words line) groups) lines broken → Within n (lines_of (text_of_lines n broken))
Within-lines n words pos [] [] p f = Within-nothing n
Within-lines n words pos (l ∷ []) (g ∷ []) p f = Within-line n pos words l g p.0 f.0
Within-lines n words pos (l ∷ m ∷ ls) (g ∷ h ∷ gs) p f =
    subst (Within n) (sym (lines_of-feed (text_of_groups n g) (text_of_lines n (h ∷ gs))))
    (Within-append n (lines_of (text_of_groups n g)) (lines_of (text_of_lines n (h ∷ gs)))
    (Within-line n pos words l g p.0 f.0) (Within-lines n words pos (m ∷ ls) (h ∷ gs) p.1 f.1))
Within-lines n words pos [] _ p f = absurd f
Within-lines n words pos _ [] p f = absurd f
Within-lines n words pos _ _ p f = absurd f.1

-- ---- cut texts

-- lines that count at most n, of which the last is filled up
Within-filled : (n k : ℕ) (ls : List (List ℕ)) → 0 < length ls → All (λ l. count_of l ≤ n) ls → count_of (last_of ls) + k ≤ n
    → Within n (add_last ls (replicate k 0xFFFD))
Within-filled n k [] some h le = absurd (omega arith)
Within-filled n k (l ∷ []) some h le = (let a = columns-count l in let e = columns-filled l k in omega arith, tt)
Within-filled n k (l ∷ m ∷ ls) some h le =
    let own = All-head (λ l. count_of l ≤ n) l (m ∷ ls) h in
    (let a = columns-count l in omega arith, Within-filled n k (m ∷ ls) (omega arith) (All-tail (λ l. count_of l ≤ n) l (m ∷ ls) h) le)

Within-cut : (n : ℕ) (text answer : List ℕ) → IsCut n text answer → Within n (lines_of (chars answer))
Within-cut n text answer cut =
    let front = cut.front in
    let k = missing_columns n front cut.rest in
    let fits = cut.longest.reached.fits in
    let last = All-last_line (λ l. count_of l ≤ n) front fits in
    let missing = missing-le n front cut.rest in
    let lines = Within-filled n k (lines_of front) (some_line front) fits (omega arith) in
    let parts = lines_of-last front (replicate k 0xFFFD) (list_all-copies is_no_feed 0xFFFD k refl) in
    subst (λ t. Within n (lines_of t)) (sym cut.characters) (subst (Within n) (sym parts) lines)

-- ---- the laws

pub fits-cut : (n : ℕ) (text answer : List ℕ) → IsCut n text answer → FitsIn n answer
fits-cut n text answer c = record { utf8 = c.utf8; columns = text_columns-within n answer c.utf8 (Within-cut n text answer c) }

-- what follows a cut text fits if it is plain and stays from each column on at which it may begin
pub fits-followed : (n w : ℕ) (text answer tail : List ℕ) → n ≤ w → IsCut n text answer → IsUtf8 tail
    → ((k : ℕ) → k ≤ n → stays w k (chars tail) ≡ true) → FitsIn w (answer ++ tail)
fits-followed n w text answer tail le c u s =
    let utf8 = IsUtf8-append answer tail c.utf8 u in
    record {
      utf8 = utf8;
      columns = text_columns-within w (answer ++ tail) utf8 (subst (λ t. Within w (lines_of t)) (sym (chars-append answer tail c.utf8))
          (Within-followed n w le (chars answer) (chars tail) (Within-cut n text answer c) s));
    }

pub fits-suffix : (n w : ℕ) (text answer suffix : List ℕ) → IsAdditive suffix → n + sum_by line_columns (lines_of suffix) ≤ w
    → IsCut n text answer → FitsIn w (answer ++ suffix)
fits-suffix n w text answer suffix p le c =
    fits-followed n w text answer suffix (omega arith) c p.utf8 (λ k l. stays-suffix w k suffix p (omega arith))

pub fits-wrapped : (n : ℕ) (words : Bool) (text answer : List ℕ) → IsWrapped n words text answer → FitsIn n answer
fits-wrapped n words text answer w =
    let within : Within n (lines_of (chars answer)) = ⊎_elim
    (λ none. subst (λ t. Within n (lines_of t)) (sym (ap chars none.1 ∙ chars-nil)) (Within-nothing n))
    (λ full. subst (λ t. Within n (lines_of t)) (sym full.1.answered)
    (Within-lines n words full.0 (lines_of (chars text)) full.1.broken (feedless-lines (chars text)) full.1.fullest))
    (wrapped-cases n words text answer w) in
    record { utf8 = w.utf8; columns = text_columns-within n answer w.utf8 within }

utf8-join : (n : ℕ) (texts : List (List ℕ)) → All (FitsIn n) texts → IsUtf8 (join_with_byte 10 texts)
utf8-join n [] h = IsUtf8-nil
utf8-join n (l ∷ []) h = let own = All-head (FitsIn n) l [] h in own.utf8
utf8-join n (l ∷ m ∷ ls) h =
    let own = All-head (FitsIn n) l (m ∷ ls) h in
    let rest = join_with_byte 10 (m ∷ ls) in
    IsUtf8-append l (10 ∷ rest) own.utf8 (IsUtf8-mark 10 (lit< tt) rest (utf8-join n (m ∷ ls) (All-tail (FitsIn n) l (m ∷ ls) h)))

pub fits-joined : (n : ℕ) (texts : List (List ℕ)) → All (FitsIn n) texts → FitsIn n (join_with_byte 10 texts)
fits-joined n texts h = record {
  utf8 = utf8-join n texts h;
  columns = subst (λ k. k ≤ n) (sym (text_columns-join texts)) (greatest-le text_columns n texts (λ k d l. (h k d l).columns));
}

pub fits-none : (n : ℕ) → FitsIn n []
fits-none n = record { utf8 = IsUtf8-nil; columns = text_columns-stays (StaysWithin-none {n = n}) }

pub fits-filled : (n k c : ℕ) → k ≤ n → IsAdditiveColumn c → FitsIn n (encode_utf8_all (replicate k c))
fits-filled n k c le p = let s = StaysWithin-filled {n = n} k c le p in record { utf8 = s.utf8; columns = text_columns-stays s }
