-- The fullest breaking has the fewest groups and is the only one, and a wrapped text has a line for each.
use Rattle.tabled_text.proofs.Names.{All, All-head, All-tail, AllZip, AreFullest, Bool, HasFewestLines, IsBreaking, IsCut, IsFullest}
use Rattle.tabled_text.proofs.Names.{IsFullestText, IsGrouping, IsUtf8, IsWrapped, List, TextUnit, [], ap, append-nil, append_assoc, arith}
use Rattle.tabled_text.proofs.Names.{chars, cond, false, flat_map, inl, inr, is_no_feed, length, length-append, length-map, lines_of}
use Rattle.tabled_text.proofs.Names.{list_all, missing_columns, nat_le, nat_tests, needed, not, onto_first, refl, replicate, unit_or_filler, subst}
use Rattle.tabled_text.proofs.Names.{suc, sum_by, sum_by-append, sum_by-cons, sym, text_from, text_of_groups, text_of_lines, true, units}
use Rattle.tabled_text.proofs.Names.{width_of, ℕ, ⊎_elim, ◌++◌, ◌+◌, ◌-◌, ◌<◌, ◌==◌, ◌∙◌, ◌∷◌, ◌≡◌, ◌≤◌, ◌⊎◌}
use Rattle.tabled_text.proofs.Basics.{cond-cases, every, list_all-copies}
use Rattle.tabled_text.proofs.Bridge.{Each, lines_of-chars, lines_of-feedless, some_line}
use Rattle.tabled_text.proofs.Filling.{full_text}
use Rattle.tabled_text.proofs.FitLemmas.{Each-lines, EachUnit, EachUnit-parts, Feedless, feedless-units}

-- ---- groups

pub needed-le : (n : ℕ) (p : TextUnit) → 0 < n → needed n p ≤ p.width
needed-le n p h = grind (arith, nat_tests)

-- b ends within Y, or goes past it
pub record GoesPast {A : Type 0} (b Y Z X : List A) : Type 0 where
  pub first : A
  pub more : List A
  pub is : b ≡ Y ++ first ∷ more
  pub next : Z ≡ first ∷ (more ++ X)

pub record EndsWithin {A : Type 0} (Z X : List A) : Type 0 where
  pub left : List A
  pub is : X ≡ left ++ Z

-- the same with one more before both
past : {A : Type 0} (x y : A) (b Y Z X : List A) → x ≡ y → GoesPast b Y Z X → GoesPast (x ∷ b) (y ∷ Y) Z X
past x y b Y Z X head p =
    let e : x ∷ b ≡ x ∷ (Y ++ p.first ∷ p.more) = ap (λ l. x ∷ l) p.is in
    record { first = p.first; more = p.more; is = subst (λ h. x ∷ b ≡ h ∷ (Y ++ p.first ∷ p.more)) head e; next = p.next }

pub split_append : {A : Type 0} (b X Y Z : List A) → b ++ X ≡ Y ++ Z → EndsWithin Z X ⊎ GoesPast b Y Z X
split_append [] X Y Z e = inl (record { left = Y; is = e })
split_append (x ∷ b) X [] Z e = inr (record { first = x; more = b; is = refl; next = sym e })
split_append (x ∷ b) X (y ∷ Y) Z e =
    let tail : b ++ X ≡ Y ++ Z = cc in
    let head : x ≡ y = cc in
    ⊎_elim (λ w. inl w) (λ p. inr (past x y b Y Z X head p)) (split_append b X Y Z tail)

-- a breaking that has at least these pieces left has at least as many groups
fewest_from : (n : ℕ) → 0 < n → (F B : List (List TextUnit)) (P : List TextUnit) → AreFullest n F → All (λ g. 0 < length g) F
    → All (λ g. width_of g ≤ n) B → flat_map (λ g. g) B ≡ P ++ flat_map (λ g. g) F → length F ≤ length B
fewest_from n pos [] B P full some fits e = omega arith
fewest_from n pos (g ∷ F) [] P full some fits e =
    let h = All-head (λ g. 0 < length g) g F some in
    absurd (omega (arith, ap length e, length-append P (g ++ flat_map (λ g. g) F), length-append g (flat_map (λ g. g) F)))
fewest_from n pos (g ∷ []) (b ∷ B) P full some fits e = omega arith
fewest_from n pos (g ∷ [] ∷ F) (b ∷ B) P full some fits e =
    let h = All-head (λ g. 0 < length g) [] F (All-tail (λ g. 0 < length g) g ([] ∷ F) some) in absurd (omega arith)
fewest_from n pos (g ∷ (p ∷ h) ∷ F) (b ∷ B) P full some fits e =
    let rest = (p ∷ h) ++ flat_map (λ g. g) F in
    let e' : b ++ flat_map (λ g. g) B ≡ (P ++ g) ++ rest = e ∙ sym (append_assoc P g rest) in
    let room = All-head (λ g. width_of g ≤ n) b B fits in
    ⊎_elim (λ w.
    let more = fewest_from n pos ((p ∷ h) ∷ F) B w.left full.2 (All-tail (λ g. 0 < length g) g ((p ∷ h) ∷ F) some)
    (All-tail (λ g. width_of g ≤ n) b B fits) w.is in
    omega arith)
    (λ past.
    let same : p ≡ past.first = let t = past.next in cc in
    let sum : width_of b ≡ width_of (P ++ g) + width_of (past.first ∷ past.more) = ap width_of past.is ∙ sum_by-append
    (λ p. p.width) (P ++ g) (past.first ∷ past.more) in
    let first = sum_by-cons (λ p. p.width) past.first past.more in
    let front = sum_by-append (λ p. p.width) P g in
    let need = needed-le n p pos in
    let width : p.width ≡ past.first.width = ap (λ q. q.width) same in
    let passes : n < width_of g + needed n p = full.1 in
    absurd (omega arith))
    (split_append b (flat_map (λ g. g) B) (P ++ g) rest e')

-- no breaking has fewer groups than the fullest
pub fewest_groups : (n : ℕ) → 0 < n → (pieces : List TextUnit) (F B : List (List TextUnit)) → IsFullest n pieces F
    → IsBreaking n pieces B → length F ≤ length B
fewest_groups n pos [] F B f b = let e = f.grouping.none refl in let e' = b.grouping.none refl in omega arith
fewest_groups n pos (p ∷ pieces) F B f b =
    fewest_from n pos F B [] f.fullest (f.grouping.some (omega arith)) b.fits (b.grouping.whole ∙ sym f.grouping.whole)

-- over all lines of a text: no breaking has fewer groups in all
pub fewest_lines : (n : ℕ) → 0 < n → (words : Bool) (lines : List (List ℕ))
    (broken other : List (List (List TextUnit))) → AllZip (λ line groups. IsFullest n (units n words line) groups) lines broken
    → AllZip (λ line groups. IsBreaking n (units n words line) groups) lines other → sum_by length broken ≤ sum_by length other
fewest_lines n pos words [] [] [] f b = omega arith
fewest_lines n pos words (line ∷ lines) (g ∷ gs) (o ∷ os) f b =
    let first = fewest_groups n pos (units n words line) g o f.0 b.0 in
    let rest = fewest_lines n pos words lines gs os f.1 b.1 in
    omega (arith, sum_by-cons (λ (x : List (List TextUnit)). length x) g gs, sum_by-cons (λ (x : List (List TextUnit)). length x) o os)
fewest_lines n pos words [] [] _ f b = absurd b
fewest_lines n pos words (line ∷ lines) (g ∷ gs) [] f b = absurd b
fewest_lines n pos words _ _ _ f b = absurd f

-- ---- lines

abbrev pub rows : List ℕ → ℕ
rows cs = length (lines_of cs)

pub feedless-lines : (cs : List ℕ) → Each is_no_feed (lines_of cs)
feedless-lines cs = Each-lines is_no_feed (λ c. true) (λ c a b. ap not b) cs (every cs)

-- ---- the lines of joined texts

length-onto : (c : ℕ) (ls : List (List ℕ)) → 0 < length ls → length (onto_first c ls) ≡ length ls
length-onto c [] h = absurd (omega arith)
length-onto c (l ∷ ls) h = refl

rows-append : (xs ys : List ℕ) → rows (xs ++ ys) + 1 ≡ rows xs + rows ys
rows-append [] ys = let e : rows [] ≡ 1 = refl in omega arith
rows-append (c ∷ xs) ys = by_test (c == 10) (rows-append xs ys)
  where
    by_test : (b : Bool) → rows (xs ++ ys) + 1 ≡ rows xs + rows ys
        → length (cond b ([] ∷ lines_of (xs ++ ys)) (onto_first c (lines_of (xs ++ ys)))) + 1
        ≡ length (cond b ([] ∷ lines_of xs) (onto_first c (lines_of xs))) + rows ys
    by_test true h = omega arith
    by_test false h =
        omega (arith, h, length-onto c (lines_of (xs ++ ys)) (some_line (xs ++ ys)), length-onto c (lines_of xs) (some_line xs))

rows-line : (xs rest : List ℕ) → list_all is_no_feed xs ≡ true → rows (xs ++ rest) ≡ rows rest
rows-line xs rest h = omega (arith, rows-append xs rest, ap length (lines_of-feedless xs h))

pub rows-break : (rest : List ℕ) → rows (10 ∷ rest) ≡ 1 + rows rest
rows-break rest = let e : suc (rows rest) ≡ 1 + rows rest = omega arith in e

pub shown-feedless : (n used : ℕ) (u : TextUnit) → Feedless u → list_all is_no_feed (unit_or_filler n used u) ≡ true
shown-feedless n used u h =
    cond-cases (λ (t : List ℕ). list_all is_no_feed t ≡ true) (nat_le u.width n) u.text (replicate (n - used) 0xFFFD) (λ _. h)
    (λ _. list_all-copies is_no_feed 0xFFFD (n - used) refl)

rows-group : (n used : ℕ) (g : List TextUnit) (rest : List ℕ) → EachUnit Feedless g → rows (text_from n used g ++ rest) ≡ rows rest
rows-group n used [] rest h = refl
rows-group n used (u ∷ g) rest h =
    ap rows (append_assoc (unit_or_filler n used u) (text_from n (used + u.width) g) rest)
    ∙ rows-line (unit_or_filler n used u) (text_from n (used + u.width) g ++ rest) (shown-feedless n used u h.0)
    ∙ rows-group n (used + u.width) g rest h.1

-- as many breaks as groups, but for the first
pub rows-groups : (n : ℕ) (g : List TextUnit) (gs : List (List TextUnit)) (rest : List ℕ)
    → EachUnit Feedless (flat_map (λ x. x) (g ∷ gs)) → rows (text_of_groups n (g ∷ gs) ++ rest) ≡ length gs + rows rest
rows-groups n g [] rest h = let e = rows-group n 0 g rest (EachUnit-parts Feedless g [] h).0 in omega arith
rows-groups n g (k ∷ gs) rest h =
    let parts = EachUnit-parts Feedless g (flat_map (λ x. x) (k ∷ gs)) h in
    let more = rows-groups n k gs rest parts.1 in
    ap rows (append_assoc (text_from n 0 g) (10 ∷ text_of_groups n (k ∷ gs)) rest)
    ∙ rows-group n 0 g (10 ∷ (text_of_groups n (k ∷ gs) ++ rest)) parts.0 ∙ rows-break (text_of_groups n (k ∷ gs) ++ rest)
    ∙ (let e : 1 + rows (text_of_groups n (k ∷ gs) ++ rest) ≡ length (k ∷ gs) + rows rest = omega arith in e)

groups_some : (us : List TextUnit) (groups : List (List TextUnit)) → IsGrouping us groups → 0 < length groups
groups_some [] groups h = let e = h.none refl in omega arith
groups_some (u ∷ us) [] h = let e : length (flat_map (λ (g : List TextUnit). g) []) ≡ length (u ∷ us) = ap length h.whole in absurd (omega arith)
groups_some (u ∷ us) (g ∷ gs) h = omega arith

rows-broken : (n : ℕ) (words : Bool) (line : List ℕ) (groups : List (List TextUnit)) (rest : List ℕ) → list_all is_no_feed line ≡ true
    → IsFullest n (units n words line) groups → rows (text_of_groups n groups ++ rest) + 1 ≡ length groups + rows rest
rows-broken n words line [] rest plain f = let s = groups_some (units n words line) [] f.grouping in absurd (omega arith)
rows-broken n words line (g ∷ gs) rest plain f =
    let unfed = subst (EachUnit Feedless) (sym f.grouping.whole) (feedless-units n words line plain) in
    let e = rows-groups n g gs rest unfed in omega arith

rows-lines : (n : ℕ) (words : Bool) (lines : List (List ℕ)) (broken : List (List (List TextUnit))) → 0 < length lines
    → Each is_no_feed lines → AllZip (λ line groups. IsFullest n (units n words line) groups) lines broken
    → rows (text_of_lines n broken) ≡ sum_by length broken
rows-lines n words [] broken some p f = absurd (omega arith)
rows-lines n words (l ∷ []) (g ∷ []) some p f =
    let e = rows-broken n words l g [] p.0 f.0 in
    let same = ap rows (append-nil (text_of_groups n g)) in
    let none : rows [] ≡ 1 = refl in
    omega (arith, sum_by-cons (λ (x : List (List TextUnit)). length x) g [])
rows-lines n words (l ∷ m ∷ ls) (g ∷ h ∷ gs) some p f =
    let rest = rows-lines n words (m ∷ ls) (h ∷ gs) (omega arith) p.1 f.1 in
    let e = rows-broken n words l g (10 ∷ text_of_lines n (h ∷ gs)) p.0 f.0 in
    let b = rows-break (text_of_lines n (h ∷ gs)) in
    omega (arith, sum_by-cons (λ (x : List (List TextUnit)). length x) g (h ∷ gs))
rows-lines n words _ [] some p f = absurd f
rows-lines n words _ _ some p f = absurd f.1

-- the lines of a wrapped text are the groups of the fullest breaking
pub rows-wrapped : (n : ℕ) (words : Bool) (text answer : List ℕ) → (f : IsFullestText n words text answer)
    → length (lines_of answer) ≡ sum_by length f.broken
rows-wrapped n words text answer f =
    ap rows f.answered ∙ rows-lines n words (lines_of text) f.broken (some_line text) (feedless-lines text) f.fullest

-- a text has as many lines as its characters do
pub count-chars : (text : List ℕ) → IsUtf8 text → length (lines_of text) ≡ length (lines_of (chars text))
count-chars text u = sym (ap length (lines_of-chars text u) ∙ length-map (lines_of text) chars)

-- no breaking of a text has fewer lines than the wrapped text
pub fewest-wrapped : (n : ℕ) (words : Bool) (text answer : List ℕ) → IsWrapped n words text answer → HasFewestLines n words text answer
fewest-wrapped n words text answer w broken b =
    let cs = chars text in
    let full = full_text n words text answer b.columns w in
    let e = count-chars answer w.utf8 ∙ rows-wrapped n words cs (chars answer) full in
    let least = fewest_lines n b.columns words (lines_of cs) full.broken broken full.fullest b.each in
    omega arith

-- ---- a cut text

-- a cut text has no more lines than the text
pub lines-cut : (n : ℕ) (text answer : List ℕ) → IsUtf8 text → IsCut n text answer → length (lines_of answer) ≤ length (lines_of text)
lines-cut n text answer u c =
    let copies : List ℕ = replicate (missing_columns n c.front c.rest) 0xFFFD in
    let filled : rows copies ≡ 1 = ap rows (sym (append-nil copies)) ∙ rows-line copies []
    (list_all-copies is_no_feed 0xFFFD (missing_columns n c.front c.rest) refl) in
    let own : rows (chars answer) + 1 ≡ rows c.front + rows copies = ap (λ t. rows t + 1) c.characters ∙ rows-append c.front copies in
    let whole : rows (chars text) + 1 ≡ rows c.front + rows c.rest = ap (λ t. rows t + 1) c.longest.parts ∙ rows-append c.front c.rest in
    omega (arith, own, whole, filled, some_line c.rest, count-chars answer c.utf8, count-chars text u)
