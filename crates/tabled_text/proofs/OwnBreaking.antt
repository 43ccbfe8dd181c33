-- Where each unit finds room, a wrapped text is the text of a breaking, and so the old one with line feeds put in.
use Rattle.tabled_text.proofs.Names.{All, All-cons, All-head, All-nil, All-tail, AllZip, AreFullest, Bool, EachUnitFits, Fits, IsBreaking}
use Rattle.tabled_text.proofs.Names.{IsFullest, IsLeastBreaking, IsWrapped, List, TextUnit, [], ap, append-nil, arith, chars, columns_of}
use Rattle.tabled_text.proofs.Names.{cond, false, flat_map, join_with_byte, join_with_byte-slice_split, le-leb, lines_of, map, nat_le, refl}
use Rattle.tabled_text.proofs.Names.{replicate, space, subst, sum_by-cons, sym, text_from, text_of, text_of_groups, true, unit_of_char}
use Rattle.tabled_text.proofs.Names.{units, units_of_word, units_of_words, width_of, words_of, ℕ, ◌++◌, ◌+◌, ◌-◌, ◌<◌, ◌∙◌, ◌∷◌, ◌≡◌, ◌≤◌}
use Rattle.std.proofs.lemmas.List.Concat.{flat_map-append}
use Rattle.tabled_text.specs.Breaking.{IsBroken}
use Rattle.tabled_text.specs.OldText.{HasOldText}
use Rattle.tabled_text.proofs.FewestLines.{count-chars, fewest_lines, rows-wrapped}
use Rattle.tabled_text.proofs.Filling.{AllZip-broken, full_text, written_fullest}
use Rattle.tabled_text.proofs.FitLemmas.{EachUnit, EachUnit-append, EachUnit-parts}

abbrev pub Narrow : ℕ → List TextUnit → Type 0
Narrow n us = EachUnit (λ u. u.width ≤ n) us

pub Narrow-from : (n : ℕ) (us : List TextUnit) → All (λ u. u.width ≤ n) us → Narrow n us
Narrow-from n [] h = tt
Narrow-from n (u ∷ us) h = (All-head (λ (v : TextUnit). v.width ≤ n) u us h, Narrow-from n us (All-tail (λ (v : TextUnit). v.width ≤ n) u us h))

-- ---- the units joined are the line

pub text_of-chars : (cs : List ℕ) → text_of (map unit_of_char cs) ≡ cs
text_of-chars [] = refl
text_of-chars (c ∷ cs) = ap (λ l. c ∷ l) (text_of-chars cs)

text_of-word : (n : ℕ) (word : List ℕ) → text_of (units_of_word n word) ≡ word
text_of-word n [] = refl
text_of-word n (c ∷ cs) = pick (nat_le (columns_of (c ∷ cs)) n)
  where
    pick : (b : Bool) → text_of (cond b (record { text = c ∷ cs; width = columns_of (c ∷ cs) } ∷ []) (map unit_of_char (c ∷ cs))) ≡ c ∷ cs
    pick true = append-nil (c ∷ cs)
    pick false = text_of-chars (c ∷ cs)

text_of-words : (n : ℕ) (words : List (List ℕ)) → text_of (units_of_words n words) ≡ join_with_byte 32 words
text_of-words n [] = refl
text_of-words n (w ∷ []) = text_of-word n w
text_of-words n (w ∷ x ∷ ws) =
    flat_map-append (λ (p : TextUnit). p.text) (units_of_word n w) (space ∷ units_of_words n (x ∷ ws))
    ∙ ap (λ l. l ++ (32 ∷ text_of (units_of_words n (x ∷ ws)))) (text_of-word n w) ∙ ap (λ l. w ++ (32 ∷ l)) (text_of-words n (x ∷ ws))

-- the units of a line are the line
pub text_of-units : (n : ℕ) (words : Bool) (line : List ℕ) → text_of (units n words line) ≡ line
text_of-units n false line = text_of-chars line
text_of-units n true line = text_of-words n (words_of line) ∙ join_with_byte-slice_split 32 line

-- ---- the groups
pub text_from-narrow : (n used : ℕ) (g : List TextUnit) → Narrow n g → text_from n used g ≡ text_of g
text_from-narrow n used [] h = refl
text_from-narrow n used (p ∷ g) h =
    ap (λ b. cond b p.text (replicate (n - used) 0xFFFD) ++ text_from n (used + p.width) g) (le-leb p.width n h.0) ∙
    ap (λ l. p.text ++ l) (text_from-narrow n (used + p.width) g h.1)

texts-narrow : (n : ℕ) (groups : List (List TextUnit)) → Narrow n (flat_map (λ g. g) groups)
    → map (text_from n 0) groups ≡ map text_of groups
texts-narrow n [] h = refl
texts-narrow n (g ∷ gs) h =
    let parts = EachUnit-parts (λ u. u.width ≤ n) g (flat_map (λ x. x) gs) h in
    ap (λ l. l ∷ map (text_from n 0) gs) (text_from-narrow n 0 g parts.0) ∙ ap (λ l. text_of g ∷ l) (texts-narrow n gs parts.1)

text_of-flat : (groups : List (List TextUnit)) → flat_map (λ part. part) (map text_of groups) ≡ text_of (flat_map (λ g. g) groups)
text_of-flat [] = refl
text_of-flat (g ∷ gs) = ap (λ l. text_of g ++ l) (text_of-flat gs) ∙ sym (flat_map-append (λ (p : TextUnit). p.text) g (flat_map (λ x. x) gs))

abbrev AreFull : ℕ → Bool → List (List ℕ) → List (List (List TextUnit)) → Type 0
AreFull n words lines broken = AllZip (λ line groups. IsFullest n (units n words line) groups) lines broken

abbrev FitLines : ℕ → Bool → List (List ℕ) → Type 0
FitLines n words lines = All (λ line. All (λ u. u.width ≤ n) (units n words line)) lines

each_line : (n : ℕ) (words : Bool) → (lines : List (List ℕ)) (broken : List (List (List TextUnit))) → AreFull n words lines broken
    → AllZip (λ line cut. flat_map (λ part. part) cut ≡ line) lines (map (map text_of) broken)
each_line n words [] [] f = tt
each_line n words (l ∷ ls) (g ∷ gs) f =
    let whole = f.0.grouping.whole in
    (text_of-flat g ∙ ap text_of whole ∙ text_of-units n words l, each_line n words ls gs f.1)
each_line n words _ _ f = absurd f

narrow_line : (n : ℕ) (words : Bool) (l : List ℕ) (ls : List (List ℕ)) (groups : List (List TextUnit))
    → FitLines n words (l ∷ ls) → IsFullest n (units n words l) groups → Narrow n (flat_map (λ g. g) groups)
narrow_line n words l ls groups h f =
    subst (Narrow n) (sym f.grouping.whole) (Narrow-from n (units n words l)
    (All-head (λ line. All (λ (u : TextUnit). u.width ≤ n) (units n words line)) l ls h))

all_lines : (n : ℕ) (words : Bool) → (lines : List (List ℕ)) (broken : List (List (List TextUnit))) → FitLines n words lines
    → AreFull n words lines broken → map (text_of_groups n) broken ≡ map (λ groups. join_with_byte 10 (map text_of groups)) broken
all_lines n words [] [] e f = refl
all_lines n words (l ∷ ls) (g ∷ gs) e f =
    ap (λ t. join_with_byte 10 t ∷ map (text_of_groups n) gs) (texts-narrow n g (narrow_line n words l ls g e f.0))
    ∙ ap (λ t. join_with_byte 10 (map text_of g) ∷ t)
    (all_lines n words ls gs (All-tail (λ line. All (λ (u : TextUnit). u.width ≤ n) (units n words line)) l ls e) f.1)
all_lines n words _ _ e f = absurd f

-- ---- the fullest breaking is one

pub fits-narrow : (n used : ℕ) (g : List TextUnit) → used ≤ n → Narrow n g → Fits n used g → used + width_of g ≤ n
fits-narrow n used [] le h f = omega arith
fits-narrow n used (u ∷ g) le h f =
    let own : used + u.width ≤ n = subst (λ b. used + cond b u.width 1 ≤ n) (le-leb u.width n h.0) f.0 in
    let more = fits-narrow n (used + u.width) g own h.1 f.1 in
    omega (arith, sum_by-cons (λ (v : TextUnit). v.width) u g)

groups-fit : (n : ℕ) (groups : List (List TextUnit)) → Narrow n (flat_map (λ g. g) groups) → AreFullest n groups
    → All (λ g. width_of g ≤ n) groups
groups-fit n [] h f = All-nil (λ (g : List TextUnit). width_of g ≤ n)
groups-fit n (g ∷ []) h f =
    let own = fits-narrow n 0 g (omega arith) (EachUnit-parts (λ u. u.width ≤ n) g [] h).0 f in
    All-cons (λ (g : List TextUnit). width_of g ≤ n) g [] (omega arith) (All-nil (λ (g : List TextUnit). width_of g ≤ n))
groups-fit n (g ∷ k ∷ gs) h f =
    let parts = EachUnit-parts (λ u. u.width ≤ n) g (flat_map (λ x. x) (k ∷ gs)) h in
    let own = fits-narrow n 0 g (omega arith) parts.0 f.0 in
    All-cons (λ (g : List TextUnit). width_of g ≤ n) g (k ∷ gs) (omega arith) (groups-fit n (k ∷ gs) parts.1 f.2)

are_breakings : (n : ℕ) (words : Bool) (lines : List (List ℕ)) (broken : List (List (List TextUnit))) → FitLines n words lines
    → AreFull n words lines broken → AllZip (λ line groups. IsBreaking n (units n words line) groups) lines broken
are_breakings n words [] [] e f = tt
are_breakings n words (l ∷ ls) (g ∷ gs) e f =
    let own : IsBreaking n (units n words l) g = record {
      grouping = f.0.grouping;
      fits = groups-fit n g (narrow_line n words l ls g e f.0) f.0.fullest;
    } in
    (own, are_breakings n words ls gs (All-tail (λ line. All (λ (u : TextUnit). u.width ≤ n) (units n words line)) l ls e) f.1)
are_breakings n words _ _ e f = absurd f

-- the wrapped text is the text of a breaking that has the fewest groups
pub least_breaking : (n : ℕ) (words : Bool) (text answer : List ℕ) → 0 < n → EachUnitFits n words text
    → IsWrapped n words text answer → IsLeastBreaking n words text answer
least_breaking n words text answer pos fits w =
    let cs = chars text in
    let full = full_text n words text answer pos w in
    record {
      broken = full.broken;
      is = record { columns = pos; each = are_breakings n words (lines_of cs) full.broken fits full.fullest };
      answered = full.answered ∙ ap (join_with_byte 10) (all_lines n words (lines_of cs) full.broken fits full.fullest);
      count = count-chars answer w.utf8 ∙ rows-wrapped n words cs (chars answer) full;
      least = λ other b. fewest_lines n pos words (lines_of cs) full.broken other full.fullest b.each;
    }

map-joins : (broken : List (List (List TextUnit))) → map (λ groups. join_with_byte 10 (map text_of groups)) broken
    ≡ map (join_with_byte 10) (map (map text_of) broken)
map-joins [] = refl
map-joins (g ∷ gs) = ap (λ l. join_with_byte 10 (map text_of g) ∷ l) (map-joins gs)

-- without the line feeds that were put in, the text is the old one
pub old_text : (n : ℕ) (words : Bool) (text answer : List ℕ) → 0 < n → EachUnitFits n words text
    → IsWrapped n words text answer → HasOldText text answer
old_text n words text answer pos fits w =
    let cs = chars text in
    let full = full_text n words text answer pos w in
    record {
      parts = map (map text_of) full.broken;
      each = each_line n words (lines_of cs) full.broken full.fullest;
      joined = full.answered ∙ ap (join_with_byte 10) (all_lines n words (lines_of cs) full.broken fits full.fullest ∙ map-joins full.broken);
    }

-- ---- where there are breakings, each unit finds room

pub unit-le : (n : ℕ) (g : List TextUnit) → width_of g ≤ n → Narrow n g
unit-le n [] h = tt
unit-le n (u ∷ g) h =
    let e = sum_by-cons (λ (v : TextUnit). v.width) u g in
    (omega arith, unit-le n g (omega arith))

narrow-groups : (n : ℕ) (groups : List (List TextUnit)) → All (λ g. width_of g ≤ n) groups → Narrow n (flat_map (λ g. g) groups)
narrow-groups n [] h = tt
narrow-groups n (g ∷ gs) h =
    EachUnit-append (λ u. u.width ≤ n) g (flat_map (λ x. x) gs) (unit-le n g (All-head (λ (g : List TextUnit). width_of g ≤ n) g gs h))
    (narrow-groups n gs (All-tail (λ (g : List TextUnit). width_of g ≤ n) g gs h))

pub All-narrow : (n : ℕ) (us : List TextUnit) → Narrow n us → All (λ u. u.width ≤ n) us
All-narrow n [] h = All-nil (λ (u : TextUnit). u.width ≤ n)
All-narrow n (u ∷ us) h = All-cons (λ (u : TextUnit). u.width ≤ n) u us h.0 (All-narrow n us h.1)

fit-lines : (n : ℕ) (words : Bool) (lines : List (List ℕ)) (broken : List (List (List TextUnit))) → AllZip
    (λ line groups. IsBreaking n (units n words line) groups) lines broken → FitLines n words lines
fit-lines n words [] [] b = All-nil (λ line. All (λ (u : TextUnit). u.width ≤ n) (units n words line))
fit-lines n words (l ∷ ls) (g ∷ gs) b =
    All-cons (λ line. All (λ (u : TextUnit). u.width ≤ n) (units n words line)) l ls
    (All-narrow n (units n words l) (subst (Narrow n) b.0.grouping.whole (narrow-groups n g b.0.fits))) (fit-lines n words ls gs b.1)
fit-lines n words _ _ b = absurd b

pub fits-broken : (n : ℕ) (words : Bool) (text : List ℕ) (broken : List (List (List TextUnit)))
    → IsBroken n words text broken → EachUnitFits n words text
fits-broken n words text broken b = fit-lines n words (lines_of (chars text)) broken b.each

-- and where each unit finds room, there is one
pub some_breaking : (n : ℕ) (words : Bool) (text : List ℕ) → 0 < n → EachUnitFits n words text
    → (broken : List (List (List TextUnit))) × IsBroken n words text broken
some_breaking n words text pos fits =
    let lines = lines_of (chars text) in
    let broken : List (List (List TextUnit)) = map (λ line. (written_fullest n (units n words line) pos).groups) lines in
    (broken, record { columns = pos; each = are_breakings n words lines broken fits (AllZip-broken n pos words lines) })
