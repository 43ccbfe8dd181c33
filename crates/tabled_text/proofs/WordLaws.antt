-- What is wrapped between words: it fits, has the fewest lines, is the old text except for dropped spaces, and a text
-- that fits is kept.
use Rattle.tabled_text.proofs.Names.{All, All-cons, All-head, All-nil, All-tail, AllZip, EachUnitFits, Fits, IsAdditive, IsUtf8, List, TextUnit}
use Rattle.tabled_text.proofs.Names.{[], ap, append-nil, append_all, append_assoc, arith, chars, chars-nil, columns_of, cond, count_of}
use Rattle.tabled_text.proofs.Names.{encode_utf8_all, encodes-chars, flat_map, greatest, inl, inr, is_additive, is_no_feed}
use Rattle.tabled_text.proofs.Names.{join_with_byte, join_with_byte-slice_split, le-leb, length, length-map, lines_of, list_all, lt-leb, map, min}
use Rattle.tabled_text.proofs.Names.{needed, refl, space, stays, subst, sum_by, sum_by-append, sum_by-cons, sym, text_columns, text_from, text_of}
use Rattle.tabled_text.proofs.Names.{text_of_groups, text_of_lines, true, unit_of_char, units, units_of_word, units_of_words, width_of, words_of}
use Rattle.tabled_text.proofs.Names.{ℕ, ⊎_elim, ⊤, ◌++◌, ◌+◌, ◌<◌, ◌==◌, ◌∙◌, ◌∷◌, ◌≡◌, ◌≤◌, ◌⊎◌}
use Rattle.std.proofs.lemmas.List.Concat.{flat_map-append}
use Rattle.tabled_text.specs.Fitting.{FitsIn}
use Rattle.tabled_text.specs.Room.{StaysWithin}
use Rattle.tabled_text.specs.WordWrap.{AreFullOfWords, ArePartsOf, HasFewestWordLines, HasOldWords, IsFullOfWords, IsLeastWordBreaking}
use Rattle.tabled_text.specs.WordWrap.{IsWordBreaking, IsWordWrapped, IsWordWrappedText, SpacedUnit, further_units, on_line}
use Rattle.tabled_text.specs.WordWrap.{spaced_units, spaced_word, with_spaces, word_units}
use Rattle.tabled_text.proofs.Bridge.{Each, begins-split, lines_of-feed, some_line, text_columns-chars}
use Rattle.tabled_text.proofs.CutWhole.{IsReached-counted, count_of-bytes}
use Rattle.tabled_text.proofs.FewestLines.{count-chars, feedless-lines, needed-le, rows, rows-break, rows-groups}
use Rattle.tabled_text.proofs.FewestLines.{split_append}
use Rattle.tabled_text.proofs.Filling.{append_all-fits}
use Rattle.tabled_text.proofs.FitLemmas.{EachUnit, EachUnit-append, EachUnit-parts, Feedless}
use Rattle.tabled_text.proofs.FittingLaws.{Sound, Within-group}
use Rattle.tabled_text.proofs.OwnBreaking.{Narrow, Narrow-from, fits-narrow, text_from-narrow, unit-le}
use Rattle.tabled_text.proofs.Within.{Within, Within-append, Within-nothing, text_columns-within}
use Rattle.tabled_text.proofs.WordFilling.{full_lines, word_wrapped-cases, word_wrapped_text, wrapped-some, written_words}
use Rattle.tabled_text.proofs.WordUnits.{all_words, begins-bare, each-groups, each-lines, each-units, feedless-words, further_words}
use Rattle.tabled_text.proofs.WordUnits.{on_line-append, sound-groups, sound-units, text_of-line, width-line}
use Rattle.tabled_text.proofs.WordUnits.{with_spaces-first, with_spaces-units, word-cases}
use Rattle.tabled_text.proofs.WrapKept.{own_width, plain-counts}
use Rattle.tabled_text.proofs.WrapRoom.{EachPlain, EachPlain-lines, Good, good-made, stays-append_all, stays-break, stays-nothing}

abbrev AreFull : ℕ → List (List ℕ) → List (List (List SpacedUnit)) → Type 0
AreFull n lines broken = AllZip (λ line groups. IsFullOfWords n line groups) lines broken

abbrev AreSome : List (List SpacedUnit) → Type 0
AreSome gs = All (λ (g : List SpacedUnit). 0 < length g) gs

some-head : (g : List SpacedUnit) (gs : List (List SpacedUnit)) → AreSome (g ∷ gs) → 0 < length g
some-head g gs h = All-head (λ (g : List SpacedUnit). 0 < length g) g gs h

some-tail : (g : List SpacedUnit) (gs : List (List SpacedUnit)) → AreSome (g ∷ gs) → AreSome gs
some-tail g gs h = All-tail (λ (g : List SpacedUnit). 0 < length g) g gs h

abbrev flat : List (List SpacedUnit) → List SpacedUnit
flat gs = flat_map (λ g. g) gs

-- ---- it fits, whatever the characters

Within-words : (n : ℕ) → 0 < n → (gs : List (List SpacedUnit)) → Sound (with_spaces (flat gs)) → AreFullOfWords n gs
    → Within n (lines_of (text_of_groups n (map on_line gs)))
Within-words n pos [] s f = Within-nothing n
Within-words n pos (g ∷ []) s f = let own = (sound-groups g [] s).0 in Within-group n pos (on_line g) own.laid own.feedless f
Within-words n pos (g ∷ h ∷ gs) s f =
    let parts = sound-groups g (h ∷ gs) s in
    let own = parts.0 in
    let rest = text_of_groups n (map on_line (h ∷ gs)) in
    subst (Within n) (sym (lines_of-feed (text_from n 0 (on_line g)) rest))
    (Within-append n (lines_of (text_from n 0 (on_line g))) (lines_of rest)
    (Within-group n pos (on_line g) own.laid own.feedless f.0) (Within-words n pos (h ∷ gs) parts.1 f.2))

Within-line : (n : ℕ) → 0 < n → (line : List ℕ) (gs : List (List SpacedUnit)) → list_all is_no_feed line ≡ true
    → IsFullOfWords n line gs → Within n (lines_of (text_of_groups n (map on_line gs)))
Within-line n pos line gs h f =
    Within-words n pos gs (subst (λ us. Sound (with_spaces us)) (sym f.whole) (sound-units n line h)) f.fullest

Within-lines : (n : ℕ) → 0 < n → (lines : List (List ℕ)) (broken : List (List (List SpacedUnit))) → Each is_no_feed lines
    → AreFull n lines broken → Within n (lines_of (text_of_lines n (map (map on_line) broken)))
Within-lines n pos [] [] p f = Within-nothing n
Within-lines n pos (l ∷ []) (g ∷ []) p f = Within-line n pos l g p.0 f.0
Within-lines n pos (l ∷ m ∷ ls) (g ∷ h ∷ gs) p f =
    let first = text_of_groups n (map on_line g) in
    let rest = text_of_lines n (map (map on_line) (h ∷ gs)) in
    subst (Within n) (sym (lines_of-feed first rest))
    (Within-append n (lines_of first) (lines_of rest) (Within-line n pos l g p.0 f.0) (Within-lines n pos (m ∷ ls) (h ∷ gs) p.1 f.1))
Within-lines n pos [] _ p f = absurd f
Within-lines n pos _ [] p f = absurd f
Within-lines n pos _ _ p f = absurd f.1

pub fits-words : (n : ℕ) (text answer : List ℕ) → IsWordWrapped n text answer → FitsIn n answer
fits-words n text answer w =
    let within : Within n (lines_of (chars answer)) = ⊎_elim
    (λ none. subst (λ t. Within n (lines_of t)) (sym (ap chars none.1 ∙ chars-nil)) (Within-nothing n))
    (λ full. subst (λ t. Within n (lines_of t)) (sym full.1.answered)
    (Within-lines n full.0 (lines_of (chars text)) full.1.broken (feedless-lines (chars text)) full.1.fullest))
    (word_wrapped-cases n text answer w) in
    record { utf8 = w.utf8; columns = text_columns-within n answer w.utf8 within }

-- ---- an additive text stays additive

stays-group : (n : ℕ) → 0 < n → (us : List TextUnit) (rest : List ℕ) → EachUnit Good us → Fits n 0 us
    → ((k : ℕ) → k ≤ n → stays n k rest ≡ true) → stays n 0 (text_from n 0 us ++ rest) ≡ true
stays-group n pos us rest good f h =
    let same : append_all n 0 us ≡ text_from n 0 us = ap (append_all n 0) (sym (append-nil us)) ∙ append_all-fits n 0 us [] f
    ∙ append-nil (text_from n 0 us) in
    let none : min 0 n ≡ 0 = omega arith in
    subst (λ l. stays n 0 (l ++ rest) ≡ true) same
    (subst (λ k. stays n k (append_all n 0 us ++ rest) ≡ true) none (stays-append_all n 0 us rest pos good h))

stays-words : (n : ℕ) → 0 < n → (gs : List (List SpacedUnit)) (rest : List ℕ) → EachUnit Good (with_spaces (flat gs))
    → AreFullOfWords n gs → ((k : ℕ) → k ≤ n → stays n k rest ≡ true) → stays n 0 (text_of_groups n (map on_line gs) ++ rest) ≡ true
stays-words n pos [] rest e f h = h 0 (omega arith)
stays-words n pos (g ∷ []) rest e f h = stays-group n pos (on_line g) rest (each-groups Good g [] e).0 f h
stays-words n pos (g ∷ k ∷ gs) rest e f h =
    let parts = each-groups Good g (k ∷ gs) e in
    let more = text_of_groups n (map on_line (k ∷ gs)) in
    subst (λ t. stays n 0 t ≡ true) (sym (append_assoc (text_from n 0 (on_line g)) (10 ∷ more) rest))
    (stays-group n pos (on_line g) (10 ∷ (more ++ rest)) parts.0 f.0
    (λ j le. stays-break n j (more ++ rest) le (stays-words n pos (k ∷ gs) rest parts.1 f.2 h)))

stays-line : (n : ℕ) → 0 < n → (line : List ℕ) (gs : List (List SpacedUnit)) (rest : List ℕ) → list_all is_additive line ≡ true
    → IsFullOfWords n line gs → ((k : ℕ) → k ≤ n → stays n k rest ≡ true) → stays n 0 (text_of_groups n (map on_line gs) ++ rest) ≡ true
stays-line n pos line gs rest plain f h =
    stays-words n pos gs rest (subst (λ us. EachUnit Good (with_spaces us)) (sym f.whole) (each-units is_additive Good good-made n line plain))
    f.fullest h

stays-lines : (n : ℕ) → 0 < n → (lines : List (List ℕ)) (broken : List (List (List SpacedUnit))) → EachPlain lines
    → AreFull n lines broken → stays n 0 (text_of_lines n (map (map on_line) broken)) ≡ true
stays-lines n pos [] [] p f = le-leb 0 n (omega arith)
stays-lines n pos (l ∷ []) (g ∷ []) p f =
    subst (λ t. stays n 0 t ≡ true) (append-nil (text_of_groups n (map on_line g))) (stays-line n pos l g [] p.0 f.0 (stays-nothing n))
stays-lines n pos (l ∷ m ∷ ls) (g ∷ h ∷ gs) p f =
    let rest = text_of_lines n (map (map on_line) (h ∷ gs)) in
    let more = stays-lines n pos (m ∷ ls) (h ∷ gs) p.1 f.1 in
    stays-line n pos l g (10 ∷ rest) p.0 f.0 (λ k le. stays-break n k rest le more)
stays-lines n pos [] _ p f = absurd f
stays-lines n pos _ [] p f = absurd f
stays-lines n pos _ _ p f = absurd f.1

pub stays-word_wrapped : (n : ℕ) (text answer : List ℕ) → IsAdditive text → IsWordWrapped n text answer → StaysWithin n answer
stays-word_wrapped n text answer p w = record {
  utf8 = w.utf8;
  stays = ⊎_elim
      (λ none. subst (λ t. stays n 0 t ≡ true) (sym (ap chars none.1 ∙ chars-nil)) (le-leb 0 n (omega arith)))
      (λ full. subst (λ t. stays n 0 t ≡ true) (sym full.1.answered)
      (stays-lines n full.0 (lines_of (chars text)) full.1.broken (EachPlain-lines (chars text) p.characters) full.1.fullest))
      (word_wrapped-cases n text answer w);
}

-- ---- a line for each group

rows-line : (n : ℕ) (line : List ℕ) (groups : List (List SpacedUnit)) (rest : List ℕ) → list_all is_no_feed line ≡ true
    → IsFullOfWords n line groups → rows (text_of_groups n (map on_line groups) ++ rest) + 1 ≡ length groups + rows rest
rows-line n line [] rest plain f = let b = begins-bare n line in absurd (omega (arith, ap length (f.whole ∙ b.is)))
rows-line n line (g ∷ gs) rest plain f =
    let unfed = each-lines Feedless (g ∷ gs) (subst (λ us. EachUnit Feedless (with_spaces us)) (sym f.whole) (feedless-words n line plain)) in
    omega (arith, rows-groups n (on_line g) (map on_line gs) rest unfed, length-map gs on_line)

rows-lines : (n : ℕ) (lines : List (List ℕ)) (broken : List (List (List SpacedUnit))) → 0 < length lines → Each is_no_feed lines
    → AreFull n lines broken → rows (text_of_lines n (map (map on_line) broken)) ≡ sum_by length broken
rows-lines n [] broken some p f = absurd (omega arith)
rows-lines n (l ∷ []) (g ∷ []) some p f =
    let e = rows-line n l g [] p.0 f.0 in
    let same = ap rows (append-nil (text_of_groups n (map on_line g))) in
    let none : rows [] ≡ 1 = refl in
    omega (arith, sum_by-cons (λ (x : List (List SpacedUnit)). length x) g [])
rows-lines n (l ∷ m ∷ ls) (g ∷ h ∷ gs) some p f =
    let more = text_of_lines n (map (map on_line) (h ∷ gs)) in
    let rest = rows-lines n (m ∷ ls) (h ∷ gs) (omega arith) p.1 f.1 in
    let e = rows-line n l g (10 ∷ more) p.0 f.0 in
    let b = rows-break more in
    omega (arith, sum_by-cons (λ (x : List (List SpacedUnit)). length x) g (h ∷ gs))
rows-lines n _ [] some p f = absurd f
rows-lines n _ _ some p f = absurd f.1

rows-wrapped : (n : ℕ) (text answer : List ℕ) → (f : IsWordWrappedText n text answer) → rows answer ≡ sum_by length f.broken
rows-wrapped n text answer f = ap rows f.answered ∙ rows-lines n (lines_of text) f.broken (some_line text) (feedless-lines text) f.fullest

-- ---- the fewest lines

on_line-le : (g : List SpacedUnit) → width_of (on_line g) ≤ width_of (with_spaces g)
on_line-le [] = omega arith
on_line-le (u ∷ g) = omega (arith, ap width_of (with_spaces-first u g), sum_by-append own_width u.before (on_line (u ∷ g)))

-- a line that holds a group and a unit more is as wide as both with what is before the unit
past-width : (P g : List SpacedUnit) (p : SpacedUnit) (more : List SpacedUnit) → 0 < length g
    → width_of (on_line g) + (width_of p.before + p.unit.width) ≤ width_of (on_line ((P ++ g) ++ p ∷ more))
past-width [] [] p more some = absurd (omega arith)
past-width [] (q ∷ g) p more some =
    omega (
      arith,
      ap width_of (on_line-append q g (p ∷ more)),
      sum_by-append own_width (on_line (q ∷ g)) (with_spaces (p ∷ more)),
      ap width_of (with_spaces-first p more),
      sum_by-append own_width p.before (on_line (p ∷ more)),
      sum_by-cons own_width p.unit (with_spaces more),
    )
past-width (x ∷ P) g p more some =
    omega (
      arith,
      ap width_of (on_line-append x (P ++ g) (p ∷ more)),
      sum_by-append own_width (on_line (x ∷ (P ++ g))) (with_spaces (p ∷ more)),
      ap width_of (on_line-append x P g),
      sum_by-append own_width (on_line (x ∷ P)) (with_spaces g),
      on_line-le g,
      ap width_of (with_spaces-first p more),
      sum_by-append own_width p.before (on_line (p ∷ more)),
      sum_by-cons own_width p.unit (with_spaces more),
    )

-- a breaking that has at least these units left has at least as many groups
fewest_from : (n : ℕ) → 0 < n → (F B : List (List SpacedUnit)) (P : List SpacedUnit) → AreFullOfWords n F → AreSome F
    → All (λ g. width_of (on_line g) ≤ n) B → flat B ≡ P ++ flat F → length F ≤ length B
fewest_from n pos [] B P full some fits e = omega arith
fewest_from n pos (g ∷ F) [] P full some fits e =
    let h = some-head g F some in
    absurd (omega (arith, ap length e, length-both P (g ++ flat F), length-both g (flat F)))
  where
    length-both : (xs ys : List SpacedUnit) → length (xs ++ ys) ≡ length xs + length ys
    length-both [] ys = omega arith
    length-both (x ∷ xs) ys = let more = length-both xs ys in omega arith
fewest_from n pos (g ∷ []) (b ∷ B) P full some fits e = omega arith
fewest_from n pos (g ∷ [] ∷ F) (b ∷ B) P full some fits e =
    let h = some-head [] F (some-tail g ([] ∷ F) some) in absurd (omega arith)
fewest_from n pos (g ∷ (p ∷ h) ∷ F) (b ∷ B) P full some fits e =
    let rest = (p ∷ h) ++ flat F in
    let e' : b ++ flat B ≡ (P ++ g) ++ rest = e ∙ sym (append_assoc P g rest) in
    let room = All-head (λ (g : List SpacedUnit). width_of (on_line g) ≤ n) b B fits in
    ⊎_elim
    (λ w.
    let more = fewest_from n pos ((p ∷ h) ∷ F) B w.left full.2 (some-tail g ((p ∷ h) ∷ F) some)
    (All-tail (λ (g : List SpacedUnit). width_of (on_line g) ≤ n) b B fits) w.is in
    omega arith)
    (λ past.
    let same : past.first ≡ p = let t = past.next in cc in
    let is : b ≡ (P ++ g) ++ p ∷ past.more = past.is ∙ ap (λ q. (P ++ g) ++ q ∷ past.more) same in
    let wide = past-width P g p past.more (some-head g ((p ∷ h) ∷ F) some) in
    let need = needed-le n p.unit pos in
    let passes : n < width_of (on_line g) + (width_of p.before + needed n p.unit) = full.1 in
    absurd (omega (arith, ap (λ l. width_of (on_line l)) is)))
    (split_append b (flat B) (P ++ g) rest e')

fewest_lines : (n : ℕ) → 0 < n → (lines : List (List ℕ)) (broken other : List (List (List SpacedUnit))) → AreFull n lines broken
    → AllZip (λ line groups. IsWordBreaking n line groups) lines other → sum_by length broken ≤ sum_by length other
fewest_lines n pos [] [] [] f b = omega arith
fewest_lines n pos (line ∷ lines) (g ∷ gs) (o ∷ os) f b =
    let first = fewest_from n pos g o [] f.0.fullest f.0.some b.0.fits (b.0.whole ∙ sym f.0.whole) in
    let rest = fewest_lines n pos lines gs os f.1 b.1 in
    omega (arith, sum_by-cons (λ (x : List (List SpacedUnit)). length x) g gs, sum_by-cons (λ (x : List (List SpacedUnit)). length x) o os)
fewest_lines n pos [] [] _ f b = absurd b
fewest_lines n pos (line ∷ lines) (g ∷ gs) [] f b = absurd b
fewest_lines n pos _ _ _ f b = absurd f

pub fewest-words : (n : ℕ) (text answer : List ℕ) → IsWordWrapped n text answer → HasFewestWordLines n text answer
fewest-words n text answer w broken b =
    let cs = chars text in
    let full = word_wrapped_text n text answer b.columns w in
    let e = count-chars answer w.utf8 ∙ rows-wrapped n cs (chars answer) full in
    let least = fewest_lines n b.columns (lines_of cs) full.broken broken full.fullest b.each in
    omega arith

-- ---- where each unit fits, the wrapped text is the text of a breaking

narrow-word : (n : ℕ) (word : List ℕ) → Narrow n (units_of_word n word) → Narrow n (word_units n word)
narrow-word n [] h = word-cases (Narrow n) n [] (λ le. (le, tt)) (λ _. tt)
narrow-word n (c ∷ cs) h =
    word-cases (Narrow n) n (c ∷ cs) (λ le. (le, tt))
    (λ wide. subst (λ b. Narrow n (cond b (record { text = c ∷ cs; width = columns_of (c ∷ cs) } ∷ []) (map unit_of_char (c ∷ cs))))
    (lt-leb (columns_of (c ∷ cs)) n wide) h)

abbrev Fit : ℕ → TextUnit → Type 0
Fit n u = u.width ≤ n

narrow-joined : (n : ℕ) (w : List ℕ) (ws : List (List ℕ)) → Narrow n (units_of_words n (w ∷ ws))
    → Narrow n (word_units n w ++ further_words n ws)
narrow-joined n w [] h = EachUnit-append (Fit n) (word_units n w) [] (narrow-word n w h) tt
narrow-joined n w (x ∷ ws) h =
    let parts = EachUnit-parts (Fit n) (units_of_word n w) (space ∷ units_of_words n (x ∷ ws)) h in
    EachUnit-append (Fit n) (word_units n w) (further_words n (x ∷ ws)) (narrow-word n w parts.0)
    (parts.1.0, narrow-joined n x ws parts.1.1)

abbrev FitLines : ℕ → List (List ℕ) → Type 0
FitLines n lines = All (λ line. All (λ u. u.width ≤ n) (units n true line)) lines

fit-head : (n : ℕ) (l : List ℕ) (ls : List (List ℕ)) → FitLines n (l ∷ ls) → Narrow n (units n true l)
fit-head n l ls h = Narrow-from n (units n true l) (All-head (λ line. All (λ (u : TextUnit). u.width ≤ n) (units n true line)) l ls h)

fit-tail : (n : ℕ) (l : List ℕ) (ls : List (List ℕ)) → FitLines n (l ∷ ls) → FitLines n ls
fit-tail n l ls h = All-tail (λ line. All (λ (u : TextUnit). u.width ≤ n) (units n true line)) l ls h

narrow-line : (n : ℕ) (line : List ℕ) (groups : List (List SpacedUnit)) → Narrow n (units n true line) → IsFullOfWords n line groups
    → Narrow n (with_spaces (flat groups))
narrow-line n line groups h f =
    let b = begins-split (λ c. c == 32) line in
    let own : Narrow n (all_words n (words_of line)) = subst (λ ws. Narrow n (all_words n ws)) (sym b.parts)
    (narrow-joined n b.first b.rest (subst (λ ws. Narrow n (units_of_words n ws)) b.parts h)) in
    subst (Narrow n) (sym (ap with_spaces f.whole ∙ with_spaces-units n (words_of line))) own

abbrev FitGroups : ℕ → List (List SpacedUnit) → Type 0
FitGroups n gs = All (λ (g : List SpacedUnit). width_of (on_line g) ≤ n) gs

groups-fit : (n : ℕ) (gs : List (List SpacedUnit)) → Narrow n (with_spaces (flat gs)) → AreFullOfWords n gs → FitGroups n gs
groups-fit n [] h f = All-nil (λ (g : List SpacedUnit). width_of (on_line g) ≤ n)
groups-fit n (g ∷ []) h f =
    let own = fits-narrow n 0 (on_line g) (omega arith) (each-groups (Fit n) g [] h).0 f in
    All-cons (λ (g : List SpacedUnit). width_of (on_line g) ≤ n) g [] (omega arith)
    (All-nil (λ (g : List SpacedUnit). width_of (on_line g) ≤ n))
groups-fit n (g ∷ k ∷ gs) h f =
    let parts = each-groups (Fit n) g (k ∷ gs) h in
    let own = fits-narrow n 0 (on_line g) (omega arith) parts.0 f.0 in
    All-cons (λ (g : List SpacedUnit). width_of (on_line g) ≤ n) g (k ∷ gs) (omega arith) (groups-fit n (k ∷ gs) parts.1 f.2)

are_breakings : (n : ℕ) (lines : List (List ℕ)) (broken : List (List (List SpacedUnit))) → FitLines n lines → AreFull n lines broken
    → AllZip (λ line groups. IsWordBreaking n line groups) lines broken
are_breakings n [] [] e f = tt
are_breakings n (l ∷ ls) (g ∷ gs) e f =
    let narrow = narrow-line n l g (fit-head n l ls e) f.0 in
    (record { whole = f.0.whole; some = f.0.some; fits = groups-fit n g narrow f.0.fullest }, are_breakings n ls gs (fit-tail n l ls e) f.1)
are_breakings n _ _ e f = absurd f

-- the text of a group on its line
abbrev text_on : List SpacedUnit → List ℕ
text_on g = text_of (on_line g)

texts-narrow : (n : ℕ) (gs : List (List SpacedUnit)) → Narrow n (with_spaces (flat gs)) → map (text_from n 0) (map on_line gs) ≡ map text_on gs
texts-narrow n [] h = refl
texts-narrow n (g ∷ gs) h =
    let parts = each-groups (Fit n) g gs h in
    ap (λ l. l ∷ map (text_from n 0) (map on_line gs)) (text_from-narrow n 0 (on_line g) parts.0)
    ∙ ap (λ l. text_on g ∷ l) (texts-narrow n gs parts.1)

all_lines : (n : ℕ) (lines : List (List ℕ)) (broken : List (List (List SpacedUnit))) → FitLines n lines → AreFull n lines broken
    → map (text_of_groups n) (map (map on_line) broken) ≡ map (join_with_byte 10) (map (map text_on) broken)
all_lines n [] [] e f = refl
all_lines n (l ∷ ls) (g ∷ gs) e f =
    ap (λ t. join_with_byte 10 t ∷ map (text_of_groups n) (map (map on_line) gs)) (texts-narrow n g (narrow-line n l g (fit-head n l ls e) f.0))
    ∙ ap (λ t. join_with_byte 10 (map text_on g) ∷ t) (all_lines n ls gs (fit-tail n l ls e) f.1)
all_lines n _ _ e f = absurd f

map-joins : (broken : List (List (List SpacedUnit))) → map (join_with_byte 10) (map (map text_on) broken)
    ≡ map (λ groups. join_with_byte 10 (map (λ group. text_of (on_line group)) groups)) broken
map-joins [] = refl
map-joins (g ∷ gs) = ap (λ l. join_with_byte 10 (map text_on g) ∷ l) (map-joins gs)

pub least-words : (n : ℕ) (text answer : List ℕ) → 0 < n → EachUnitFits n true text → IsWordWrapped n text answer
    → IsLeastWordBreaking n text answer
least-words n text answer pos fits w =
    let cs = chars text in
    let full = word_wrapped_text n text answer pos w in
    record {
      broken = full.broken;
      is = record { columns = pos; each = are_breakings n (lines_of cs) full.broken fits full.fullest };
      answered = full.answered ∙ ap (join_with_byte 10) (all_lines n (lines_of cs) full.broken fits full.fullest ∙ map-joins full.broken);
      count = count-chars answer w.utf8 ∙ rows-wrapped n cs (chars answer) full;
      least = λ other b. fewest_lines n pos (lines_of cs) full.broken other full.fullest b.each;
    }

-- ---- and so the old text, except for dropped spaces

-- a space or nothing is before each unit
abbrev Spaced : List SpacedUnit → Type 0
Spaced [] = ⊤
Spaced (u ∷ us) = ((u.before ≡ []) ⊎ (u.before ≡ space ∷ [])) × Spaced us

Spaced-append : (g h : List SpacedUnit) → Spaced g → Spaced h → Spaced (g ++ h)
Spaced-append [] h a b = b
Spaced-append (u ∷ g) h a b = (a.0, Spaced-append g h a.1 b)

Spaced-rest : (g h : List SpacedUnit) → Spaced (g ++ h) → Spaced h
Spaced-rest [] h a = a
Spaced-rest (u ∷ g) h a = Spaced-rest g h a.1

Spaced-word : (before us : List TextUnit) → (before ≡ []) ⊎ (before ≡ space ∷ []) → Spaced (spaced_word before us)
Spaced-word before [] b = tt
Spaced-word before (u ∷ us) b = (b, Spaced-word [] us (inl refl))

Spaced-further : (n : ℕ) (words : List (List ℕ)) → Spaced (further_units n words)
Spaced-further n [] = tt
Spaced-further n (w ∷ ws) = Spaced-append (spaced_word (space ∷ []) (word_units n w)) (further_units n ws)
    (Spaced-word (space ∷ []) (word_units n w) (inr refl)) (Spaced-further n ws)

Spaced-units : (n : ℕ) (words : List (List ℕ)) → Spaced (spaced_units n words)
Spaced-units n [] = tt
Spaced-units n (w ∷ ws) =
    Spaced-append (spaced_word [] (word_units n w)) (further_units n ws) (Spaced-word [] (word_units n w) (inl refl)) (Spaced-further n ws)

text_of-append : (g h : List TextUnit) → text_of (g ++ h) ≡ text_of g ++ text_of h
text_of-append g h = flat_map-append (λ (u : TextUnit). u.text) g h

-- a line of two parts, and what is before the first unit of the second
text_of-parts : (u : SpacedUnit) (g : List SpacedUnit) (p : SpacedUnit) (h : List SpacedUnit)
    → text_on ((u ∷ g) ++ p ∷ h) ≡ text_on (u ∷ g) ++ (text_of p.before ++ text_on (p ∷ h))
text_of-parts u g p h =
    ap text_of (on_line-append u g (p ∷ h) ∙ ap (λ l. on_line (u ∷ g) ++ l) (with_spaces-first p h))
    ∙ text_of-append (on_line (u ∷ g)) (p.before ++ on_line (p ∷ h))
    ∙ ap (λ l. text_on (u ∷ g) ++ l) (text_of-append p.before (on_line (p ∷ h)))

are_parts : (gs : List (List SpacedUnit)) → AreSome gs → Spaced (flat gs) → ArePartsOf (text_on (flat gs)) (map text_on gs)
are_parts [] some s = refl
are_parts (g ∷ []) some s = ap text_on (append-nil g)
are_parts ([] ∷ h ∷ gs) some s = let k = some-head [] (h ∷ gs) some in absurd (omega arith)
are_parts ((u ∷ g) ∷ [] ∷ gs) some s = let k = some-head [] gs (some-tail (u ∷ g) ([] ∷ gs) some) in absurd (omega arith)
are_parts ((u ∷ g) ∷ (p ∷ h) ∷ gs) some s =
    let back = flat ((p ∷ h) ∷ gs) in
    let rest = text_on back in
    let after = Spaced-rest (u ∷ g) back s in
    let whole = text_of-parts u g p (h ++ flat gs) in (
      rest,
      ⊎_elim (λ none. inr (whole ∙ ap (λ b. text_on (u ∷ g) ++ (text_of b ++ rest)) none))
          (λ one. inl (whole ∙ ap (λ b. text_on (u ∷ g) ++ (text_of b ++ rest)) one)) after.0,
      are_parts ((p ∷ h) ∷ gs) (some-tail (u ∷ g) ((p ∷ h) ∷ gs) some) after,
    )

each_line : (n : ℕ) (lines : List (List ℕ)) (broken : List (List (List SpacedUnit))) → AreFull n lines broken
    → AllZip ArePartsOf lines (map (map text_on) broken)
each_line n [] [] f = tt
each_line n (l ∷ ls) (g ∷ gs) f =
    let spaced = subst Spaced (sym f.0.whole) (Spaced-units n (words_of l)) in
    (subst (λ t. ArePartsOf t (map text_on g)) (ap text_on f.0.whole ∙ text_of-line n l) (are_parts g f.0.some spaced), each_line n ls gs f.1)
each_line n _ _ f = absurd f

pub old_words : (n : ℕ) (text answer : List ℕ) → 0 < n → EachUnitFits n true text → IsWordWrapped n text answer → HasOldWords text answer
old_words n text answer pos fits w =
    let cs = chars text in
    let full = word_wrapped_text n text answer pos w in
    record {
      parts = map (map text_on) full.broken;
      each = each_line n (lines_of cs) full.broken full.fullest;
      joined = full.answered ∙ ap (join_with_byte 10) (all_lines n (lines_of cs) full.broken fits full.fullest);
    }

-- ---- a text that fits is kept

-- units that fit are one group
one_group : (n : ℕ) → 0 < n → (gs : List (List SpacedUnit)) → AreFullOfWords n gs → AreSome gs → width_of (on_line (flat gs)) ≤ n
    → text_of_groups n (map on_line gs) ≡ text_on (flat gs)
one_group n pos [] f some fit = refl
one_group n pos (g ∷ []) f some fit =
    let narrow = unit-le n (on_line g) (subst (λ l. width_of (on_line l) ≤ n) (append-nil g) fit) in
    text_from-narrow n 0 (on_line g) narrow ∙ ap text_on (sym (append-nil g))
one_group n pos (g ∷ [] ∷ gs) f some fit = let k = some-head [] gs (some-tail g ([] ∷ gs) some) in absurd (omega arith)
one_group n pos (g ∷ (p ∷ h) ∷ gs) f some fit =
    let wide = past-width [] g p (h ++ flat gs) (some-head g ((p ∷ h) ∷ gs) some) in
    let need = needed-le n p.unit pos in
    let passes : n < width_of (on_line g) + (width_of p.before + needed n p.unit) = f.1 in
    absurd (omega arith)

kept-line : (n : ℕ) → 0 < n → (line : List ℕ) (gs : List (List SpacedUnit)) → IsFullOfWords n line gs → count_of line ≤ n
    → text_of_groups n (map on_line gs) ≡ line
kept-line n pos line gs f few =
    let own = width-line n line in
    let fit : width_of (on_line (flat gs)) ≤ n = subst (λ us. width_of (on_line us) ≤ n) (sym f.whole) (omega arith) in
    one_group n pos gs f.fullest f.some fit ∙ ap text_on f.whole ∙ text_of-line n line

kept-lines : (n : ℕ) → 0 < n → (lines : List (List ℕ)) (broken : List (List (List SpacedUnit))) → AreFull n lines broken
    → All (λ l. count_of l ≤ n) lines → map (text_of_groups n) (map (map on_line) broken) ≡ lines
kept-lines n pos [] [] f h = refl
kept-lines n pos (l ∷ ls) (g ∷ gs) f h =
    ap (λ t. t ∷ map (text_of_groups n) (map (map on_line) gs)) (kept-line n pos l g f.0 (All-head (λ l. count_of l ≤ n) l ls h))
    ∙ ap (λ t. l ∷ t) (kept-lines n pos ls gs f.1 (All-tail (λ l. count_of l ≤ n) l ls h))
kept-lines n pos _ _ f h = absurd f

kept-text : (n : ℕ) → 0 < n → (cs : List ℕ) (broken : List (List (List SpacedUnit))) → AreFull n (lines_of cs) broken
    → All (λ l. count_of l ≤ n) (lines_of cs) → text_of_lines n (map (map on_line) broken) ≡ cs
kept-text n pos cs broken f h = ap (join_with_byte 10) (kept-lines n pos (lines_of cs) broken f h) ∙ join_with_byte-slice_split 10 cs

pub IsWordWrapped-short : (n : ℕ) (text : List ℕ) → IsUtf8 text → 0 < n → length text ≤ n → IsWordWrapped n text text
IsWordWrapped-short n text u pos le =
    let cs : List ℕ = chars text in
    let counts = (IsReached-counted n cs (omega (arith, count_of-bytes text u))).fits in
    let broken : List (List (List SpacedUnit)) = map (λ line. (written_words n line pos).groups) (lines_of cs) in
    let full = full_lines n pos (lines_of cs) in
    wrapped-some n text text (λ z. omega arith) u
    (record { broken = broken; fullest = full; answered = sym (kept-text n pos cs broken full counts) })

pub kept-words : (n : ℕ) (text answer : List ℕ) → 0 < n → IsAdditive text → text_columns text ≤ n → IsWordWrapped n text answer
    → answer ≡ text
kept-words n text answer pos p room w =
    let cs : List ℕ = chars text in
    let full = word_wrapped_text n text answer pos w in
    let wide : greatest (map columns_of (lines_of cs)) ≤ n = subst (λ k. k ≤ n) (text_columns-chars text p.utf8) room in
    let counts = plain-counts n (lines_of cs) (EachPlain-lines cs p.characters) wide in
    let same : chars answer ≡ cs = full.answered ∙ kept-text n pos cs full.broken full.fullest counts in
    sym (encodes-chars answer w.utf8) ∙ ap encode_utf8_all same ∙ encodes-chars text p.utf8
