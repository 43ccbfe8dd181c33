-- The walk that adds word after word, as a function: it gives the fullest breaking of a line between words.
use Rattle.tabled_text.proofs.Names.{All, All-cons, All-nil, AllZip, Bool, Fits, IsUtf8, List, MatchBool, TextUnit, [], ap, append-nil, append_all}
use Rattle.tabled_text.proofs.Names.{append_assoc, append_text, append_used, arith, cases_Bool, chars, chars_from_encodes, cond, encode_utf8_all}
use Rattle.tabled_text.proofs.Names.{encodes-append, eq-eqb, eqb-false, eqb-true, false, flat_map, inl, inr, le-leb, leb-false, leb-true, length}
use Rattle.tabled_text.proofs.Names.{lines_of, map, nat_le, ne_eqb, needed, refl, unit_or_filler, space, subst, sum_by-append, sum_by-cons, sym, text_from}
use Rattle.tabled_text.proofs.Names.{text_of_groups, text_of_lines, true, used_after, width_of, words_of, ⊎_elim, ℕ, ◌++◌, ◌+◌, ◌<◌, ◌==◌, ◌∙◌}
use Rattle.tabled_text.proofs.Names.{◌∷◌, ◌≡◌, ◌≤◌, ◌⊎◌, IsUtf8-nil, replicate, encode_ascii, lit<, ◌-◌}
use Rattle.tabled_text.specs.WordWalk.{goes_on, line_of_words, next_used, next_word, next_words, pending_words, word_at, word_lead}
use Rattle.tabled_text.specs.WordWrap.{AreFullOfWords, IsFullOfWords, IsWordWrapped, IsWordWrappedText, SpacedUnit, further_units, on_line}
use Rattle.tabled_text.specs.WordWrap.{spaced_units, spaced_word, word_units}
use Rattle.tabled_text.proofs.Filling.{append_text-fits, encodes-feed, needed-le-line}
use Rattle.tabled_text.proofs.WordUnits.{begins-bare, on_line-append, word_units-some}
use Rattle.tabled_text.proofs.WrapKept.{fits-sum, own_width}

-- ---- units on a line, one list after another

Fits-append : (n used : ℕ) (g h : List TextUnit) → Fits n used g → Fits n (used + width_of g) h → Fits n used (g ++ h)
Fits-append n used [] h f k = subst (λ j. Fits n j h) (let e : used + 0 ≡ used = omega arith in e) k
Fits-append n used (u ∷ g) h f k =
    let e : used + width_of (u ∷ g) ≡ used + u.width + width_of g = omega (arith, sum_by-cons own_width u g) in
    (f.0, Fits-append n (used + u.width) g h f.1 (subst (λ j. Fits n j h) e k))

text_from-append : (n used : ℕ) (g h : List TextUnit) → text_from n used (g ++ h) ≡ text_from n used g ++ text_from n (used + width_of g) h
text_from-append n used [] h = ap (λ j. text_from n j h) (let e : used ≡ used + 0 = omega arith in e)
text_from-append n used (u ∷ g) h =
    let e : used + u.width + width_of g ≡ used + width_of (u ∷ g) = omega (arith, sum_by-cons own_width u g) in
    ap (λ l. unit_or_filler n used u ++ l) (text_from-append n (used + u.width) g h)
    ∙ sym (append_assoc (unit_or_filler n used u) (text_from n (used + u.width) g) (text_from n (used + u.width + width_of g) h))
    ∙ ap (λ j. (unit_or_filler n used u ++ text_from n (used + u.width) g) ++ text_from n j h) e

-- ---- the walk over units with what is before them

-- a unit goes on the line, with what is before it
abbrev goes_with : ℕ → ℕ → SpacedUnit → Bool
goes_with n used u = nat_le (used + (width_of u.before + needed n u.unit)) n

abbrev put : ℕ → ℕ → SpacedUnit → List ℕ
put n used u = cond (goes_with n used u) (text_from n used (u.before ++ u.unit ∷ [])) (10 ∷ unit_or_filler n 0 u.unit)

abbrev put_used : ℕ → ℕ → SpacedUnit → ℕ
put_used n used u = cond (goes_with n used u) (used + (width_of u.before + u.unit.width)) u.unit.width

abbrev put_all : ℕ → ℕ → List SpacedUnit → List ℕ
put_all n used [] = []
put_all n used (u ∷ us) = put n used u ++ put_all n (put_used n used u) us

abbrev columns_on : SpacedUnit → List SpacedUnit → ℕ
columns_on first group = width_of (on_line (first ∷ group))

-- the groups of the walk, if it is in the group that `first` begins
record Filled (n : ℕ) (first : SpacedUnit) (group units : List SpacedUnit) : Type 0 where
  more : List SpacedUnit
  others : List (List SpacedUnit)
  whole : more ++ flat_map (λ g. g) others ≡ units
  some : All (λ g. 0 < length g) others
  fullest : AreFullOfWords n ((first ∷ (group ++ more)) ∷ others)
  text : text_of_groups n (map on_line ((first ∷ (group ++ more)) ∷ others))
      ≡ text_from n 0 (on_line (first ∷ group)) ++ put_all n (columns_on first group) units

module _ (n : ℕ) (pos : 0 < n) where
  none_filled : (first : SpacedUnit) (group : List SpacedUnit) → Fits n 0 (on_line (first ∷ group)) → Filled n first group []
  none_filled first group f = record {
    more = [];
    others = [];
    whole = refl;
    some = All-nil (λ (g : List SpacedUnit). 0 < length g);
    fullest = subst (λ g. Fits n 0 (on_line (first ∷ g))) (sym (append-nil group)) f;
    text = ap (λ g. text_from n 0 (on_line (first ∷ g))) (append-nil group) ∙ sym (append-nil (text_from n 0 (on_line (first ∷ group))));
  }

  -- a group with one unit more
  grown : (first : SpacedUnit) (group : List SpacedUnit) (p : SpacedUnit) → on_line (first ∷ (group ++ p ∷ []))
      ≡ on_line (first ∷ group) ++ (p.before ++ p.unit ∷ [])
  grown first group p = on_line-append first group (p ∷ []) ∙ ap (λ l. on_line (first ∷ group) ++ l) (append-nil (p.before ++ p.unit ∷ []))

  grown-fits : (first : SpacedUnit) (group : List SpacedUnit) (p : SpacedUnit) → Fits n 0 (on_line (first ∷ group))
      → columns_on first group + (width_of p.before + needed n p.unit) ≤ n → Fits n 0 (on_line (first ∷ (group ++ p ∷ [])))
  grown-fits first group p f le =
      let k = columns_on first group in
      let last : 0 + k + width_of p.before + needed n p.unit ≤ n = omega arith in
      subst (Fits n 0) (sym (grown first group p))
      (Fits-append n 0 (on_line (first ∷ group)) (p.before ++ p.unit ∷ []) f
      (Fits-append n (0 + k) p.before (p.unit ∷ []) (fits-sum n (0 + k) p.before (omega arith)) (last, tt)))

  grown-columns : (first : SpacedUnit) (group : List SpacedUnit) (p : SpacedUnit)
      → columns_on first (group ++ p ∷ []) ≡ columns_on first group + (width_of p.before + p.unit.width)
  grown-columns first group p =
      omega (
        arith,
        ap width_of (grown first group p),
        sum_by-append own_width (on_line (first ∷ group)) (p.before ++ p.unit ∷ []),
        sum_by-append own_width p.before (p.unit ∷ []),
        sum_by-cons own_width p.unit [],
      )

  grown-text : (first : SpacedUnit) (group : List SpacedUnit) (p : SpacedUnit) (pieces : List SpacedUnit)
      → goes_with n (columns_on first group) p ≡ true
      → text_from n 0 (on_line (first ∷ (group ++ p ∷ []))) ++ put_all n (columns_on first (group ++ p ∷ [])) pieces
      ≡ text_from n 0 (on_line (first ∷ group)) ++ put_all n (columns_on first group) (p ∷ pieces)
  grown-text first group p pieces goes =
      let k = columns_on first group in
      let line = on_line (first ∷ group) in
      let added = p.before ++ p.unit ∷ [] in
      let to = k + (width_of p.before + p.unit.width) in
      let e : 0 + k ≡ k = omega arith in
      ap (λ l. text_from n 0 l ++ put_all n (columns_on first (group ++ p ∷ [])) pieces) (grown first group p)
      ∙ ap (λ j. text_from n 0 (line ++ added) ++ put_all n j pieces) (grown-columns first group p)
      ∙ ap (λ l. l ++ put_all n to pieces) (text_from-append n 0 line added ∙ ap (λ j. text_from n 0 line ++ text_from n j added) e)
      ∙ append_assoc (text_from n 0 line) (text_from n k added) (put_all n to pieces)
      ∙ ap (λ b. text_from n 0 line ++ (cond b (text_from n k added) (10 ∷ unit_or_filler n 0 p.unit) ++ put_all n (cond b to p.unit.width) pieces)) (sym goes)

  grow : (first : SpacedUnit) (group : List SpacedUnit) (p : SpacedUnit) (pieces : List SpacedUnit)
      → goes_with n (columns_on first group) p ≡ true → Filled n first (group ++ p ∷ []) pieces → Filled n first group (p ∷ pieces)
  grow first group p pieces goes next =
      let joined = append_assoc group (p ∷ []) next.more in
      record {
        more = p ∷ next.more;
        others = next.others;
        whole = ap (λ l. p ∷ l) next.whole;
        some = next.some;
        fullest = subst (λ g. AreFullOfWords n ((first ∷ g) ∷ next.others)) joined next.fullest;
        text = ap (λ g. text_of_groups n (map on_line ((first ∷ g) ∷ next.others))) (sym joined) ∙ next.text
            ∙ grown-text first group p pieces goes;
      }

  begun-text : (p : SpacedUnit) (pieces : List SpacedUnit) (k : ℕ) → goes_with n k p ≡ false
      → 10 ∷ (text_from n 0 (on_line (p ∷ [])) ++ put_all n (columns_on p []) pieces) ≡ put_all n k (p ∷ pieces)
  begun-text p pieces k breaks =
      let e : columns_on p [] ≡ p.unit.width = omega (arith, sum_by-cons own_width p.unit []) in
      ap (λ l. 10 ∷ (l ++ put_all n (columns_on p []) pieces)) (append-nil (unit_or_filler n 0 p.unit))
      ∙ ap (λ j. 10 ∷ (unit_or_filler n 0 p.unit ++ put_all n j pieces)) e
      ∙ ap (λ b. cond b (text_from n k (p.before ++ p.unit ∷ [])) (10 ∷ unit_or_filler n 0 p.unit)
      ++ put_all n (cond b (k + (width_of p.before + p.unit.width)) p.unit.width) pieces) (sym breaks)

  begin_next : (first : SpacedUnit) (group : List SpacedUnit) (p : SpacedUnit) (pieces : List SpacedUnit)
      → goes_with n (columns_on first group) p ≡ false → Fits n 0 (on_line (first ∷ group)) → Filled n p [] pieces
      → Filled n first group (p ∷ pieces)
  begin_next first group p pieces breaks f next =
      let k = columns_on first group in
      let passes : n < k + (width_of p.before + needed n p.unit) = leb-false (k + (width_of p.before + needed n p.unit)) n breaks in
      let others = (p ∷ next.more) ∷ next.others in
      let text = text_of_groups n (map on_line others) in
      let whole : p ∷ (next.more ++ flat_map (λ g. g) next.others) ≡ p ∷ pieces = ap (λ l. p ∷ l) next.whole in
      record {
        more = [];
        others = others;
        whole = whole;
        some = All-cons (λ (g : List SpacedUnit). 0 < length g) (p ∷ next.more) next.others (omega arith) next.some;
        fullest = subst (λ g. AreFullOfWords n ((first ∷ g) ∷ others)) (sym (append-nil group)) (f, passes, next.fullest);
        text = ap (λ g. text_from n 0 (on_line (first ∷ g)) ++ (10 ∷ text)) (append-nil group)
            ∙ ap (λ l. text_from n 0 (on_line (first ∷ group)) ++ (10 ∷ l)) next.text
            ∙ ap (λ l. text_from n 0 (on_line (first ∷ group)) ++ l) (begun-text p pieces k breaks);
      }

  first-fits : (u : SpacedUnit) → Fits n 0 (on_line (u ∷ []))
  first-fits u = (let l = needed-le-line n u.unit pos in omega arith, tt)

  filled : (first : SpacedUnit) (group units : List SpacedUnit) → Fits n 0 (on_line (first ∷ group)) → Filled n first group units
  filled first group [] f = none_filled first group f
  filled first group (p ∷ pieces) f =
      ⊎_elim
      (λ goes. grow first group p pieces goes (filled first (group ++ p ∷ []) pieces (grown-fits first group p f
      (leb-true (columns_on first group + (width_of p.before + needed n p.unit)) n goes))))
      (λ breaks. begin_next first group p pieces breaks f (filled p [] pieces (first-fits p)))
      (cases_Bool (goes_with n (columns_on first group) p))

  -- ---- the walk of the code

  put-plain : (used : ℕ) (u : TextUnit) → put n used (record { before = []; unit = u }) ≡ append_text n used u
  put-plain used u =
      let e : used + (0 + needed n u) ≡ used + needed n u = omega arith in
      ap (λ k. cond (nat_le k n) (unit_or_filler n used u ++ []) (10 ∷ unit_or_filler n 0 u)) e ∙ pick (nat_le (used + needed n u) n)
    where
      pick : (b : Bool) → cond b (unit_or_filler n used u ++ []) (10 ∷ unit_or_filler n 0 u) ≡ cond b [] (10 ∷ []) ++ unit_or_filler n (cond b used 0) u
      pick true = append-nil (unit_or_filler n used u)
      pick false = refl

  put_used-plain : (used : ℕ) (u : TextUnit) → put_used n used (record { before = []; unit = u }) ≡ append_used n used u
  put_used-plain used u =
      let e : used + (0 + needed n u) ≡ used + needed n u = omega arith in
      ap (λ k. cond (nat_le k n) (used + (0 + u.width)) u.width) e ∙ pick (nat_le (used + needed n u) n)
    where
      pick : (b : Bool) → cond b (used + (0 + u.width)) u.width ≡ cond b used 0 + u.width
      pick true = omega arith
      pick false = omega arith

  walk-plain : (used : ℕ) (us : List TextUnit) (rest : List SpacedUnit) → put_all n used (spaced_word [] us ++ rest)
      ≡ append_all n used us ++ put_all n (used_after n used us) rest
  walk-plain used [] rest = refl
  walk-plain used (u ∷ us) rest =
      ap (λ l. l ++ put_all n (put_used n used (record { before = []; unit = u })) (spaced_word [] us ++ rest)) (put-plain used u)
      ∙ ap (λ k. append_text n used u ++ put_all n k (spaced_word [] us ++ rest)) (put_used-plain used u)
      ∙ ap (λ l. append_text n used u ++ l) (walk-plain (append_used n used u) us rest)
      ∙ sym (append_assoc (append_text n used u) (append_all n (append_used n used u) us) (put_all n (used_after n (append_used n used u) us) rest))

  -- the units of a word of which the first fits
  fitting_word : (k : ℕ) (u : TextUnit) (us : List TextUnit) (rest : List SpacedUnit) → k + needed n u ≤ n
      → unit_or_filler n k u ++ put_all n (k + u.width) (spaced_word [] us ++ rest)
      ≡ append_all n k (u ∷ us) ++ put_all n (used_after n k (u ∷ us)) rest
  fitting_word k u us rest fit =
      let fits = append_text-fits n k u (le-leb (k + needed n u) n fit) in
      ap (λ l. l ++ put_all n (k + u.width) (spaced_word [] us ++ rest)) (sym fits.0)
      ∙ ap (λ j. append_text n k u ++ put_all n j (spaced_word [] us ++ rest)) (sym fits.1)
      ∙ ap (λ l. append_text n k u ++ l) (walk-plain (append_used n k u) us rest)
      ∙ sym (append_assoc (append_text n k u) (append_all n (append_used n k u) us) (put_all n (used_after n (append_used n k u) us) rest))

  shown-space : (used : ℕ) → unit_or_filler n used space ≡ 32 ∷ []
  shown-space used = ap (λ b. cond b (32 ∷ []) (replicate (n - used) 0xFFFD)) (le-leb 1 n pos)

  -- a unit with a space before it
  put-spaced : (used : ℕ) (u : TextUnit) → put n used (record { before = space ∷ []; unit = u })
      ≡ word_lead n used (needed n u) ++ unit_or_filler n (word_at n used (needed n u)) u
  put-spaced used u = pick (goes_on n used (needed n u))
    where
      pick : (b : Bool) → cond b (unit_or_filler n used space ++ (unit_or_filler n (used + 1) u ++ [])) (10 ∷ unit_or_filler n 0 u)
          ≡ cond b (32 ∷ []) (10 ∷ []) ++ unit_or_filler n (cond b (used + 1) 0) u
      pick true = ap (λ l. l ++ (unit_or_filler n (used + 1) u ++ [])) (shown-space used) ∙ ap (λ l. 32 ∷ l) (append-nil (unit_or_filler n (used + 1) u))
      pick false = refl

  put_used-spaced : (used : ℕ) (u : TextUnit) → put_used n used (record { before = space ∷ []; unit = u })
      ≡ word_at n used (needed n u) + u.width
  put_used-spaced used u = pick (goes_on n used (needed n u))
    where
      pick : (b : Bool) → cond b (used + (1 + u.width)) u.width ≡ cond b (used + 1) 0 + u.width
      pick true = omega arith
      pick false = omega arith

  word_at-fits : (used : ℕ) (u : TextUnit) → word_at n used (needed n u) + needed n u ≤ n
  word_at-fits used u = pick (goes_on n used (needed n u)) refl
    where
      pick : (b : Bool) → goes_on n used (needed n u) ≡ b → cond b (used + 1) 0 + needed n u ≤ n
      pick true goes = let l = leb-true (used + (1 + needed n u)) n goes in omega arith
      pick false breaks = let l = needed-le-line n u pos in omega arith

  walk-next : (used : ℕ) (us : List TextUnit) (rest : List SpacedUnit) → 0 < length us
      → put_all n used (spaced_word (space ∷ []) us ++ rest) ≡ next_word n used us ++ put_all n (next_used n used us) rest
  walk-next used [] rest some = absurd (omega arith)
  walk-next used (u ∷ us) rest some =
      let k = word_at n used (needed n u) in
      let lead = word_lead n used (needed n u) in
      let spaced : SpacedUnit = record { before = space ∷ []; unit = u } in
      let more = spaced_word [] us ++ rest in
      ap (λ l. l ++ put_all n (put_used n used spaced) more) (put-spaced used u)
      ∙ ap (λ j. (lead ++ unit_or_filler n k u) ++ put_all n j more) (put_used-spaced used u)
      ∙ append_assoc lead (unit_or_filler n k u) (put_all n (k + u.width) more)
      ∙ ap (λ l. lead ++ l) (fitting_word k u us rest (word_at-fits used u))
      ∙ sym (append_assoc lead (append_all n k (u ∷ us)) (put_all n (used_after n k (u ∷ us)) rest))

  walk-further : (words : List (List ℕ)) (used : ℕ) → put_all n used (further_units n words) ≡ next_words n used words
  walk-further [] used = refl
  walk-further (w ∷ ws) used =
      walk-next used (word_units n w) (further_units n ws) (word_units-some n w)
      ∙ ap (λ l. next_word n used (word_units n w) ++ l) (walk-further ws (next_used n used (word_units n w)))

  -- the text of the walk from the first unit of a line on
  abbrev walked : List SpacedUnit → List ℕ
  walked [] = []
  walked (u ∷ us) = unit_or_filler n 0 u.unit ++ put_all n u.unit.width us

  walk-first : (us : List TextUnit) (words : List (List ℕ)) → 0 < length us → walked (spaced_word [] us ++ further_units n words)
      ≡ append_all n 0 us ++ next_words n (used_after n 0 us) words
  walk-first [] words some = absurd (omega arith)
  walk-first (u ∷ us) words some =
      let e : u.width ≡ 0 + u.width = omega arith in
      ap (λ k. unit_or_filler n 0 u ++ put_all n k (spaced_word [] us ++ further_units n words)) e
      ∙ fitting_word 0 u us (further_units n words) (let l = needed-le-line n u pos in omega arith)
      ∙ ap (λ l. append_all n 0 (u ∷ us) ++ l) (walk-further words (used_after n 0 (u ∷ us)))

  walk-line : (words : List (List ℕ)) → walked (spaced_units n words) ≡ line_of_words n words
  walk-line [] = refl
  walk-line (w ∷ ws) = walk-first (word_units n w) ws (word_units-some n w)

-- what the words of a line write is the text of its fullest breaking
pub record WrittenWords (n : ℕ) (line : List ℕ) : Type 0 where
  pub groups : List (List SpacedUnit)
  pub fullest : IsFullOfWords n line groups
  pub text : line_of_words n (words_of line) ≡ text_of_groups n (map on_line groups)

pub written_words : (n : ℕ) (line : List ℕ) → 0 < n → WrittenWords n line
written_words n line pos =
    let b = begins-bare n line in
    let first : SpacedUnit = record { before = []; unit = b.first } in
    let f = filled n pos first [] b.more (first-fits n pos first) in
    let groups : List (List SpacedUnit) = (first ∷ f.more) ∷ f.others in
    let same : first ∷ (f.more ++ flat_map (λ g. g) f.others) ≡ first ∷ b.more = ap (λ l. first ∷ l) f.whole in
    let width : columns_on first [] ≡ b.first.width = omega (arith, sum_by-cons own_width b.first []) in
    let text : text_of_groups n (map on_line groups) ≡ unit_or_filler n 0 b.first ++ put_all n b.first.width b.more =
    f.text ∙ ap (λ l. l ++ put_all n (columns_on first []) b.more) (append-nil (unit_or_filler n 0 b.first))
    ∙ ap (λ k. unit_or_filler n 0 b.first ++ put_all n k b.more) width in
    record {
      groups = groups;
      fullest = record {
        whole = same ∙ sym b.is;
        some = All-cons (λ (g : List SpacedUnit). 0 < length g) (first ∷ f.more) f.others (omega arith) f.some;
        fullest = f.fullest;
      };
      text = sym (text ∙ ap (walked n pos) (sym b.is) ∙ walk-line n pos (words_of line));
    }

-- ---- all lines

pub full_lines : (n : ℕ) (pos : 0 < n) (lines : List (List ℕ)) → AllZip (λ line groups. IsFullOfWords n line groups) lines
    (map (λ line. (written_words n line pos).groups) lines)
full_lines n pos [] = tt
full_lines n pos (line ∷ lines) = ((written_words n line pos).fullest, full_lines n pos lines)

pub text_of_full_lines : (n : ℕ) (pos : 0 < n) (lines : List (List ℕ)) → pending_words n false lines
    ≡ text_of_lines n (map (map on_line) (map (λ line. (written_words n line pos).groups) lines))
text_of_full_lines n pos [] = refl
text_of_full_lines n pos (line ∷ []) = append-nil (line_of_words n (words_of line)) ∙ (written_words n line pos).text
text_of_full_lines n pos (line ∷ next ∷ lines) =
    let w = written_words n line pos in
    ap (λ l. l ++ pending_words n true (next ∷ lines)) w.text
    ∙ ap (λ l. text_of_groups n (map on_line w.groups) ++ (10 ∷ l)) (text_of_full_lines n pos (next ∷ lines))

pub wrapped-some : (n : ℕ) (text out : List ℕ) → (n ≡ 0 → ⊥) → IsUtf8 out → IsWordWrappedText n (chars text) (chars out) → IsWordWrapped n text out
wrapped-some n text out ne u t = record {
  utf8 = u;
  wrapped = subst (λ b. MatchBool b (out ≡ []) (IsWordWrappedText n (chars text) (chars out))) (sym (ne_eqb n 0 ne)) t;
}

-- what is written is the wrapped text
pub IsWordWrapped-written : (n : ℕ) (text out : List ℕ) → (n ≡ 0 → ⊥) → IsUtf8 out
    → out ≡ encode_utf8_all (pending_words n false (lines_of (chars text))) → IsWordWrapped n text out
IsWordWrapped-written n text out ne u e =
    let pos : 0 < n = omega arith in
    let lines = lines_of (chars text) in
    wrapped-some n text out ne u (record {
      broken = map (λ line. (written_words n line pos).groups) lines;
      fullest = full_lines n pos lines;
      answered = sym (chars_from_encodes (pending_words n false lines) out u (sym e)) ∙ text_of_full_lines n pos lines;
    })

pub IsWordWrapped-none : (n : ℕ) (text out : List ℕ) → n ≡ 0 → out ≡ [] → IsWordWrapped n text out
IsWordWrapped-none n text out z e = record {
  utf8 = subst IsUtf8 (sym e) IsUtf8-nil;
  wrapped = subst (λ b. MatchBool b (out ≡ []) (IsWordWrappedText n (chars text) (chars out))) (sym (eq-eqb n 0 z)) e;
}

pub word_wrapped-cases : (n : ℕ) (text answer : List ℕ) → IsWordWrapped n text answer
    → ((n ≡ 0) × (answer ≡ [])) ⊎ ((0 < n) × IsWordWrappedText n (chars text) (chars answer))
word_wrapped-cases n text answer w = by_test (n == 0) refl w.wrapped
  where
    by_test : (b : Bool) → (n == 0) ≡ b → MatchBool b (answer ≡ []) (IsWordWrappedText n (chars text) (chars answer))
        → ((n ≡ 0) × (answer ≡ [])) ⊎ ((0 < n) × IsWordWrappedText n (chars text) (chars answer))
    by_test true z h = inl (eqb-true n 0 z, h)
    by_test false z h = inr ((let ne = eqb-false n 0 z in omega arith), h)

pub word_wrapped_text : (n : ℕ) (text answer : List ℕ) → 0 < n → IsWordWrapped n text answer → IsWordWrappedText n (chars text) (chars answer)
word_wrapped_text n text answer pos w =
    ⊎_elim (λ none. let zero = none.0 in absurd (omega arith)) (λ full. full.1) (word_wrapped-cases n text answer w)

-- ---- bytes

pub encodes-next : (front back : List ℕ) → encode_utf8_all front ++ encode_utf8_all back ≡ encode_utf8_all (front ++ back)
encodes-next front back = sym (encodes-append front back)

encodes-lead : (b : Bool) → encode_utf8_all (cond b (32 ∷ []) (10 ∷ [])) ≡ cond b (32 ∷ []) (10 ∷ [])
encodes-lead true = ap (λ l. l ++ []) (encode_ascii 32 (lit< tt))
encodes-lead false = ap (λ l. l ++ []) (encode_ascii 10 (lit< tt))

pub encodes-word_lead : (n used needed : ℕ) (back : List ℕ) → word_lead n used needed ++ encode_utf8_all back
    ≡ encode_utf8_all (word_lead n used needed ++ back)
encodes-word_lead n used needed back =
    ap (λ l. l ++ encode_utf8_all back) (sym (encodes-lead (goes_on n used needed))) ∙ encodes-next (word_lead n used needed) back

pub encodes-pending_words : (n : ℕ) (begun : Bool) (line : List ℕ) (lines : List (List ℕ))
    → cond begun (10 ∷ []) [] ++ (encode_utf8_all (line_of_words n (words_of line)) ++ encode_utf8_all (pending_words n true lines))
    ≡ encode_utf8_all (pending_words n begun (line ∷ lines))
encodes-pending_words n begun line lines =
    let feed = cond begun (10 ∷ []) [] in
    let text = line_of_words n (words_of line) in
    let rest = pending_words n true lines in
    ap (λ l. feed ++ l) (encodes-next text rest) ∙ ap (λ l. l ++ encode_utf8_all (text ++ rest)) (sym (encodes-feed begun))
    ∙ encodes-next feed (text ++ rest)
