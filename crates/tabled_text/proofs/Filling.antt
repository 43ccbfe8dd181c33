-- The walk that adds unit to unit, as a function: it gives the fullest breaking. And the bytes that one more unit adds.
use Rattle.tabled_text.proofs.Names.{All, All-cons, All-head, All-nil, All-tail, AllZip, AreFullest, Bool, Fits, IsFullest, IsFullestText}
use Rattle.tabled_text.proofs.Names.{IsGrouping, IsUtf8, IsUtf8-nil, IsWrapped, List, MatchBool, TextUnit, [], ap, append-nil, append_all}
use Rattle.tabled_text.proofs.Names.{append_assoc, append_text, append_used, arith, begin_text, char_count, chars-nil}
use Rattle.tabled_text.proofs.Names.{chars_from_encodes, columns_of, cond, encode_ascii, encode_utf8, encode_utf8_all, encodes-append}
use Rattle.tabled_text.proofs.Names.{encodes-chars, eq-eqb, eqb-false, eqb-true, false, flat_map, inl, inr, le-leb, leb-false, leb-true}
use Rattle.tabled_text.proofs.Names.{length, length-append, lines_of, lit<, lt-leb, map, nat_le, nat_tests, ne_eqb, needed, nil_from_length}
use Rattle.tabled_text.proofs.Names.{pending, refl, replicate, unit_or_filler, space, subst, sum_by-cons, sum_by_push, sym, text_from}
use Rattle.tabled_text.proofs.Names.{text_of_groups, text_of_lines, true, unit_of_char, units, units_of_word, units_of_words, used_after}
use Rattle.tabled_text.proofs.Names.{width_of, words_of, ℕ, ⊎_elim, ◌++◌, ◌+◌, ◌-◌, ◌<◌, ◌==◌, ◌∙◌, ◌∷◌, ◌≡◌, ◌≤◌, ◌⊎◌}
use Rattle.std.proofs.lemmas.List.{replicate_more}
use Rattle.tabled_text.specs.Walk.{begin_at}
use Rattle.std.specs.Str.{chars}
use Rattle.tabled_text.proofs.Basics.{cond-cases}
use Rattle.tabled_text.proofs.Bridge.{begins-split}

pub append_all-append : (n used : ℕ) (xs ys : List TextUnit)
    → append_all n used (xs ++ ys) ≡ append_all n used xs ++ append_all n (used_after n used xs) ys
append_all-append n used [] ys = refl
append_all-append n used (x ∷ xs) ys = ap (λ l. append_text n used x ++ l) (append_all-append n (append_used n used x) xs ys) ∙
    sym (append_assoc (append_text n used x) (append_all n (append_used n used x) xs) (append_all n (used_after n (append_used n used x) xs) ys))

-- the groups that the walk makes, where current is the group that it fills
abbrev groups_from : ℕ → List TextUnit → List TextUnit → List (List TextUnit)
groups_from n current [] = current ∷ []
groups_from n current (p ∷ pieces) =
    cond (nat_le (width_of current + needed n p) n) (groups_from n (current ++ p ∷ []) pieces) (current ∷ groups_from n (p ∷ []) pieces)

-- the first group goes on from current
record Begins (n : ℕ) (current : List TextUnit) (groups : List (List TextUnit)) : Type 0 where
  more : List TextUnit
  others : List (List TextUnit)
  is : groups ≡ (current ++ more) ∷ others

Begins-groups : (n : ℕ) (current pieces : List TextUnit) → Begins n current (groups_from n current pieces)
Begins-groups n current [] = record { more = []; others = []; is = ap (λ l. l ∷ []) (sym (append-nil current)) }
Begins-groups n current (p ∷ pieces) =
    let on = Begins-groups n (current ++ p ∷ []) pieces in
    let next = groups_from n (p ∷ []) pieces in
    cond-cases (Begins n current) (nat_le (width_of current + needed n p) n) (groups_from n (current ++ p ∷ []) pieces) (current ∷ next)
    (λ _. record {
      more = p ∷ on.more;
      others = on.others;
      is = on.is ∙ ap (λ l. l ∷ on.others) (append_assoc current (p ∷ []) on.more);
    })
    (λ _. record { more = []; others = next; is = ap (λ l. l ∷ next) (sym (append-nil current)) })

-- ---- its text
text_from-push : (n used : ℕ) (g : List TextUnit) (p : TextUnit) → text_from n used (g ++ p ∷ [])
    ≡ text_from n used g ++ unit_or_filler n (used + width_of g) p
text_from-push n used [] p = append-nil (unit_or_filler n used p) ∙ ap (λ k. unit_or_filler n k p) (let e : used ≡ used + 0 = omega arith in e)
text_from-push n used (q ∷ g) p =
    ap (λ l. unit_or_filler n used q ++ l) (text_from-push n (used + q.width) g p) ∙ sym
    (append_assoc (unit_or_filler n used q) (text_from n (used + q.width) g) (unit_or_filler n (used + q.width + width_of g) p))
    ∙ ap (λ k. (unit_or_filler n used q ++ text_from n (used + q.width) g) ++ unit_or_filler n k p)
    (let e : used + q.width + width_of g ≡ used + width_of (q ∷ g) = omega (arith, sum_by-cons (λ (r : TextUnit). r.width) q g) in e)

join-cons : (n : ℕ) (g : List TextUnit) (groups : List (List TextUnit)) (current : List TextUnit)
    → Begins n current groups → text_of_groups n (g ∷ groups) ≡ text_from n 0 g ++ (10 ∷ text_of_groups n groups)
join-cons n g groups current b = subst (λ G. text_of_groups n (g ∷ G) ≡ text_from n 0 g ++ (10 ∷ text_of_groups n G)) (sym b.is) refl

pub append_text-fits : (n used : ℕ) (p : TextUnit) → nat_le (used + needed n p) n ≡ true
    → (append_text n used p ≡ unit_or_filler n used p) × (append_used n used p ≡ used + p.width)
append_text-fits n used p h = (ap (λ b. cond b [] (10 ∷ []) ++ unit_or_filler n (cond b used 0) p) h, ap (λ b. cond b used 0 + p.width) h)

pub append_text-breaks : (n used : ℕ) (p : TextUnit) → nat_le (used + needed n p) n ≡ false
    → (append_text n used p ≡ 10 ∷ unit_or_filler n 0 p) × (append_used n used p ≡ p.width)
append_text-breaks n used p h = (
  ap (λ b. cond b [] (10 ∷ []) ++ unit_or_filler n (cond b used 0) p) h,
  ap
      (λ b. cond b used 0 + p.width) h ∙ (let e : 0 + p.width ≡ p.width = omega arith in e),
)

text_of_groups-from : (n : ℕ) (current pieces : List TextUnit) → text_of_groups n (groups_from n current pieces)
    ≡ text_from n 0 current ++ append_all n (width_of current) pieces
text_of_groups-from n current [] = sym (append-nil (text_from n 0 current))
text_of_groups-from n current (p ∷ pieces) =
    let whole = current ++ p ∷ [] in
    let next = groups_from n (p ∷ []) pieces in
    cond-cases (λ G. text_of_groups n G ≡ text_from n 0 current ++ append_all n (width_of current) (p ∷ pieces))
    (nat_le (width_of current + needed n p) n) (groups_from n whole pieces) (current ∷ next)
    (λ yes.
    let put = append_text-fits n (width_of current) p yes in
    let e : 0 + width_of current ≡ width_of current = omega arith in
    text_of_groups-from n whole pieces
    ∙ ap (λ l. l ++ append_all n (width_of whole) pieces) (text_from-push n 0 current p ∙ ap (λ k. text_from n 0 current ++ unit_or_filler n k p) e)
    ∙ append_assoc (text_from n 0 current) (unit_or_filler n (width_of current) p) (append_all n (width_of whole) pieces)
    ∙ ap (λ l. text_from n 0 current ++ l) (ap (λ l. l ++ append_all n (width_of whole) pieces) (sym put.0)
    ∙ ap (λ k. append_text n (width_of current) p ++ append_all n k pieces) (sum_by_push (λ (r : TextUnit). r.width) current p ∙ sym put.1)))
    (λ no.
    let put = append_text-breaks n (width_of current) p no in
    let one = sum_by-cons (λ (r : TextUnit). r.width) p [] in
    let e : width_of (p ∷ []) ≡ append_used n (width_of current) p = omega (arith, one, put.1) in
    join-cons n current next (p ∷ []) (Begins-groups n (p ∷ []) pieces)
    ∙ ap (λ l. text_from n 0 current ++ (10 ∷ l)) (text_of_groups-from n (p ∷ []) pieces
    ∙ ap (λ l. l ++ append_all n (width_of (p ∷ [])) pieces) (append-nil (unit_or_filler n 0 p)))
    ∙ ap (λ l. text_from n 0 current ++ (l ++ append_all n (width_of (p ∷ [])) pieces)) (sym put.0)
    ∙ ap (λ k. text_from n 0 current ++ (append_text n (width_of current) p ++ append_all n k pieces)) e)

-- ---- its groups
flat-from : (n : ℕ) (current pieces : List TextUnit) → flat_map (λ g. g) (groups_from n current pieces) ≡ current ++ pieces
flat-from n current [] = refl
flat-from n current (p ∷ pieces) =
    cond-cases (λ G. flat_map (λ g. g) G ≡ current ++ p ∷ pieces) (nat_le (width_of current + needed n p) n)
    (groups_from n (current ++ p ∷ []) pieces) (current ∷ groups_from n (p ∷ []) pieces)
    (λ _. flat-from n (current ++ p ∷ []) pieces ∙ append_assoc current (p ∷ []) pieces)
    (λ _. ap (λ l. current ++ l) (flat-from n (p ∷ []) pieces))

some-from : (n : ℕ) (current pieces : List TextUnit) → 0 < length current → All (λ g. 0 < length g) (groups_from n current pieces)
some-from n current [] h = All-cons (λ g. 0 < length g) current [] h (All-nil (λ g. 0 < length g))
some-from n current (p ∷ pieces) h =
    cond-cases (All (λ g. 0 < length g)) (nat_le (width_of current + needed n p) n)
    (groups_from n (current ++ p ∷ []) pieces) (current ∷ groups_from n (p ∷ []) pieces)
    (λ _. some-from n (current ++ p ∷ []) pieces (omega (arith, length-append current (p ∷ []))))
    (λ _. All-cons (λ g. 0 < length g) current (groups_from n (p ∷ []) pieces) h (some-from n (p ∷ []) pieces (omega arith)))

pub needed-le-line : (n : ℕ) (p : TextUnit) → 0 < n → needed n p ≤ n
needed-le-line n p h = grind (arith, nat_tests)

Fits-push : (n used : ℕ) (g : List TextUnit) (p : TextUnit) → Fits n used g → used + width_of g + needed n p ≤ n → Fits n used (g ++ p ∷ [])
Fits-push n used [] p f h = (omega arith, tt)
Fits-push n used (q ∷ g) p f h = (f.0, Fits-push n (used + q.width) g p f.1 (omega (arith, sum_by-cons (λ (r : TextUnit). r.width) q g)))

IsFull-begins : (n : ℕ) (current : List TextUnit) (p : TextUnit) (groups : List (List TextUnit)) → Begins n (p ∷ []) groups
    → Fits n 0 current → n < width_of current + needed n p → AreFullest n groups → AreFullest n (current ∷ groups)
IsFull-begins n current p groups b f h a = subst (λ G. AreFullest n G → AreFullest n (current ∷ G)) (sym b.is) (λ a. (f, h, a)) a

fullest-from : (n : ℕ) (current pieces : List TextUnit) → 0 < n → Fits n 0 current → AreFullest n (groups_from n current pieces)
fullest-from n current [] pos f = f
fullest-from n current (p ∷ pieces) pos f =
    let next = groups_from n (p ∷ []) pieces in
    cond-cases (AreFullest n) (nat_le (width_of current + needed n p) n) (groups_from n (current ++ p ∷ []) pieces) (current ∷ next)
    (λ yes.
    let l = leb-true (width_of current + needed n p) n yes in
    fullest-from n (current ++ p ∷ []) pieces pos (Fits-push n 0 current p f (omega arith)))
    (λ no.
    let l = needed-le-line n p pos in
    IsFull-begins n current p next (Begins-groups n (p ∷ []) pieces) f (leb-false (width_of current + needed n p) n no)
    (fullest-from n (p ∷ []) pieces pos (omega arith, tt)))

-- the first unit goes into the first group
first-from : (n : ℕ) (p : TextUnit) (pieces : List TextUnit) → 0 < n → groups_from n [] (p ∷ pieces) ≡ groups_from n (p ∷ []) pieces
first-from n p pieces pos = ap (λ b. cond b (groups_from n (p ∷ []) pieces) ([] ∷ groups_from n (p ∷ []) pieces))
    (le-leb (0 + needed n p) n (let l = needed-le-line n p pos in omega arith))

groups_are : (n : ℕ) (pieces : List TextUnit) → 0 < n → IsGrouping pieces (groups_from n [] pieces)
groups_are n [] pos = record { whole = refl; some = λ h. absurd (omega arith); none = λ _. refl }
groups_are n (p ∷ pieces) pos = record {
  whole = flat-from n [] (p ∷ pieces);
  some = λ _. subst (All (λ g. 0 < length g)) (sym (first-from n p pieces pos)) (some-from n (p ∷ []) pieces (omega arith));
  none = λ h. absurd (omega arith);
}

-- what the walk writes is the text of the fullest breaking
pub record WrittenFullest (n : ℕ) (pieces : List TextUnit) : Type 0 where
  pub groups : List (List TextUnit)
  pub fullest : IsFullest n pieces groups
  pub text : append_all n 0 pieces ≡ text_of_groups n groups

pub written_fullest : (n : ℕ) (pieces : List TextUnit) → 0 < n → WrittenFullest n pieces
written_fullest n pieces pos = record {
  groups = groups_from n [] pieces;
  fullest = record { grouping = groups_are n pieces pos; fullest = fullest-from n [] pieces pos tt };
  text = sym (text_of_groups-from n [] pieces);
}

-- ---- the fullest breaking is the only one: its text is what the walk writes
pub append_all-fits : (n used : ℕ) (g rest : List TextUnit) → Fits n used g → append_all n used (g ++ rest)
    ≡ text_from n used g ++ append_all n (used + width_of g) rest
append_all-fits n used [] rest f = ap (λ k. append_all n k rest) (let e : used ≡ used + 0 = omega arith in e)
append_all-fits n used (p ∷ g) rest f =
    let put = append_text-fits n used p (le-leb (used + needed n p) n f.0) in
    ap (λ l. l ++ append_all n (append_used n used p) (g ++ rest)) put.0
    ∙ ap (λ k. unit_or_filler n used p ++ append_all n k (g ++ rest)) put.1
    ∙ ap (λ l. unit_or_filler n used p ++ l) (append_all-fits n (used + p.width) g rest f.1)
    ∙ sym (append_assoc (unit_or_filler n used p) (text_from n (used + p.width) g) (append_all n (used + p.width + width_of g) rest))
    ∙ ap (λ k. (unit_or_filler n used p ++ text_from n (used + p.width) g) ++ append_all n k rest)
    (let e : used + p.width + width_of g ≡ used + width_of (p ∷ g) = omega (arith, sum_by-cons (λ (r : TextUnit). r.width) p g) in e)

-- a unit that does not fit begins a new line
pub append_all-breaks : (n used : ℕ) (p : TextUnit) (pieces : List TextUnit) → 0 < n → n < used + needed n p
    → append_all n used (p ∷ pieces) ≡ 10 ∷ append_all n 0 (p ∷ pieces)
append_all-breaks n used p pieces pos h =
    let breaks = append_text-breaks n used p (lt-leb (used + needed n p) n h) in
    let fits = append_text-fits n 0 p (le-leb (0 + needed n p) n (let l = needed-le-line n p pos in omega arith)) in
    let same : append_used n used p ≡ append_used n 0 p = breaks.1 ∙ sym (fits.1 ∙ (let e : 0 + p.width ≡ p.width = omega arith in e)) in
    ap (λ l. l ++ append_all n (append_used n used p) pieces) (breaks.0 ∙ ap (λ l. 10 ∷ l) (sym fits.0)) ∙ ap
    (λ k. 10 ∷ (append_text n 0 p ++ append_all n k pieces)) same

pub text_of_groups-fullest : (n : ℕ) → 0 < n → (F : List (List TextUnit)) → AreFullest n F → All (λ g. 0 < length g) F
    → text_of_groups n F ≡ append_all n 0 (flat_map (λ g. g) F)
text_of_groups-fullest n pos [] full some = refl
text_of_groups-fullest n pos (g ∷ []) full some =
    sym (append_all-fits n 0 g [] full ∙ append-nil (text_from n 0 g))
text_of_groups-fullest n pos (g ∷ [] ∷ F) full some = let h = All-head
    (λ g. 0 < length g) [] F (All-tail (λ g. 0 < length g) g ([] ∷ F) some) in absurd (omega arith)
text_of_groups-fullest n pos (g ∷ (p ∷ h) ∷ F) full some =
    let rest = h ++ flat_map (λ g. g) F in
    ap (λ l. text_from n 0 g ++ (10 ∷ l)) (text_of_groups-fullest n pos ((p ∷ h) ∷ F) full.2 (All-tail (λ g. 0 < length g) g ((p ∷ h) ∷ F) some))
    ∙ ap (λ l. text_from n 0 g ++ l) (sym (append_all-breaks n (0 + width_of g) p rest pos (let f = full.1 in omega arith)))
    ∙ sym (append_all-fits n 0 g ((p ∷ h) ++ flat_map (λ g. g) F) full.0)

one_group : (n : ℕ) (F : List (List TextUnit)) → length F ≡ 1 → flat_map (λ g. g) F ≡ [] → text_of_groups n F ≡ []
one_group n [] e f = absurd (omega arith)
one_group n ([] ∷ []) e f = refl
one_group n ((p ∷ g) ∷ F) e f = cc
one_group n (g ∷ h ∷ F) e f = absurd (omega arith)

pub text_is : (n : ℕ) → 0 < n → (pieces : List TextUnit) (F : List (List TextUnit)) → IsFullest n pieces F
    → text_of_groups n F ≡ append_all n 0 pieces
text_is n pos [] F f = one_group n F (f.grouping.none refl) f.grouping.whole
text_is n pos (p ∷ pieces) F f = text_of_groups-fullest n pos F f.fullest (f.grouping.some (omega arith)) ∙ ap (append_all n 0) f.grouping.whole

-- ---- the bytes that one more unit adds

encodes-begin_text : (b : Bool) → encode_utf8_all (cond b [] (10 ∷ [])) ≡ cond b [] (10 ∷ [])
encodes-begin_text true = refl
encodes-begin_text false = ap (λ l. l ++ []) (encode_ascii 10 (lit< tt))

abbrev pub unit_of : List ℕ → ℕ → TextUnit
unit_of text width = record { text = text; width = width }

pub put_word_bytes : (n used width : ℕ) (b₀ b₁ b₂ word : List ℕ) → width ≤ n → IsUtf8 word → b₁ ≡ b₀ ++ begin_text n used width
    → b₂ ≡ b₁ ++ word → b₂ ≡ b₀ ++ encode_utf8_all (append_text n used (unit_of (chars word) width))
put_word_bytes n used width b₀ b₁ b₂ word le u e f =
    let fits = le-leb width n le in
    let whole : append_text n used (unit_of (chars word) width) ≡ begin_text n used width ++ chars word =
    ap (λ b. begin_text n used (cond b width 1) ++ cond b (chars word) (replicate (n - begin_at n used (cond b width 1)) 0xFFFD)) fits in
    f ∙ ap (λ l. l ++ word) e ∙ append_assoc b₀ (begin_text n used width) word
    ∙ ap (λ l. b₀ ++ l) (ap (λ l. begin_text n used width ++ l) (sym (encodes-chars word u)) ∙ ap
    (λ l. l ++ encode_utf8_all (chars word)) (sym (encodes-begin_text (nat_le (used + width) n)))
    ∙ sym (encodes-append (begin_text n used width) (chars word)) ∙ ap encode_utf8_all (sym whole))

-- a word without a byte
pub units_of_word-empty : (n : ℕ) (word : List ℕ) (b : Bool) → b ≡ (length word == 0) → b ≡ true → units_of_word n (chars word) ≡ []
units_of_word-empty n word b e h =
    ap (λ l. units_of_word n (chars l)) (nil_from_length word (eqb-true (length word) 0 (sym e ∙ h))) ∙ ap (units_of_word n) chars-nil

pub short : (n : ℕ) (cs : List ℕ) → (cs ≡ [] → ⊥) → columns_of cs ≤ n → units_of_word n cs ≡ unit_of cs (columns_of cs) ∷ []
short n [] ne le = absurd (ne refl)
short n (c ∷ cs) ne le = ap (λ b. cond b (unit_of (c ∷ cs) (columns_of (c ∷ cs)) ∷ []) (map unit_of_char (c ∷ cs)))
    (le-leb (columns_of (c ∷ cs)) n le)

pub not_empty : (word : List ℕ) → IsUtf8 word → (length word ≡ 0 → ⊥) → chars word ≡ [] → ⊥
not_empty word u ne e = ne (ap length (sym (encodes-chars word u) ∙ ap encode_utf8_all e))

pub units_of_word-short : (n : ℕ) (word : List ℕ) (width : ℕ) (b : Bool) → IsUtf8 word → b ≡ (length word == 0) → b
    ≡ false → width ≡ columns_of (chars word) → width ≤ n → units_of_word n (chars word) ≡ unit_of (chars word) width ∷ []
units_of_word-short n word width b u e h w le =
    short n (chars word) (not_empty word u (λ z. eqb-false (length word) 0 (sym e ∙ h) z)) (subst (λ k. k ≤ n) w le) ∙
    ap (λ k. unit_of (chars word) k ∷ []) (sym w)

-- a word, a space and what follows
pub units_of_words-more : (n : ℕ) (word cs : List ℕ) → units_of_words n (word ∷ words_of cs)
    ≡ units_of_word n word ++ space ∷ units_of_words n (words_of cs)
units_of_words-more n word cs =
    subst (λ ws. units_of_words n (word ∷ ws) ≡ units_of_word n word ++ space ∷ units_of_words n ws)
    (sym (begins-split (λ c. c == 32) cs).parts) refl

pub space-is : unit_of (chars (32 ∷ [])) 1 ≡ space
unfolding chars
space-is = refl

-- ---- lines
pub encodes-feed : (b : Bool) → encode_utf8_all (cond b (10 ∷ []) []) ≡ cond b (10 ∷ []) []
encodes-feed true = ap (λ l. l ++ []) (encode_ascii 10 (lit< tt))
encodes-feed false = refl

broken : (n : ℕ) → 0 < n → Bool → List (List ℕ) → List (List (List TextUnit))
broken n pos words lines = map (λ line. (written_fullest n (units n words line) pos).groups) lines

pub AllZip-broken : (n : ℕ) (pos : 0 < n) (words : Bool) (lines : List (List ℕ)) → AllZip
    (λ line groups. IsFullest n (units n words line) groups) lines (map (λ line. (written_fullest n (units n words line) pos).groups) lines)
AllZip-broken n pos words [] = tt
AllZip-broken n pos words (line ∷ lines) = ((written_fullest n (units n words line) pos).fullest, AllZip-broken n pos words lines)

pub text_of_lines-broken : (n : ℕ) (pos : 0 < n) (words : Bool) (lines : List (List ℕ)) → pending n words false lines
    ≡ text_of_lines n (map (λ line. (written_fullest n (units n words line) pos).groups) lines)
text_of_lines-broken n pos words [] = refl
text_of_lines-broken n pos words (line ∷ []) = append-nil (append_all n 0 (units n words line)) ∙ (written_fullest n (units n words line) pos).text
text_of_lines-broken n pos words (line ∷ next ∷ lines) =
    ap (λ l. l ++ pending n words true (next ∷ lines)) (written_fullest n (units n words line) pos).text
    ∙ ap (λ l. text_of_groups n (written_fullest n (units n words line) pos).groups ++ (10 ∷ l)) (text_of_lines-broken n pos words (next ∷ lines))

pub IsWrapped-written : (n : ℕ) (words : Bool) (text out : List ℕ) → (n ≡ 0 → ⊥) → IsUtf8 out → out
    ≡ encode_utf8_all (pending n words false (lines_of (chars text))) → IsWrapped n words text out
IsWrapped-written n words text out ne u e =
    let pos : 0 < n = omega arith in
    let cs = chars text in
    let answer : IsFullestText n words cs (chars out) = record {
      broken = map (λ line. (written_fullest n (units n words line) pos).groups) (lines_of cs);
      fullest = AllZip-broken n pos words (lines_of cs);
      answered = sym (chars_from_encodes (pending n words false (lines_of cs)) out u (sym e)) ∙ text_of_lines-broken n pos words (lines_of cs);
    } in
    record { utf8 = u; wrapped = subst (λ b. MatchBool b (out ≡ []) (IsFullestText n words cs (chars out))) (sym (ne_eqb n 0 ne)) answer }

pub IsWrapped-none : (n : ℕ) (words : Bool) (text out : List ℕ) → n ≡ 0 → out ≡ [] → IsWrapped n words text out
IsWrapped-none n words text out z e = record {
  utf8 = subst IsUtf8 (sym e) IsUtf8-nil;
  wrapped = subst (λ b. MatchBool b (out ≡ []) (IsFullestText n words (chars text) (chars out))) (sym (eq-eqb n 0 z)) e;
}

-- a wrapped text is empty for no columns, and else the text of the fullest breaking
pub wrapped-cases : (n : ℕ) (words : Bool) (text answer : List ℕ) → IsWrapped n words text answer
    → ((n ≡ 0) × (answer ≡ [])) ⊎ ((0 < n) × IsFullestText n words (chars text) (chars answer))
wrapped-cases n words text answer w = by_test (n == 0) refl w.wrapped
  where
    by_test : (b : Bool) → (n == 0) ≡ b → MatchBool b (answer ≡ []) (IsFullestText n words (chars text) (chars answer))
        → ((n ≡ 0) × (answer ≡ [])) ⊎ ((0 < n) × IsFullestText n words (chars text) (chars answer))
    by_test true z h = inl (eqb-true n 0 z, h)
    by_test false z h = inr ((let ne = eqb-false n 0 z in omega arith), h)

pub full_text : (n : ℕ) (words : Bool) (text answer : List ℕ) → 0 < n → IsWrapped n words text answer
    → IsFullestText n words (chars text) (chars answer)
full_text n words text answer pos w =
    ⊎_elim (λ none. let zero = none.0 in absurd (omega arith)) (λ full. full.1) (wrapped-cases n words text answer w)

-- ---- the same as equations of texts, for any sink
pub encodes-word : (n used width : ℕ) (word : List ℕ) → width ≤ n → IsUtf8 word → begin_text n used width ++ word
    ≡ encode_utf8_all (append_text n used (unit_of (chars word) width))
encodes-word n used width word le u = put_word_bytes n used width [] (begin_text n used width) (begin_text n used width ++ word) word le u refl refl

pub encodes-more : (n used : ℕ) (p : TextUnit) (pieces : List TextUnit)
    → encode_utf8_all (append_text n used p) ++ encode_utf8_all (append_all n (append_used n used p) pieces)
    ≡ encode_utf8_all (append_all n used (p ∷ pieces))
encodes-more n used p pieces = sym (encodes-append (append_text n used p) (append_all n (append_used n used p) pieces))

pub encodes-on : (n used : ℕ) (xs ys : List TextUnit)
    → encode_utf8_all (append_all n used xs) ++ encode_utf8_all (append_all n (used_after n used xs) ys)
    ≡ encode_utf8_all (append_all n used (xs ++ ys))
encodes-on n used xs ys = sym (encodes-append (append_all n used xs) (append_all n (used_after n used xs) ys)) ∙ ap
    encode_utf8_all (sym (append_all-append n used xs ys))

pub encodes-copies : (n c : ℕ) → encode_utf8_all (replicate n c) ++ encode_utf8 c ≡ encode_utf8_all (replicate (n + 1) c)
encodes-copies n c = ap (λ l. encode_utf8_all (replicate n c) ++ l) (sym (append-nil (encode_utf8 c))) ∙ sym
    (encodes-append (replicate n c) (c ∷ [])) ∙ ap encode_utf8_all (replicate_more n c)

encodes-begin : (n used k : ℕ) → encode_utf8_all (begin_text n used k) ≡ begin_text n used k
encodes-begin n used k = encodes-begin_text (nat_le (used + k) n)

append_text-narrow : (n used : ℕ) (p : TextUnit) → p.width ≤ n → append_text n used p ≡ begin_text n used p.width ++ p.text
append_text-narrow n used p le = ap (λ b. begin_text n used (cond b p.width 1) ++ cond b p.text
    (replicate (n - begin_at n used (cond b p.width 1)) 0xFFFD)) (le-leb p.width n le)

append_text-wide : (n used : ℕ) (p : TextUnit) → n < p.width
    → append_text n used p ≡ begin_text n used 1 ++ replicate (n - begin_at n used 1) 0xFFFD
append_text-wide n used p lt = ap (λ b. begin_text n used (cond b p.width 1) ++ cond b p.text
    (replicate (n - begin_at n used (cond b p.width 1)) 0xFFFD)) (lt-leb p.width n lt)

pub encodes-narrow : (n used c count : ℕ) → count ≡ char_count c → count ≤ n
    → begin_text n used count ++ encode_utf8 c ≡ encode_utf8_all (append_text n used (unit_of_char c))
encodes-narrow n used c count e le =
    let le' : char_count c ≤ n = subst (λ k. k ≤ n) e le in
    ap (λ k. begin_text n used k ++ encode_utf8 c) e
    ∙ sym (ap encode_utf8_all (append_text-narrow n used (unit_of_char c) le') ∙ encodes-append (begin_text n used (char_count c)) (c ∷ [])
    ∙ ap (λ l. l ++ encode_utf8_all (c ∷ [])) (encodes-begin n used (char_count c)) ∙ ap
    (λ l. begin_text n used (char_count c) ++ l) (append-nil (encode_utf8 c)))

pub encodes-wide : (n used c count column : ℕ) → count ≡ char_count c → n < count → column ≡ begin_at n used 1
    → begin_text n used 1 ++ encode_utf8_all (replicate (n - column) 0xFFFD) ≡ encode_utf8_all (append_text n used (unit_of_char c))
encodes-wide n used c count column e lt at =
    ap (λ k. begin_text n used 1 ++ encode_utf8_all (replicate (n - k) 0xFFFD)) at
    ∙ sym (ap encode_utf8_all (append_text-wide n used (unit_of_char c) (subst (λ k. n < k) e lt)) ∙ encodes-append
    (begin_text n used 1) (replicate (n - begin_at n used 1) 0xFFFD)
    ∙ ap (λ l. l ++ encode_utf8_all (replicate (n - begin_at n used 1) 0xFFFD)) (encodes-begin n used 1))

pub encodes-pending : (n : ℕ) (words begun : Bool) (line : List ℕ) (lines : List (List ℕ))
    → cond begun (10 ∷ []) [] ++ (encode_utf8_all (append_all n 0 (units n words line)) ++ encode_utf8_all (pending n words true lines))
    ≡ encode_utf8_all (pending n words begun (line ∷ lines))
encodes-pending n words begun line lines =
    let feed = cond begun (10 ∷ []) [] in
    let text = append_all n 0 (units n words line) in
    let rest = pending n words true lines in
    sym (encodes-append feed (text ++ rest) ∙ ap (λ l. l ++ encode_utf8_all (text ++ rest)) (encodes-feed begun) ∙ ap
    (λ l. feed ++ l) (encodes-append text rest))
