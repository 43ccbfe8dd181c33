-- Cells that are cut with a mark or without: they fit in their columns, and each text has one.
use Rattle.std.proofs.Common.{All, List, MatchBool, None, Option, Some, [], ap, append-nil, append_assoc, arith, chars, encode_utf8}
use Rattle.std.proofs.Common.{inl, inr, length, length-append, refl, replicate, subst, suc, sym, take, true, false, zero, ℕ, ◌++◌, ◌+◌, ◌-◌, ◌<◌}
use Rattle.std.proofs.Common.{◌∙◌, ◌∷◌, ◌≡◌, ◌≤◌, ◌⊎◌, nat_le, encode_utf8_all, Bool}
use Rattle.std.proofs.lemmas.Bool.{and_parts, cases_eq, leb-true}
use Rattle.std.proofs.lemmas.List.{length-take-le, take_all, take_at}
use Rattle.std.proofs.lemmas.List.Elements.{All-head, All-tail}
use Rattle.std.proofs.lemmas.Str.{IsUtf8-append, IsUtf8-encode, encodes-chars}
use Rattle.std.specs.Prelude.{IfNone, IfSome}
use Rattle.std.specs.Str.{IsCharBoundary, IsUtf8}
use lib.Utf8.{scalar}
use Rattle.tabled_set.proofs.ChangingCells.{match-both}
use Rattle.tabled_set.specs.Truncated.{IsEnded}
use Rattle.tabled_table.specs.Stream.Marked.{IsCutCell, IsMarked, StaysWhole, mark_fits}
use Rattle.tabled_text.proofs.CountBound.{columns-count, count-some}
use Rattle.tabled_text.proofs.CutLemmas.{All-last_line, IsReached-feed, IsReached-push, chars-push, count_of-push, last_line-push}
use Rattle.tabled_text.proofs.CutOnce.{cut-once, no_fill}
use Rattle.tabled_text.proofs.CutText.{IsCut-text}
use Rattle.tabled_text.proofs.ExactLines.{exact-kept, exact-longest}
use Rattle.tabled_text.proofs.FittingLaws.{fits-cut}
use Rattle.tabled_text.proofs.StayLemmas.{missing-le}
use Rattle.tabled_text.proofs.Within.{Within, text_columns-within}
use Rattle.tabled_text.specs.Cut.{IsCut, IsLongestReached, IsReached, NeedsFill, cut_text, last_line, missing_columns}
use Rattle.tabled_text.specs.Exact.{IsExactLine}
use Rattle.tabled_text.specs.Fitting.{FitsIn}
use Rattle.tabled_text.specs.Longest.{IsLongestCut}
use Rattle.tabled_text.specs.Measure.{char_columns, char_count, count_of, lines_of, text_columns}
unfoldable use Rattle.unicode_width.proofs.Computing.{unicode_width}

-- ---- reached beginnings with characters after them

fill-columns : char_columns 0xFFFD ≡ 1
unfolding unicode_width
fill-columns = refl

fill-count : char_count 0xFFFD ≡ 1
fill-count = let e = fill-columns in omega arith

reached-wider : (k n : ℕ) (cs : List ℕ) → k ≤ n → IsReached k cs → IsReached n cs
reached-wider k n cs le r = record {
  fits = λ i d h. let e = r.fits i d h in omega arith;
  shorter = λ i h. let e = r.shorter i h in omega arith;
}

-- with a character that fits
reached-more : (n : ℕ) (cs : List ℕ) (c : ℕ) → IsReached n cs → count_of (last_line cs) + char_count c ≤ n → IsReached n (cs ++ c ∷ [])
reached-more n cs c r le =
    let some = count-some c in
    elim (cases_eq c 10) [
      | inl feed ↦ subst (λ x. IsReached n (cs ++ x ∷ [])) (sym feed) (IsReached-feed n cs r (omega arith))
      | inr other ↦ IsReached-push n cs c other r (omega arith) le
    ]

-- with U+FFFD in columns that are left
record IsFilled (n : ℕ) (cs : List ℕ) (count : ℕ) : Type 0 where
  reached : IsReached n cs
  counts : count_of (last_line cs) ≡ count

reached-filled : (n k : ℕ) (cs : List ℕ) → IsReached n cs → count_of (last_line cs) + k ≤ n
    → IsFilled n (cs ++ replicate k 0xFFFD) (count_of (last_line cs) + k)
reached-filled n zero cs r le =
    subst (λ t. IsFilled n t (count_of (last_line cs) + 0)) (sym (append-nil cs)) (record { reached = r; counts = omega arith })
reached-filled n (suc k) cs r le =
    let more = cs ++ 0xFFFD ∷ [] in
    let one = fill-count in
    let last : count_of (last_line more) ≡ count_of (last_line cs) + char_count 0xFFFD =
    ap count_of (last_line-push cs 0xFFFD refl) ∙ count_of-push (last_line cs) 0xFFFD in
    let rest = reached-filled n k more (reached-more n cs 0xFFFD r (omega arith)) (omega arith) in
    let sum : count_of (last_line more) + k ≡ count_of (last_line cs) + suc k = omega arith in
    subst (λ t. IsFilled n t (count_of (last_line cs) + suc k)) (append_assoc cs (0xFFFD ∷ []) (replicate k 0xFFFD))
    (subst (IsFilled n (more ++ replicate k 0xFFFD)) sum rest)

-- ---- texts that stay whole

-- the longest reached beginning of a text isn't followed by U+FFFD that would fit
none-filled : (n : ℕ) (cs front rest : List ℕ) (m : ℕ) → IsLongestReached n cs front rest → cs ≡ front ++ replicate m 0xFFFD
    → count_of (last_line front) + m ≤ n → m ≡ 0
none-filled n cs front rest zero l e le = refl
none-filled n cs front rest (suc k) l e le =
    let fills : List ℕ = replicate k 0xFFFD in
    let more : List ℕ = front ++ 0xFFFD ∷ [] in
    let one = fill-count in
    let whole : cs ≡ more ++ fills = e ∙ sym (append_assoc front (0xFFFD ∷ []) fills) in
    let long : length more ≡ length front + 1 = length-append front (0xFFFD ∷ []) in
    let taken : take (length more) cs ≡ more = ap (take (length more)) whole ∙ take_at more fills (length more) refl in
    let reached : IsReached n more = reached-more n front 0xFFFD l.reached (omega arith) in
    let sizes : length cs ≡ length more + length fills = ap length whole ∙ length-append more fills in
    let past = l.longest (length more) (omega (arith, sizes)) (subst (IsReached n) (sym taken) reached) in
    absurd (omega arith)

-- nothing of it is filled
unfilled : (n : ℕ) (text : List ℕ) (c : StaysWhole n text) → missing_columns n c.front c.rest ≡ 0
unfilled n text c =
    let low = All-last_line (λ l. count_of l ≤ n) c.front c.longest.reached.fits in
    let left = missing-le n c.front c.rest in
    none-filled n (chars text) c.front c.rest (missing_columns n c.front c.rest) c.longest c.characters (omega arith)

pub whole-unfilled : (n : ℕ) (text : List ℕ) → StaysWhole n text → NeedsFill n text → ⊥
whole-unfilled n text c needs =
    no_fill {n = n} {text = text} {front = c.front}
    (record { rest = c.rest; longest = c.longest; columns = sym (unfilled n text c); dropped = refl }) needs

-- its cut has its length in bytes
pub whole-length : (n : ℕ) (text : List ℕ) (r : Option ℕ) → IfSome r (λ k. IsCut n text (take k text)) → IfSome r (λ k. IsCharBoundary text k)
    → IfNone r (NeedsFill n text) → StaysWhole n text → r ≡ Some (length text)
whole-length n text None cut boundary needs whole = absurd (whole-unfilled n text whole needs)
whole-length n text (Some k) cut boundary needs whole =
    ap Some (sym (length-take-le k text boundary.0) ∙ ap length (cut-once cut whole))

-- all of it is reached
whole-reached : (n : ℕ) (text : List ℕ) → StaysWhole n text → IsReached n (chars text)
whole-reached n text c =
    let same : chars text ≡ c.front = c.characters ∙ ap (λ m. c.front ++ replicate m 0xFFFD) (unfilled n text c) ∙ append-nil c.front in
    subst (IsReached n) (sym same) c.longest.reached

decided : (n : ℕ) (text answer front rest : List ℕ) → IsUtf8 text → IsCut n text answer → IsLongestReached n (chars text) front rest
    → chars answer ≡ front ++ replicate (missing_columns n front rest) 0xFFFD → StaysWhole n text ⊎ (StaysWhole n text → ⊥)
decided n text answer front [] u c l e =
    let same : answer ≡ text =
    sym (encodes-chars answer c.utf8) ∙ ap encode_utf8_all (e ∙ sym l.parts) ∙ encodes-chars text u in
    inl (subst (IsCut n text) same c)
decided n text answer front (x ∷ rest) u c l e =
    inr (λ h.
    let all : take (length (chars text)) (chars text) ≡ chars text = take_all (length (chars text)) (chars text) (omega arith) in
    let past = l.longest (length (chars text)) (omega arith) (subst (IsReached n) (sym all) (whole-reached n text h)) in
    let sizes = ap length l.parts ∙ length-append front (x ∷ rest) in
    absurd (omega arith))

whole-or_cut : (n : ℕ) (text : List ℕ) → IsUtf8 text → StaysWhole n text ⊎ (StaysWhole n text → ⊥)
whole-or_cut n text u =
    let c = IsCut-text n text u in
    decided n text (cut_text n text) c.front c.rest u c c.longest c.characters

-- an exact line that is no wider stays whole
pub exact-whole : (n : ℕ) (text : List ℕ) → IsExactLine text → text_columns text ≤ n → StaysWhole n text
exact-whole n text e le =
    let c = IsCut-text n text e.utf8 in
    subst (IsCut n text) (exact-kept n text (cut_text n text) e le c) c

-- ---- texts that end in a mark

within-counted : (n : ℕ) (ls : List (List ℕ)) → All (λ l. count_of l ≤ n) ls → Within n ls
within-counted n [] h = tt
within-counted n (l ∷ ls) h =
    let bound = columns-count l in
    let own = All-head (λ l. count_of l ≤ n) l ls h in
    (omega arith, within-counted n ls (All-tail (λ l. count_of l ≤ n) l ls h))

fits-ended : (n mark : ℕ) (text answer : List ℕ) → mark_fits mark n ≡ true
    → IsEnded (n - char_count mark) (encode_utf8 mark) text answer → FitsIn n answer
fits-ended n mark text answer f h =
    let parts = and_parts (scalar mark) (nat_le (char_count mark) n) f in
    let le : char_count mark ≤ n = leb-true (char_count mark) n parts.1 in
    let cut = h.cut in
    let left = n - char_count mark in
    let m = missing_columns left cut.front cut.rest in
    let missing = missing-le left cut.front cut.rest in
    let low = All-last_line (λ l. count_of l ≤ left) cut.front cut.longest.reached.fits in
    let filled = reached-filled n m cut.front (reached-wider left n cut.front (omega arith) cut.longest.reached) (omega arith) in
    let cs = cut.front ++ replicate m 0xFFFD in
    let last = filled.counts in
    let reached = reached-more n cs mark filled.reached (omega arith) in
    let characters : chars (h.front ++ encode_utf8 mark) ≡ cs ++ mark ∷ [] =
    chars-push h.front mark cut.utf8 parts.0 ∙ ap (λ l. l ++ mark ∷ []) cut.characters in
    let utf8 = IsUtf8-append h.front (encode_utf8 mark) cut.utf8 (IsUtf8-encode mark parts.0) in
    subst (FitsIn n) (sym h.answered) record {
      utf8 = utf8;
      columns = text_columns-within n (h.front ++ encode_utf8 mark) utf8
          (subst (λ t. Within n (lines_of t)) (sym characters) (within-counted n (lines_of (cs ++ mark ∷ [])) reached.fits));
    }

ended-exists : (b : Bool) (n mark : ℕ) (text : List ℕ) → IsUtf8 text
    → (answer : List ℕ) × MatchBool b (IsEnded (n - char_count mark) (encode_utf8 mark) text answer) (IsCut n text answer)
ended-exists true n mark text u =
    let left = n - char_count mark in
    (cut_text left text ++ encode_utf8 mark, record { front = cut_text left text; cut = IsCut-text left text u; answered = refl })
ended-exists false n mark text u = (cut_text n text, IsCut-text n text u)

-- ---- cut cells

-- a cut cell takes no more than its columns
pub fits-cut_cell : (mark : Option ℕ) (n : ℕ) (text answer : List ℕ) → IsCutCell mark n text answer → FitsIn n answer
fits-cut_cell None n text answer c = fits-cut n text answer c
fits-cut_cell (Some mark) n text answer (inl c) = subst (FitsIn n) (sym c.1) (fits-cut n text text c.0)
fits-cut_cell (Some mark) n text answer (inr c) =
    match-both (mark_fits mark n) c.1 (λ f h. fits-ended n mark text answer f h) (λ _ h. fits-cut n text answer h)

-- a cell that stays whole is the text
pub cut_cell-whole : (mark : Option ℕ) (n : ℕ) (text : List ℕ) → StaysWhole n text → IsCutCell mark n text text
cut_cell-whole None n text h = h
cut_cell-whole (Some mark) n text h = inl (h, refl)

pub cut_cell-kept : (mark : Option ℕ) (n : ℕ) (text answer : List ℕ) → StaysWhole n text → IsCutCell mark n text answer → answer ≡ text
cut_cell-kept None n text answer h c = cut-once c h
cut_cell-kept (Some mark) n text answer h (inl c) = c.1
cut_cell-kept (Some mark) n text answer h (inr c) = absurd (c.0 h)

-- every text can be cut
pub cut_cell-exists : (mark : Option ℕ) (n : ℕ) (text : List ℕ) → IsUtf8 text → (answer : List ℕ) × IsCutCell mark n text answer
cut_cell-exists None n text u = (cut_text n text, IsCut-text n text u)
cut_cell-exists (Some mark) n text u = elim (whole-or_cut n text u) [
  | inl h ↦ (text, inl (h, refl))
  | inr never ↦ let e = ended-exists (mark_fits mark n) n mark text u in (e.0, inr (never, e.1))
]

-- what is left of a wider line
pub longest_marked : (mark n : ℕ) (text answer : List ℕ) → IsExactLine text → n < text_columns text → mark_fits mark n ≡ true
    → IsMarked mark n text answer → (front : List ℕ) × IsLongestCut (n - char_count mark) text front × (answer ≡ front ++ encode_utf8 mark)
longest_marked mark n text answer e wide f (inl c) = let fits = (fits-cut n text text c.0).columns in absurd (omega arith)
longest_marked mark n text answer e wide f (inr c) =
    match-both (mark_fits mark n) c.1 (λ _ h. (h.front, exact-longest (n - char_count mark) text h.front e h.cut, h.answered))
    (λ wide_mark _. absurd (let both : true ≡ false = sym f ∙ wide_mark in cc))
