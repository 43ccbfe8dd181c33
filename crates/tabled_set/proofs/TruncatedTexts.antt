-- Truncated texts: they stay in their content size, and some are truncated in place.
use Rattle.tabled_set.proofs.Names.{AllZip, Bool, FitsIn, HasEndedLines, IsAdditive, IsAdditiveLimit, IsCutAt, IsEnded, IsTruncated, IsUtf8}
use Rattle.tabled_set.proofs.Names.{List, MatchBool, SuffixLimit, [], ap, append-nil, arith, encode_utf8_all, false, get_or_default}
use Rattle.tabled_set.proofs.Names.{if_wider, inl, inr, join_with_byte, length, length-slice_split, line_columns, lines_of, nat_lt, refl}
use Rattle.tabled_set.proofs.Names.{replicate, subst, suc, suffix_columns, sum_by, sym, take, text_columns, true, truncating, zero, ℕ, ◌++◌}
use Rattle.tabled_set.proofs.Names.{◌+◌, ◌-◌, ◌<◌, ◌==◌, ◌∙◌, ◌∷◌, ◌≡◌, ◌≤◌, ◌⊎◌}
use Rattle.std.proofs.Common.{chars, All}
use Rattle.std.proofs.lemmas.Bool.{ltb-false, ltb-true, eqb-true}
use Rattle.std.proofs.lemmas.List.Sums.{sum_by-cons}
use Rattle.std.proofs.lemmas.Str.{IsUtf8-nil, chars-nil}
use Rattle.tabled_set.specs.Common.{IsExactLine, IsLongestCut, IsAdditiveColumn, IsCut}
use Rattle.tabled_text.specs.Cut.{missing_columns}
use Rattle.tabled_text.proofs.CutLemmas.{IsReached-nil, longest_at_full}
use Rattle.tabled_text.proofs.PlainLines.{plain_line-nil, plain_line-each, plain_text-line}
use Rattle.tabled_text.proofs.ExactLines.{exact-longest}
use Rattle.tabled_set.specs.Truncated.{HasLongestLines, IsTruncatedInPlace, Cut, Ignore, IsLimited, IsUsed, Replace}
use Rattle.std.proofs.lemmas.List.Elements.{length_all_zip}
use Rattle.tabled_text.specs.Room.{StaysWithin}
use Rattle.tabled_text.proofs.FittingLaws.{fits-cut, fits-suffix, fits-joined, fits-filled}
use Rattle.tabled_text.proofs.StayLemmas.{StaysWithin-cut, StaysWithin-suffix, StaysWithin-join, StaysWithin-filled}
use Rattle.tabled_set.proofs.ChangingCells.{match-both, match-false, match-true, match-two}
use Rattle.tabled_records.proofs.Runs.{zip_all}
use Rattle.std.proofs.lemmas.List.{length-take-le}
use Rattle.tabled_base.specs.ShortOr.{FitsBehind}
use Rattle.tabled_text.proofs.CutOnce.{cut-once}
use Rattle.std.proofs.Math.Dec.{eqb-suc-zero}

missing-none : (rest : List ℕ) → missing_columns 0 [] rest ≡ 0
missing-none [] = refl
missing-none (c ∷ rest) = refl

pub IsCut-nothing : (text : List ℕ) → IsCut 0 text []
IsCut-nothing text =
    record {
      front = [];
      rest = chars text;
      longest = longest_at_full 0 (chars text) [] (chars text) refl (IsReached-nil 0) refl;
      utf8 = IsUtf8-nil;
      characters = chars-nil ∙ ap (λ n. replicate n 0xFFFD) (sym (missing-none (chars text)));
    }

pub no_columns : suffix_columns [] ≡ 0
no_columns = let e = plain_line-nil.columns in let s = sum_by-cons line_columns [] [] in omega (arith, e, s)

-- ---- what is written for a suffix

-- nothing for a content size of 0 or for no suffix, and the whole content size is left
pub nothing-used : (content_size : ℕ) (suffix : List ℕ) (limit : SuffixLimit) → (content_size ≡ 0) ⊎ (suffix ≡ [])
    → IsUsed content_size suffix limit [] content_size
nothing-used zero suffix limit h = (refl, refl)
nothing-used (suc r) suffix limit (inl e) = absurd (omega (arith, e))
nothing-used (suc r) suffix limit (inr none) =
    let whole : suc r ≡ suc r - suffix_columns [] = omega (arith, no_columns) in
    rw none (match-false _ _ (eqb-suc-zero r) (match-true {b = nat_lt (suffix_columns []) (suc r)} _ _ (grind (arith, no_columns)) (refl, whole)))

one-way : {u v w : List ℕ} {l m n : ℕ} → (u ≡ w) × (l ≡ n) → (v ≡ w) × (m ≡ n) → (u ≡ v) × (l ≡ m)
one-way a b = (a.0 ∙ sym b.0, a.1 ∙ sym b.1)

limited-once : (content_size : ℕ) (suffix : List ℕ) (limit : SuffixLimit) (used used' : List ℕ) (left left' : ℕ)
    → IsLimited content_size suffix limit used left → IsLimited content_size suffix limit used' left' → (used ≡ used') × (left ≡ left')
limited-once content_size suffix Cut used used' left left' one other = (cut-once one.0 other.0, one.1 ∙ sym other.1)
limited-once content_size suffix Ignore used used' left left' one other = one-way one other
limited-once content_size suffix (Replace c) used used' left left' one other = one-way one other

-- in one way alone
used-once : (content_size : ℕ) (suffix : List ℕ) (limit : SuffixLimit) (used used' : List ℕ) (left left' : ℕ)
    → IsUsed content_size suffix limit used left → IsUsed content_size suffix limit used' left' → (used ≡ used') × (left ≡ left')
used-once content_size suffix limit used used' left left' one other =
    match-two (content_size == 0) one other one-way
    (λ some some'. match-two (nat_lt (suffix_columns suffix) content_size) some some' one-way
    (limited-once content_size suffix limit used used' left left'))

-- what no suffix ends is cut
IsCut-ended : (content_size : ℕ) (limit : SuffixLimit) (used : List ℕ) (left : ℕ) (text answer : List ℕ)
    → IsUsed content_size [] limit used left → IsEnded left used text answer → IsCut content_size text answer
IsCut-ended content_size limit used left text answer u h =
    let bare = used-once content_size [] limit used [] left content_size u (nothing-used content_size [] limit (inr refl)) in
    subst (IsCut content_size text) (sym (h.answered ∙ ap (λ l. h.front ++ l) bare.0 ∙ append-nil h.front))
    (subst (λ n. IsCut n text h.front) bare.1 h.cut)

pub IsCut-truncated : (content_size : ℕ) (limit : SuffixLimit) (text answer : List ℕ) → IsTruncated content_size [] limit false text answer → IsCut content_size text answer
IsCut-truncated content_size limit text answer h = IsCut-ended content_size limit h.used h.left text answer h.suffix_used h.answered

-- a line whose characters count as its columns is cut to its longest beginning
pub longest_truncated : (content_size : ℕ) (limit : SuffixLimit) (text answer : List ℕ) → IsExactLine text → IsTruncated content_size [] limit false text answer → IsLongestCut content_size text answer
longest_truncated content_size limit text answer exact h = exact-longest content_size text answer exact (IsCut-truncated content_size limit text answer h)

module _ (content_size : ℕ) (limit : SuffixLimit) (used : List ℕ) (left : ℕ) (u : IsUsed content_size [] limit used left) where
  longest_each : (lines cuts : List (List ℕ)) → AllZip (IsEnded left used) lines cuts → AllZip (λ line cut. IsExactLine line → IsLongestCut content_size line cut) lines cuts
  longest_each [] [] h = h
  longest_each [] (cut ∷ cuts) h = h
  longest_each (line ∷ lines) [] h = h
  longest_each (line ∷ lines) (cut ∷ cuts) h =
      (λ exact. exact-longest content_size line cut exact (IsCut-ended content_size limit used left line cut u h.0), longest_each lines cuts h.1)

-- so is each line
pub longest_lines : (content_size : ℕ) (limit : SuffixLimit) (text answer : List ℕ) → IsTruncated content_size [] limit true text answer → HasLongestLines content_size text answer
longest_lines content_size limit text answer h =
    let ended = h.answered in
    record {
      lines = ended.lines;
      each = longest_each content_size limit h.used h.left h.suffix_used (lines_of text) ended.lines ended.each;
      joined = ended.joined;
    }

-- ---- texts that stay in their content size

-- how texts stay in a content size: what is cut from texts of some kind does, with a suffix or
-- without, and so do the copies of a character and lines that are joined
record IsKept (Own : List ℕ → Type 0) (Stays : ℕ → List ℕ → Type 0) : Type 0 where
  cut : (n : ℕ) (text front : List ℕ) → Own text → IsCut n text front → Stays n front
  cut_suffix : (n : ℕ) (suffix used : List ℕ) → IsAdditive suffix → IsCut n suffix used → Stays n used
  suffix : (n left : ℕ) (text front ending : List ℕ) → Own text → IsAdditive ending
      → left + sum_by line_columns (lines_of ending) ≤ n → IsCut left text front → Stays n (front ++ ending)
  copies : (n c : ℕ) → IsAdditiveColumn c → Stays n (encode_utf8_all (replicate n c))
  joined : (n : ℕ) (lines : List (List ℕ)) → 0 < length lines → All (Stays n) lines → Stays n (join_with_byte 10 lines)

-- what is written for a suffix closes a text, after what is cut to the columns that it leaves
abbrev Closes : (List ℕ → Type 0) → (ℕ → List ℕ → Type 0) → ℕ → ℕ → List ℕ → Type 0
Closes Own Stays n left used = (text front : List ℕ) → Own text → IsCut left text front → Stays n (front ++ used)

module _ (Own : List ℕ → Type 0) (Stays : ℕ → List ℕ → Type 0) (kept : IsKept Own Stays) where
  closes-nothing : (n left : ℕ) (used : List ℕ) → used ≡ [] → left ≡ n → Closes Own Stays n left used
  closes-nothing n left used none whole text front own cut =
      subst (Stays n) (sym (ap (λ l. front ++ l) none ∙ append-nil front))
      (kept.cut n text front own (subst (λ k. IsCut k text front) whole cut))

  closes-alone : (n left : ℕ) (used : List ℕ) → left ≡ 0 → Stays n used → Closes Own Stays n left used
  closes-alone n left used none stays text front own cut =
      let nothing : front ≡ [] = cut-once (subst (λ k. IsCut k text front) none cut) (IsCut-nothing text) in
      subst (λ f. Stays n (f ++ used)) (sym nothing) stays

  closes-limited : (n : ℕ) (suffix : List ℕ) (limit : SuffixLimit) (used : List ℕ) (left : ℕ) → IsAdditive suffix → IsAdditiveLimit limit
      → IsLimited n suffix limit used left → Closes Own Stays n left used
  closes-limited n suffix Cut used left p q h = closes-alone n left used h.1 (kept.cut_suffix n suffix used p h.0)
  closes-limited n suffix Ignore used left p q h = closes-nothing n left used h.0 h.1
  closes-limited n suffix (Replace c) used left p q h = closes-alone n left used h.1 (subst (Stays n) (sym h.0) (kept.copies n c q))

  closes-whole : (n : ℕ) (suffix used : List ℕ) (left : ℕ) → IsAdditive suffix → suffix_columns suffix < n → used ≡ suffix
      → left ≡ n - suffix_columns suffix → Closes Own Stays n left used
  closes-whole n suffix used left p below whole rest text front own cut =
      subst (λ l. Stays n (front ++ l)) (sym whole) (kept.suffix n left text front suffix own p (omega (arith, below, rest)) cut)

  closes-used : (n : ℕ) (suffix : List ℕ) (limit : SuffixLimit) (used : List ℕ) (left : ℕ) → IsAdditive suffix → IsAdditiveLimit limit
      → IsUsed n suffix limit used left → Closes Own Stays n left used
  closes-used n suffix limit used left p q h =
      match-both (n == 0) h
      (λ none k. closes-nothing n left used k.0 (k.1 ∙ sym (eqb-true n 0 none)))
      (λ _ some. match-both (nat_lt (suffix_columns suffix) n) some
      (λ below k. closes-whole n suffix used left p (ltb-true (suffix_columns suffix) n below) k.0 k.1)
      (λ _ k. closes-limited n suffix limit used left p q k))

  stays-ended : (n left : ℕ) (used text answer : List ℕ) → Closes Own Stays n left used → Own text → IsEnded left used text answer → Stays n answer
  stays-ended n left used text answer closes own h = subst (Stays n) (sym h.answered) (closes text h.front own h.cut)

  stays-truncated : (n : ℕ) (suffix : List ℕ) (limit : SuffixLimit) (multiline : Bool) (text answer : List ℕ) → IsAdditive suffix → IsAdditiveLimit limit
      → Own text → All Own (lines_of text) → IsTruncated n suffix limit multiline text answer → Stays n answer
  stays-truncated n suffix limit false text answer p q own each h =
      stays-ended n h.left h.used text answer (closes-used n suffix limit h.used h.left p q h.suffix_used) own h.answered
  stays-truncated n suffix limit true text answer p q own each h =
      let lines = h.answered in
      let closes = closes-used n suffix limit h.used h.left p q h.suffix_used in
      let some = length-slice_split (λ c. c == 10) text in
      let same = length_all_zip (IsEnded h.left h.used) (lines_of text) lines.lines lines.each in
      subst (Stays n) (sym lines.joined)
      (kept.joined n lines.lines (omega (arith, some, same))
      (zip_all (IsEnded h.left h.used) Own (Stays n) (λ line answer ended own. stays-ended n h.left h.used line answer closes own ended)
      (lines_of text) lines.lines lines.each each))

-- ---- additive texts

additive : IsKept IsAdditive StaysWithin
additive = record {
  cut = λ n text front own cut. StaysWithin-cut own cut;
  cut_suffix = λ n suffix used p cut. StaysWithin-cut p cut;
  suffix = λ n left text front ending own p le cut. StaysWithin-suffix own p le cut;
  copies = λ n c p. StaysWithin-filled n c (omega arith) p;
  joined = λ n lines some each. StaysWithin-join lines some each;
}

additive_lines : (text : List ℕ) → IsAdditive text → All IsAdditive (lines_of text)
additive_lines text p k d l = subst IsAdditive (sym (get_or_default (lines_of text) k d [] l)) (plain_text-line (plain_line-each text p k l))

pub StaysWithin-truncated : (content_size : ℕ) (suffix : List ℕ) (limit : SuffixLimit) (multiline : Bool) (text answer : List ℕ)
    → IsAdditive suffix → IsAdditiveLimit limit → IsAdditive text → IsTruncated content_size suffix limit multiline text answer → StaysWithin content_size answer
StaysWithin-truncated content_size suffix limit multiline text answer p q own h =
    stays-truncated IsAdditive StaysWithin additive content_size suffix limit multiline text answer p q own (additive_lines text own) h

-- ---- texts of any characters

abbrev IsAny : List ℕ → Type 0
IsAny text = Unit {0}

any : IsKept IsAny FitsIn
any = record {
  cut = λ n text front own cut. fits-cut n text front cut;
  cut_suffix = λ n suffix used p cut. fits-cut n suffix used cut;
  suffix = λ n left text front ending own p le cut. fits-suffix left n text front ending p le cut;
  copies = λ n c p. fits-filled n n c (omega arith) p;
  joined = λ n lines some each. fits-joined n lines each;
}

pub fits-truncated : (content_size : ℕ) (suffix : List ℕ) (limit : SuffixLimit) (multiline : Bool) (text answer : List ℕ)
    → IsAdditive suffix → IsAdditiveLimit limit → IsTruncated content_size suffix limit multiline text answer → FitsIn content_size answer
fits-truncated content_size suffix limit multiline text answer p q h =
    stays-truncated IsAny FitsIn any content_size suffix limit multiline text answer p q tt (λ k d l. tt) h

-- so does a text that is truncated only where it is wider than its content size
pub fits-if_wider : (content_size : ℕ) (suffix : List ℕ) (limit : SuffixLimit) (multiline : Bool) (before after : List ℕ) → IsAdditive suffix → IsAdditiveLimit limit → IsUtf8 before
    → if_wider (truncating suffix limit multiline) content_size before after → FitsIn content_size after
fits-if_wider content_size suffix limit multiline before after p q u w =
    match-both (nat_lt content_size (text_columns before)) w
    (λ _ ended. fits-truncated content_size suffix limit multiline before after p q ended)
    (λ no same. subst (FitsIn content_size) (sym same) (record { utf8 = u; columns = ltb-false content_size (text_columns before) no }))

-- ---- in place

ended_lines : (multiline : Bool) (left : ℕ) (used text answer : List ℕ) → (multiline ≡ true → lines_of text ≡ text ∷ []) → IsEnded left used text answer
    → MatchBool multiline (HasEndedLines left used text answer) (IsEnded left used text answer)
ended_lines false left used text answer one h = h
ended_lines true left used text answer one h =
    record {
      lines = answer ∷ [];
      each = rw (one refl) (h, tt);
      joined = refl;
    }

pub truncated-in_place : (content_size : ℕ) (suffix : List ℕ) (limit : SuffixLimit) (multiline : Bool) (text used : List ℕ) (left bytes : ℕ)
    → (multiline ≡ true → lines_of text ≡ text ∷ []) → IsUsed content_size suffix limit used left → IsCut left text (take bytes text)
    → IsTruncated content_size suffix limit multiline text (take bytes text ++ used)
truncated-in_place content_size suffix limit multiline text used left bytes one u cut =
    record {
      used = used;
      left = left;
      suffix_used = u;
      answered = ended_lines multiline left used text (take bytes text ++ used) one
          (record { front = take bytes text; cut = cut; answered = refl });
    }

left-once : (left : ℕ) (text : List ℕ) (bytes bytes' : ℕ) → IsCutAt left text bytes → IsCutAt left text bytes' → bytes ≡ bytes'
left-once left text bytes bytes' a b =
    sym (length-take-le bytes text a.boundary.0) ∙ ap length (cut-once a.cut b.cut) ∙ length-take-le bytes' text b.boundary.0

-- as many bytes are left, and the ending fits behind them
pub in_place-fits : {content_size : ℕ} {suffix : List ℕ} {limit : SuffixLimit} {multiline : Bool} {text : List ℕ}
    → IsTruncatedInPlace content_size suffix limit multiline text → (used : List ℕ) (left bytes : ℕ)
    → IsUsed content_size suffix limit used left → IsCutAt left text bytes → FitsBehind bytes used
in_place-fits {content_size} {suffix} {limit} {multiline} {text} h used left bytes u kept =
    let same = used-once content_size suffix limit h.used used h.left left h.suffix_used u in
    let there : IsCutAt left text h.bytes = subst (λ l. IsCutAt l text h.bytes) same.1 h.kept in
    subst (λ n. FitsBehind n used) (left-once left text h.bytes bytes there kept) (subst (FitsBehind h.bytes) same.0 h.fits)
