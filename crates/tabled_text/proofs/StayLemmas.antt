-- Plain texts that stay in some columns: what they are, and what is made of them.
use Rattle.tabled_text.proofs.Names.{All, All-head, All-tail, Bool, IsAdditive, IsAdditiveColumn, IsCut, IsUtf8, IsUtf8-append, IsUtf8-nil}
use Rattle.tabled_text.proofs.Names.{IsWrapped, List, [], and_from, and_parts, ap, append-nil, append_assoc, arith, char_columns, chars}
use Rattle.tabled_text.proofs.Names.{chars-append, chars-encodes, chars-nil, columns_of, count_of, encode_utf8_all, greatest}
use Rattle.tabled_text.proofs.Names.{has_plain_width, is_additive, is_additive_or_feed, is_additive_text, is_listed_or_drawn, is_simple}
use Rattle.tabled_text.proofs.Names.{join_with_byte, join_with_byte-slice_split, last_line, last_of, le-leb, length, line_columns, lines_of}
use Rattle.tabled_text.proofs.Names.{lit<, map, missing_columns, nat_le, refl, replicate, scalar, scalars, stays, subst, sum_by}
use Rattle.tabled_text.proofs.Names.{sum_by-cons, sym, text_columns, true, ℕ, ◌&&◌, ◌++◌, ◌+◌, ◌-◌, ◌<◌, ◌==◌, ◌∙◌, ◌∷◌, ◌≡◌, ◌≤◌}
use Rattle.tabled_text.specs.Room.{StaysWithin}
use Rattle.tabled_text.proofs.Basics.{all-halves, cond-both, list_all-copies}
use Rattle.tabled_text.proofs.Bridge.{lines_of-chars, list_all-scalars, some_line, text_columns-chars}
use Rattle.tabled_text.proofs.PlainLemmas.{count_of-plain, line_columns-plain}
use Rattle.tabled_text.proofs.PlainLines.{scalar-listed}
use Rattle.tabled_text.proofs.Searched.{IsUtf8-mark, chars-mark}
use Rattle.tabled_text.proofs.WrapRoom.{EachPlain, EachPlain-lines, Lines, columns-stays, copies, is_additive_text-stays, replacements}
use Rattle.tabled_text.proofs.WrapRoom.{stays-break, stays-line, stays-nothing, stays-wrapped}

-- ---- cut texts

-- the columns of the last line, where used columns of the first are taken
abbrev pub last_used : ℕ → List (List ℕ) → ℕ
last_used used [] = used
last_used used (l ∷ []) = used + sum_by char_columns l
last_used used (l ∷ m ∷ ls) = last_used 0 (m ∷ ls)

pub last_used-le : (n used : ℕ) (ls : List (List ℕ)) → 0 < length ls → Lines n used ls → last_used used ls ≤ n
last_used-le n used [] some h = absurd (omega arith)
last_used-le n used (l ∷ []) some h = h.1
last_used-le n used (l ∷ m ∷ ls) some h = last_used-le n 0 (m ∷ ls) (omega arith) h.2

last_used-last : (ls : List (List ℕ)) → 0 < length ls → EachPlain ls → last_used 0 ls ≡ count_of (last_of ls)
last_used-last [] some h = absurd (omega arith)
last_used-last (l ∷ []) some h = let e = count_of-plain l h.0 in omega arith
last_used-last (l ∷ m ∷ ls) some h = last_used-last (m ∷ ls) (omega arith) h.1

stays-join : (n used : ℕ) (ls : List (List ℕ)) (tail : List ℕ) → 0 < length ls → Lines n used ls
    → stays n (last_used used ls) tail ≡ true → stays n used (join_with_byte 10 ls ++ tail) ≡ true
stays-join n used [] tail some h s = absurd (omega arith)
stays-join n used (l ∷ []) tail some h s = stays-line n used l tail h.0 s
stays-join n used (l ∷ m ∷ ls) tail some h s =
    let rest = stays-join n 0 (m ∷ ls) tail (omega arith) h.2 s in
    subst (λ t. stays n used t ≡ true) (sym (append_assoc l (10 ∷ join_with_byte 10 (m ∷ ls)) tail))
    (stays-line n used l (10 ∷ (join_with_byte 10 (m ∷ ls) ++ tail)) h.0
    (stays-break n (used + sum_by char_columns l) (join_with_byte 10 (m ∷ ls) ++ tail) h.1 rest))

pub stays-text : (n used : ℕ) (cs tail : List ℕ) → Lines n used (lines_of cs)
    → stays n (last_used used (lines_of cs)) tail ≡ true → stays n used (cs ++ tail) ≡ true
stays-text n used cs tail h s = subst (λ t. stays n used (t ++ tail) ≡ true) (join_with_byte-slice_split 10 cs)
    (stays-join n used (lines_of cs) tail (some_line cs) h s)

Lines-counted : (n : ℕ) (ls : List (List ℕ)) → EachPlain ls → All (λ l. count_of l ≤ n) ls → Lines n 0 ls
Lines-counted n [] p h = tt
Lines-counted n (l ∷ ls) p h =
    let own = All-head (λ l. count_of l ≤ n) l ls h in
    let e = count_of-plain l p.0 in
    (p.0, omega arith, Lines-counted n ls p.1 (All-tail (λ l. count_of l ≤ n) l ls h))

Lines-more : (n w used : ℕ) (ls : List (List ℕ)) → n ≤ w → Lines n used ls → Lines w used ls
Lines-more n w used [] le h = tt
Lines-more n w used (l ∷ ls) le h = (h.0, (let a = h.1 in omega arith), Lines-more n w 0 ls le h.2)

Lines-sum : (n used : ℕ) (ls : List (List ℕ)) → EachPlain ls → used + sum_by columns_of ls ≤ n → Lines n used ls
Lines-sum n used [] p h = tt
Lines-sum n used (l ∷ ls) p h =
    let e = line_columns-plain l p.0 in
    let c = sum_by-cons columns_of l ls in
    (p.0, omega arith, Lines-sum n 0 ls p.1 (omega arith))

pub missing-le : (n : ℕ) (front rest : List ℕ) → missing_columns n front rest ≤ n - count_of (last_line front)
missing-le n front [] = omega arith
missing-le n front (c ∷ rest) = omega arith

-- a cut plain text stays in its columns, and what follows begins within them
pub stays-cut_before : (n w : ℕ) → n ≤ w → (text answer tail : List ℕ) → is_additive_text (chars text) ≡ true → IsCut n text answer
    → ((k : ℕ) → k ≤ n → stays w k tail ≡ true) → stays w 0 (chars answer ++ tail) ≡ true
stays-cut_before n w le text answer tail plain cut h =
    let front = cut.front in
    let rest = cut.rest in
    let own = (all-halves is_additive_or_feed front rest (subst (λ t. is_additive_text t ≡ true) cut.longest.parts plain)).0 in
    let each = EachPlain-lines front own in
    let lines = Lines-counted n (lines_of front) each cut.longest.reached.fits in
    let last = last_used-last (lines_of front) (some_line front) each in
    let fits = last_used-le n 0 (lines_of front) (some_line front) lines in
    let missing = missing-le n front rest in
    let filled = replicate (missing_columns n front rest) 0xFFFD in
    let fill = replacements (missing_columns n front rest) in
    let wide : sum_by char_columns filled ≡ missing_columns n front rest = fill.1 in
    subst (λ t. stays w 0 (t ++ tail) ≡ true) (sym cut.characters)
    (subst (λ t. stays w 0 t ≡ true) (sym (append_assoc front filled tail))
    (stays-text w 0 front (filled ++ tail) (Lines-more n w 0 (lines_of front) le lines)
    (stays-line w (last_used 0 (lines_of front)) filled tail fill.0 (h (last_used 0 (lines_of front) + sum_by char_columns filled) (omega arith)))))

-- a plain text stays from a column on if there is room for the columns of all its lines
pub stays-whole : (w k : ℕ) (s tail : List ℕ) → is_additive_text s ≡ true → k + sum_by columns_of (lines_of s) ≤ w
    → ((j : ℕ) → j ≤ w → stays w j tail ≡ true) → stays w k (s ++ tail) ≡ true
stays-whole w k s tail plain le h =
    let each = EachPlain-lines s plain in
    let lines = Lines-sum w k (lines_of s) each (omega arith) in
    stays-text w k s tail lines (h (last_used k (lines_of s)) (last_used-le w k (lines_of s) (some_line s) lines))

-- ---- what texts that stay are

-- the text is plain
pub IsAdditive-stays : {n : ℕ} {text : List ℕ} → StaysWithin n text → IsAdditive text
IsAdditive-stays {n} {text} s = record { utf8 = s.utf8; characters = is_additive_text-stays n 0 (chars text) s.stays }

-- and takes at most n columns
pub text_columns-stays : {n : ℕ} {text : List ℕ} → StaysWithin n text → text_columns text ≤ n
text_columns-stays {n} {text} s = subst (λ k. k ≤ n) (sym (text_columns-chars text s.utf8)) (columns-stays n (chars text) s.stays)

Lines-greatest : (n : ℕ) (ls : List (List ℕ)) → EachPlain ls → greatest (map columns_of ls) ≤ n → Lines n 0 ls
Lines-greatest n [] p h = tt
Lines-greatest n (l ∷ ls) p h = let e = line_columns-plain l p.0 in (p.0, omega arith, Lines-greatest n ls p.1 (omega arith))

-- a plain text that takes at most n columns stays in them
pub StaysWithin-from : {n : ℕ} {text : List ℕ} → IsAdditive text → text_columns text ≤ n → StaysWithin n text
StaysWithin-from {n} {text} p h =
    let cs = chars text in
    let lines = Lines-greatest n (lines_of cs) (EachPlain-lines cs p.characters) (subst (λ k. k ≤ n) (text_columns-chars text p.utf8) h) in
    record {
      utf8 = p.utf8;
      stays = subst (λ t. stays n 0 t ≡ true) (append-nil cs)
          (stays-text n 0 cs [] lines (stays-nothing n (last_used 0 (lines_of cs)) (last_used-le n 0 (lines_of cs) (some_line cs) lines)));
    }

-- ---- what is cut and wrapped

-- a wrapped plain text stays in its columns
pub StaysWithin-wrapped : {n : ℕ} {words : Bool} {text answer : List ℕ} → IsAdditive text → IsWrapped n words text answer
    → StaysWithin n answer
StaysWithin-wrapped {n} {words} {text} {answer} p w = record { utf8 = w.utf8; stays = stays-wrapped n words text answer p.characters w }

-- a cut plain text stays in its columns
pub StaysWithin-cut : {n : ℕ} {text answer : List ℕ} → IsAdditive text → IsCut n text answer → StaysWithin n answer
StaysWithin-cut {n} {text} {answer} p c =
    let before = stays-cut_before n n (omega arith) text answer [] p.characters c (stays-nothing n) in
    record { utf8 = c.utf8; stays = subst (λ t. stays n 0 t ≡ true) (append-nil (chars answer)) before }

-- so does a cut plain text with what follows it, if that does from each column on at which it may begin
pub StaysWithin-cut_before : {n w : ℕ} {text answer tail : List ℕ} → n ≤ w → IsAdditive text → IsCut n text answer → IsUtf8 tail
    → ((k : ℕ) → k ≤ n → stays w k (chars tail) ≡ true) → StaysWithin w (answer ++ tail)
StaysWithin-cut_before {n} {w} {text} {answer} {tail} le p c u h = record {
  utf8 = IsUtf8-append answer tail c.utf8 u;
  stays = subst (λ t. stays w 0 t ≡ true) (sym (chars-append answer tail c.utf8)) (stays-cut_before n w le text answer (chars tail) p.characters c h);
}

sum-chars : (ls : List (List ℕ)) → sum_by line_columns ls ≡ sum_by columns_of (map chars ls)
sum-chars [] = refl
sum-chars (l ∷ ls) = omega (arith, sum-chars ls, sum_by-cons line_columns l ls, sum_by-cons columns_of (chars l) (map chars ls))

-- a plain text stays from a column on if there is room for the columns of all its lines
pub stays-suffix : (w k : ℕ) (suffix : List ℕ) → IsAdditive suffix → k + sum_by line_columns (lines_of suffix) ≤ w
    → stays w k (chars suffix) ≡ true
stays-suffix w k suffix p h =
    let cs = chars suffix in
    let e : sum_by line_columns (lines_of suffix) ≡ sum_by columns_of (lines_of cs) = sum-chars (lines_of suffix) ∙ ap
    (sum_by columns_of) (sym (lines_of-chars suffix p.utf8)) in
    subst (λ t. stays w k t ≡ true) (append-nil cs) (stays-whole w k cs [] p.characters (omega arith) (stays-nothing w))

-- a cut plain text and a suffix for which there is room
pub StaysWithin-suffix : {n w : ℕ} {text answer suffix : List ℕ} → IsAdditive text → IsAdditive suffix
    → n + sum_by line_columns (lines_of suffix) ≤ w → IsCut n text answer → StaysWithin w (answer ++ suffix)
StaysWithin-suffix {n} {w} {suffix = suffix} p q h c = StaysWithin-cut_before (omega arith) p c q.utf8
    (λ k le. stays-suffix w k suffix q (omega arith))

-- ---- joined texts

stays-feed : (n used : ℕ) (front back : List ℕ) → stays n used front ≡ true → stays n 0 back ≡ true
    → stays n used (front ++ 10 ∷ back) ≡ true
stays-feed n used [] back f b = and_from (nat_le used n) (stays n 0 back) f b
stays-feed n used (c ∷ front) back f b =
    let rest = front ++ 10 ∷ back in
    let P : Bool → Type 0 = λ t. t ≡ true in
    cond-both P P (c == 10) (nat_le used n && stays n 0 front) (is_additive c && stays n (used + char_columns c) front)
    (nat_le used n && stays n 0 rest) (is_additive c && stays n (used + char_columns c) rest)
    (λ _ t.
    let parts = and_parts (nat_le used n) (stays n 0 front) t in
    and_from (nat_le used n) (stays n 0 rest) parts.0 (stays-feed n 0 front back parts.1 b))
    (λ _ t.
    let parts = and_parts (is_additive c) (stays n (used + char_columns c) front) t in
    and_from (is_additive c) (stays n (used + char_columns c) rest) parts.0 (stays-feed n (used + char_columns c) front back parts.1 b)) f

-- texts that stay, one below the other
pub StaysWithin-feed : {n : ℕ} {front back : List ℕ} → StaysWithin n front → StaysWithin n back → StaysWithin n (front ++ 10 ∷ back)
StaysWithin-feed {n} {front} {back} f b = record {
  utf8 = IsUtf8-append front (10 ∷ back) f.utf8 (IsUtf8-mark 10 (lit< tt) back b.utf8);
  stays = subst (λ t. stays n 0 t ≡ true) (sym (chars-append front (10 ∷ back) f.utf8 ∙ ap
      (λ t. chars front ++ t) (chars-mark 10 (lit< tt) back (IsUtf8-mark 10 (lit< tt) back b.utf8))))
      (stays-feed n 0 (chars front) (chars back) f.stays b.stays);
}

pub StaysWithin-join : {n : ℕ} (ls : List (List ℕ)) → 0 < length ls → All (StaysWithin n) ls → StaysWithin n (join_with_byte 10 ls)
StaysWithin-join {n} [] some h = absurd (omega arith)
StaysWithin-join {n} (l ∷ []) some h = All-head (StaysWithin n) l [] h
StaysWithin-join {n} (l ∷ m ∷ ls) some h =
    StaysWithin-feed (All-head (StaysWithin n) l (m ∷ ls) h) (StaysWithin-join (m ∷ ls) (omega arith) (All-tail (StaysWithin n) l (m ∷ ls) h))

-- ---- nothing, and copies of a character

pub StaysWithin-none : {n : ℕ} → StaysWithin n []
StaysWithin-none {n} = record { utf8 = IsUtf8-nil; stays = subst (λ t. stays n 0 t ≡ true) (sym chars-nil) (le-leb 0 n (omega arith)) }

pub StaysWithin-filled : {n : ℕ} (k c : ℕ) → k ≤ n → IsAdditiveColumn c → StaysWithin n (encode_utf8_all (replicate k c))
StaysWithin-filled {n} k c le p =
    let cs : List ℕ = replicate k c in
    let one = scalar-listed c (and_parts (is_listed_or_drawn c) (has_plain_width c && is_simple c) p.character).0 in
    let own : scalars cs ≡ true = sym (list_all-scalars cs) ∙ list_all-copies scalar c k one in
    let all = copies c k p.character p.columns in
    let wide : sum_by char_columns cs ≡ k = all.1 in
    let line : stays n 0 (cs ++ []) ≡ true = stays-line n 0 cs [] all.0 (le-leb (0 + sum_by char_columns cs) n (omega arith)) in
    record {
      utf8 = (cs, (own, refl));
      stays = subst (λ t. stays n 0 t ≡ true) (append-nil cs ∙ sym (chars-encodes cs own)) line;
    }
