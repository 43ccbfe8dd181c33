-- Records take at most their width, whatever characters the cells have.
use Rattle.std.proofs.Common.{lit<, ◌/◌, Bool, false, IsUtf8, List, MatchBool, MatchOption, Option, Some, [], ap, append_assoc, arith, chars, codes, encode_utf8, get_or, inl, inr, length, map, max, min, nat_lt, refl, subst, suc, sym, true, zero, ℕ, ⊎_elim, ◌++◌, ◌+◌, ◌&&◌, ◌-◌, ◌^◌, ◌<◌, ◌∙◌, ◌∷◌, ◌≡◌, ◌≤◌, ◌⊎◌}
use Rattle.std.proofs.lemmas.Bool.{MatchBool-at_false, MatchBool-at_true, and_parts, cases_lt, le-ltb, lt-ltb, or_left, or_right}
use Rattle.std.proofs.lemmas.List.{get_or_default, get_or_past}
use Rattle.std.proofs.lemmas.List.Elements.{All-append, All-cons, All-head, All-map, All-tail}
use Rattle.std.proofs.lemmas.Str.{IsUtf8-nil, chars-append}
use Rattle.std.proofs.Math.Nat.{div-le_self, div-mul-le_self}
use Rattle.std.proofs.lemmas.Nat.{le-div}
use Rattle.std.specs.List.{All, AllZip, list_all, range_with_len, zip}
use Rattle.tabled_line.specs.Fill.{fill}
use Rattle.tabled_text.proofs.Bridge.{greatest-ge}
use Rattle.tabled_text.proofs.FittingLaws.{fits-cut, fits-joined, fits-suffix}
use Rattle.tabled_text.proofs.LetterBytes.{line-columns}
use Rattle.tabled_text.proofs.LineLaws.{ends_before-separators, frame-append, frame-one, line-append, line-each, line-frame}
use Rattle.tabled_text.proofs.Names.{chars-nil, sum_by, sum_by-cons, unicode_width}
use Rattle.tabled_text.proofs.PlainLines.{plain_column-printable, plain_column-space, plain_line-append, plain_line-lines, plain_line-nil, plain_line-one, plain_text-line}
use Rattle.tabled_text.proofs.WordLaws.{fits-words}
use Rattle.tabled_text.specs.Cut.{IsCut}
use Rattle.tabled_text.specs.Fitting.{FitsIn}
use Rattle.tabled_text.specs.FramedLines.{IsFrame, IsLine, IsSeparatorColumn, begins_apart, ends_before, is_no_feed, is_separator, meet, stands_before}
use Rattle.tabled_text.specs.Measure.{columns_of, line_columns, lines_of, text_columns}
use Rattle.tabled_text.specs.Plain.{IsAdditiveColumn, IsAdditiveLine}
use Rattle.tabview_records.specs.Expanded.{CanLay, least_width}
use Rattle.tabview_records.specs.Narrowed.{mark, IsMarked, IsNarrowedLine, IsNarrowedText, IsNarrower}
use Rattle.tabview_records.specs.Records.{IsHead, IsRecord, field_lines, fields_lines, head_of, line_at, name_columns, pair_line, record_layout, value_columns, widest, widest_cell}
use Rattle.tabview_records.specs.declared.expanded.TheConstants.{LEAST_COLUMNS}
use Rattle.tabview_records.specs.declared.layout.RecordLayout.{RecordLayout}

mark_column : IsAdditiveColumn 0x2026
unfolding unicode_width
mark_column = record { character = refl; columns = refl }

mark-is : encode_utf8 0x2026 ≡ mark
unfolding unicode_width
mark-is = refl

fits-line : {n m : ℕ} {line : List ℕ} → IsLine line m → m ≤ n → FitsIn n line
fits-line p le = record { utf8 = p.utf8; columns = (let e = line-columns p in omega arith) }

-- ---- what is between a name and its value

space-separates : IsSeparatorColumn 32
space-separates = record { additive = plain_column-space; steady = refl }

bar-separates : IsSeparatorColumn 124
bar-separates = record { additive = plain_column-printable 124 refl; steady = refl }

frame-as : {text : List ℕ} {m n : ℕ} → IsFrame text m → m ≡ n → IsFrame text n
frame-as {text} p e = subst (λ k. IsFrame text k) e p

frame-fill : (k : ℕ) → IsFrame (fill 32 k) k
frame-fill zero = record { utf8 = IsUtf8-nil; separators = ap (list_all is_separator) chars-nil; columns = plain_line-nil.columns }
frame-fill (suc k) = frame-as (frame-append (frame-one 32 space-separates) (frame-fill k)) (omega arith)

frame-bar : IsFrame (codes " | ") 3
unfolding lib.Utf8.encode
frame-bar = frame-append (frame-one 32 space-separates) (frame-append (frame-one 124 bar-separates) (frame-one 32 space-separates))

begins-separators : (cs back : List ℕ) → list_all is_separator cs ≡ true → 0 < length cs → begins_apart (cs ++ back) ≡ true
begins-separators [] back h some = absurd (omega (arith, some))
begins-separators (c ∷ cs) back h some =
    let first = (and_parts (is_separator c) (list_all is_separator cs) h).0 in
    ends_before-separators (c ∷ []) (cs ++ back) (ap (λ b. b && true) first)

some-of : (cs : List ℕ) (k : ℕ) → columns_of cs ≡ k + 3 → 0 < length cs
some-of [] k e = let none : columns_of [] ≡ 0 = sym (ap columns_of chars-nil) ∙ plain_line-nil.columns in absurd (omega (arith, e, none))
some-of (c ∷ cs) k e = omega arith

characters : (text : List ℕ) (k : ℕ) → IsFrame text (k + 3) → 0 < length (chars text)
characters text k f = some-of (chars text) k f.columns

-- a line of a name and of its value
fits-pair : (n v w : ℕ) (a b : List ℕ) (m l : ℕ) → IsLine a m → IsLine b l → m ≤ n → l ≤ v → n + 3 + v ≤ w → FitsIn w (pair_line n a b)
fits-pair n v w a b m l p q c d le =
    let k = n - text_columns a in
    let bar = fill 32 k ++ codes " | " in
    let frame : IsFrame bar (k + 3) = frame-append (frame-fill k) frame-bar in
    let behind : IsLine (bar ++ b) (k + 3 + l) =
    line-append (line-frame frame) q
    (or_right (begins_apart (chars b)) (ends_before (chars bar) (chars b)) (ends_before-separators (chars bar) (chars b) frame.separators)) in
    let apart : begins_apart (chars (bar ++ b)) ≡ true =
    ap begins_apart (chars-append bar b frame.utf8) ∙ begins-separators (chars bar) (chars b) frame.separators (characters bar k frame) in
    let whole : IsLine (a ++ (bar ++ b)) (m + (k + 3 + l)) =
    line-append p behind (or_left (begins_apart (chars (bar ++ b))) (ends_before (chars a) (chars (bar ++ b))) apart) in
    let own = line-columns p in
    subst (λ t. FitsIn w (a ++ t)) (append_assoc (fill 32 k) (codes " | ") b) (fits-line whole (omega (arith, own)))

-- ---- the lines of a field

line-is : (text : List ℕ) → IsUtf8 text → (i : ℕ) → IsLine (line_at (lines_of text) i) (line_columns (line_at (lines_of text) i))
line-is text u i =
    let ls = lines_of text in
    let P = λ (l : List ℕ). IsLine l (line_columns l) in
    ⊎_elim (λ l. line-each text u i l)
    (λ r. subst P (sym (get_or_past ls i [] r)) (record { utf8 = IsUtf8-nil; feedless = ap (list_all is_no_feed) chars-nil; columns = refl })) (cases_lt i (length ls))

line-within : (n : ℕ) (text : List ℕ) → text_columns text ≤ n → (i : ℕ) → line_columns (line_at (lines_of text) i) ≤ n
line-within n text le i =
    let ls = lines_of text in
    ⊎_elim (λ l. let g = greatest-ge line_columns ls i [] l in omega arith)
    (λ r. let e = ap line_columns (get_or_past ls i [] r) in let none = plain_line-nil.columns in omega (arith, e, none)) (cases_lt i (length ls))

fits-field : (n v w : ℕ) (name value : List ℕ) → FitsIn n name → FitsIn v value → n + 3 + v ≤ w → All (FitsIn w) (field_lines n name value)
fits-field n v w name value p q le =
    All-map (FitsIn w) (λ i. pair_line n (line_at (lines_of name) i) (line_at (lines_of value) i))
    (range_with_len 0 (max (length (lines_of name)) (length (lines_of value))))
    (λ k d l. let i = get_or (range_with_len 0 (max (length (lines_of name)) (length (lines_of value)))) k d in
    fits-pair n v w (line_at (lines_of name) i) (line_at (lines_of value) i) _ _ (line-is name p.utf8 i) (line-is value q.utf8 i)
    (line-within n name p.columns i) (line-within v value q.columns i) le)

fits-fields : (n v w : ℕ) (names values : List (List ℕ)) → All (FitsIn n) names → All (FitsIn v) values → n + 3 + v ≤ w
    → All (FitsIn w) (fields_lines n names values)
fits-fields n v w [] values p q le = λ k d l. absurd (omega (arith, l))
fits-fields n v w (name ∷ names) [] p q le = λ k d l. absurd (omega (arith, l))
fits-fields n v w (name ∷ names) (value ∷ values) p q le =
    All-append (FitsIn w) (field_lines n name value) (fields_lines n names values)
    (fits-field n v w name value (All-head (FitsIn n) name names p) (All-head (FitsIn v) value values q) le)
    (fits-fields n v w names values (All-tail (FitsIn n) name names p) (All-tail (FitsIn v) value values q) le)

-- ---- narrowed texts

-- a line that can be narrowed to n columns: it takes no more, or there is a column for the mark
abbrev CanNarrow : ℕ → List ℕ → Type 0
CanNarrow n line = IsLine line (line_columns line) × ((line_columns line ≤ n) ⊎ (0 < n))

spaces-additive : (k : ℕ) → IsAdditiveLine (fill 32 k) k
spaces-additive zero = plain_line-nil
spaces-additive (suc k) = subst (λ n. IsAdditiveLine (fill 32 (suc k)) n) (let e : 1 + k ≡ suc k = omega arith in e)
    (plain_line-append (plain_line-one 32 plain_column-space) (spaces-additive k))

mark-line : IsAdditiveLine mark 1
mark-line = subst (λ t. IsAdditiveLine t 1) mark-is (plain_line-one 0x2026 mark_column)

fits-marked : (n : ℕ) (line shown : List ℕ) → 0 < n → IsMarked (n - 1) line shown → FitsIn n shown
fits-marked n line shown some h =
    let k = n - 1 - h.columns in
    let suffix = fill 32 k ++ mark in
    let own : IsAdditiveLine suffix (k + 1) = plain_line-append (spaces-additive k) mark-line in
    let sum : sum_by line_columns (lines_of suffix) ≡ line_columns suffix + sum_by line_columns [] = ap (sum_by line_columns) (plain_line-lines own) ∙ sum_by-cons line_columns suffix [] in
    let none : sum_by line_columns [] ≡ 0 = refl in
    let within = h.whole.within in
    let columns = own.columns in
    subst (λ t. FitsIn n t) (sym h.marked)
    (fits-suffix h.columns n line h.front suffix (plain_text-line own) (omega (arith, sum, none, within, columns)) h.cut)

fits-narrower : (by : Bool) (n : ℕ) (line shown : List ℕ) → 0 < n → IsNarrower by n line shown → FitsIn n shown
fits-narrower true n line shown some h = fits-marked n line shown some h
fits-narrower false n line shown some h = fits-words n line shown h

fits-narrowed_line : (by : Bool) (n : ℕ) (line shown : List ℕ) → CanNarrow n line → IsNarrowedLine by n line shown → FitsIn n shown
fits-narrowed_line by n line shown c h = ⊎_elim
    (λ l. let some : 0 < n = ⊎_elim (λ le. absurd (omega arith)) (λ s. s) c.1 in
    fits-narrower by n line shown some (MatchBool-at_true (IsNarrower by n line shown) _ (lt-ltb n (line_columns line) l) h))
    (λ r. subst (λ t. FitsIn n t) (sym (MatchBool-at_false _ (shown ≡ line) (le-ltb n (line_columns line) r) h)) (fits-line c.0 r))
    (cases_lt n (line_columns line))

fits-parts : (by : Bool) (n : ℕ) (ls parts : List (List ℕ)) → AllZip (IsNarrowedLine by n) ls parts → All (CanNarrow n) ls → All (FitsIn n) parts
fits-parts by n [] [] z c = λ k d l. absurd (omega (arith, l))
fits-parts by n [] (p ∷ ps) z c = absurd z
fits-parts by n (l ∷ ls) [] z c = absurd z
fits-parts by n (l ∷ ls) (p ∷ ps) z c =
    All-cons (FitsIn n) p ps (fits-narrowed_line by n l p (All-head (CanNarrow n) l ls c) z.0) (fits-parts by n ls ps z.1 (All-tail (CanNarrow n) l ls c))

pub fits-narrowed : (by : Bool) (n : ℕ) (text shown : List ℕ) → IsUtf8 text → (text_columns text ≤ n) ⊎ (0 < n) → IsNarrowedText by n text shown
    → FitsIn n shown
fits-narrowed by n text shown u some h =
    let ls = lines_of text in
    let each : All (CanNarrow n) ls = λ k d l. subst (CanNarrow n) (get_or_default ls k [] d l)
    (line-each text u k l, ⊎_elim (λ le. let g = greatest-ge line_columns ls k [] l in inl (omega arith)) (λ s. inr s) some) in
    subst (λ t. FitsIn n t) (sym h.joined) (fits-joined n h.parts (fits-parts by n ls h.parts h.each each))

-- a text that can be narrowed to n columns
abbrev pub CanNarrowText : ℕ → List ℕ → Type 0
CanNarrowText n text = IsUtf8 text × ((text_columns text ≤ n) ⊎ (0 < n))

pub fits-all_narrowed : (by : Bool) (n : ℕ) (texts shown : List (List ℕ)) → AllZip (IsNarrowedText by n) texts shown → All (CanNarrowText n) texts
    → All (FitsIn n) shown
fits-all_narrowed by n [] [] z c = λ k d l. absurd (omega (arith, l))
fits-all_narrowed by n [] (s ∷ ss) z c = absurd z
fits-all_narrowed by n (t ∷ ts) [] z c = absurd z
fits-all_narrowed by n (t ∷ ts) (s ∷ ss) z c =
    let first = All-head (CanNarrowText n) t ts c in
    All-cons (FitsIn n) s ss (fits-narrowed by n t s first.0 first.1 z.0) (fits-all_narrowed by n ts ss z.1 (All-tail (CanNarrowText n) t ts c))

-- ---- records

pub fits-record : (layout : RecordLayout) (w : ℕ) (names : List (List ℕ)) (number : ℕ) (row : List (List ℕ)) (text : List ℕ) → layout.width ≡ Some w
    → layout.names + 3 + layout.values ≤ w → All (FitsIn layout.names) names → All (CanNarrowText layout.values) row
    → IsRecord layout names number row text → FitsIn w text
fits-record layout w names number row text e le fit can h =
    let head : FitsIn w h.head = fits-cut w _ h.head (subst (λ (o : Option ℕ). MatchOption o (h.head ≡ head_of layout number) (λ n. IsCut n (head_of layout number) h.head)) e h.is_head) in
    let values = fits-all_narrowed layout.cuts layout.values row h.values h.narrowed can in
    let lines = fits-fields layout.names layout.values w names h.values fit values le in
    subst (λ t. FitsIn w t) (sym h.joined)
    (fits-joined w (h.head ∷ fields_lines layout.names names h.values) (All-cons (FitsIn w) h.head (fields_lines layout.names names h.values) head lines))

-- ---- the columns of names and values

pub nine : LEAST_COLUMNS ≡ 9
nine = refl

pub laid-within : (w n v : ℕ) → least_width n v ≤ w → name_columns w n v + 3 + value_columns w n v ≤ w
laid-within w n v h =
    let half = div-le_self (w - 3) 2 in
    let k : (w - 3) / 2 ≡ (w - 3) / 2 = refl in
    omega (arith, half, nine)

names-enough : (w n v : ℕ) → least_width n v ≤ w → (n ≤ name_columns w n v) ⊎ (0 < name_columns w n v)
names-enough w n v h =
    let c = w - 3 in
    ⊎_elim
    (λ some. ⊎_elim (λ many. inr (omega arith)) (λ none. inl (omega arith)) (cases_lt 0 n))
    (λ none. let small : c < 2 = ⊎_elim (λ s. s) (λ large. let one = le-div 1 c 2 (lit< tt) (omega arith) in absurd (omega (arith, one))) (cases_lt c 2) in
    inl (omega (arith, nine, small)))
    (cases_lt 0 (c / 2))

values-enough : (w n v : ℕ) → least_width n v ≤ w → (v ≤ value_columns w n v) ⊎ (0 < value_columns w n v)
values-enough w n v h =
    let half = div-mul-le_self (w - 3) 2 in
    ⊎_elim (λ some. inr (omega (arith, half, nine))) (λ none. inl (omega arith)) (cases_lt 0 v)

-- ---- all records of a table

can-narrow : (n most : ℕ) (texts : List (List ℕ)) → All IsUtf8 texts → widest texts ≤ most → (most ≤ n) ⊎ (0 < n) → All (CanNarrowText n) texts
can-narrow n most texts u le some = λ k d l. (
  u k d l,
  ⊎_elim (λ all. let g = greatest-ge text_columns texts k d l in inl (omega arith)) (λ s. inr s) some,
)

pub records-fit : (by : Bool) (w n v : ℕ) (texts names : List (List ℕ)) (rows : List (List (List ℕ))) (layout : RecordLayout)
    → layout ≡ record_layout (Some w) by n v → CanLay (Some w) n v → All IsUtf8 texts → widest texts ≡ n
    → AllZip (IsNarrowedText layout.cuts layout.names) texts names → All (All IsUtf8) rows → widest_cell rows ≡ v
    → (index number : ℕ) (text : List ℕ) → index < length rows → IsRecord layout names number (get_or rows index []) text → FitsIn w text
records-fit by w n v texts names rows layout laid can u e narrowed us f index number text l h =
    let row = get_or rows index [] in
    let own : layout.names ≡ name_columns w n v = ap (λ (x : RecordLayout). x.names) laid in
    let other : layout.values ≡ value_columns w n v = ap (λ (x : RecordLayout). x.values) laid in
    let some_name = subst (λ k. (n ≤ k) ⊎ (0 < k)) (sym own) (names-enough w n v can) in
    let some_value = subst (λ k. (v ≤ k) ⊎ (0 < k)) (sym other) (values-enough w n v can) in
    let cell = greatest-ge widest rows index [] l in
    let fit = fits-all_narrowed layout.cuts layout.names texts names narrowed (can-narrow layout.names n texts u (omega (arith, e)) some_name) in
    let values = can-narrow layout.values v row (us index [] l) (omega (arith, cell, f)) some_value in
    let within = laid-within w n v can in
    fits-record layout w names number row text (ap (λ (x : RecordLayout). x.width) laid) (omega (arith, own, other, within)) fit values h

-- a layout of some columns
abbrev pub made : Bool → ℕ → ℕ → ℕ → RecordLayout
made cuts w names values = record { names = names; values = values; width = Some w; cuts = cuts }

-- a layout by the columns that were found
pub laid-so : (cuts : Bool) (w n v names values : ℕ) → names ≡ name_columns w n v → values ≡ value_columns w n v
    → made cuts w names values ≡ record_layout (Some w) cuts n v
laid-so cuts w n v names values e f = ap (λ k. made cuts w k values) e ∙ ap (λ k. made cuts w (name_columns w n v) k) f

pub least-so : (w n v needed least : ℕ) → needed ≡ min (2 ^ 64 - 1) (min (2 ^ 64 - 1) (n + 3) + v) → least ≡ min needed LEAST_COLUMNS → least ≤ w
    → least_width n v ≤ w
least-so w n v needed least e f h = omega (arith, e, f, nine)
