-- What holds while a text is cut into cells and rows.
use Rattle.tabled_records.proofs.Names.{All, All-append, All-cons, All-map, All-nil, AreKept, AreRanges, Bool, HasNo, IsCharBoundary, IsCharBoundary-after_ascii, IsUtf8}
use Rattle.tabled_records.proofs.Names.{List, [], ap, append_assoc, arith, behind, cases_lt, cell_at, drop, drop-append-le, false, get_or}
use Rattle.tabled_records.proofs.Names.{get_or-drop, get_or-take, is_in_range, length, length-append, length-drop, length-take, map-append}
use Rattle.tabled_records.proofs.Names.{lengthened, part, parts, refl, replicate, rows_in, slice_range, subst, sym, take, take-length, texts_from, true, ℕ, ◌++◌, ◌+◌, ◌-◌}
use Rattle.tabled_records.proofs.Names.{◌<◌, ◌==◌, ◌∙◌, ◌∷◌, ◌≡◌, ◌≤◌}
use Rattle.std.proofs.Common.{⊎_elim}
use Rattle.std.proofs.lemmas.Bool.Decides.{nat_tests}
use Rattle.std.proofs.lemmas.List.{drop_all, drop_more, get_or_default, get_or_past}
use Rattle.tabled_text.specs.Measure.{lines_of}
use Rattle.tabled_records.proofs.Joining.{told_empty}
use Rattle.std.proofs.lemmas.Str.{IsCharBoundary-start, IsUtf8-between, IsUtf8-nil}
use Rattle.std.proofs.lemmas.List.Folds.{drop_split}
use Rattle.std.proofs.lemmas.List.Elements.{All-drop, All-from_get_or, All-replicate, All-take}
use Rattle.std.proofs.lemmas.List.Sums.{list_all-from_AllPass}
use Rattle.tabled_base.specs.Cells.{longest}
use Rattle.tabled_records.specs.CutLentRows.{ArePrintable}
use Rattle.tabled_base.specs.Printable.{IsPrintableAscii}
use Rattle.tabled_records.specs.Joined.{AreJoined, IsLent}
use Rattle.tabled_records.proofs.Joining.{behind-next, kept-next, length-texts, texts-next}
use Rattle.tabled_records.proofs.Rows.{part-last, parts-append, ranges-grown, ranges-next}
use Rattle.tabled_records.proofs.RowsLeft.{prepended, prepended-more, prepended-none, rows-end, rows-feed, rows-tab, rows_of}

-- the cells and rows of a text so far: the next cell begins at a place, and the row's first one has an index
pub record IsCut (text : List ℕ) (cells ranges : List (ℕ × ℕ)) (start first : ℕ) : Type 0 where
  pub rows : parts (texts_from 1 text 0 cells) ranges ++ prepended (drop first (texts_from 1 text 0 cells)) (rows_of (drop start text)) ≡ rows_of text
  pub kept : AreKept 1 text cells []
  pub starts : start ≡ behind 1 0 cells
  pub begins : IsCharBoundary text start
  pub placed : AreRanges (length cells) ranges
  pub reached : first ≤ length cells

-- no cell ends between two places
pub record IsWithin (text : List ℕ) (start at : ℕ) : Type 0 where
  pub ordered : start ≤ at
  pub tabs : (k : ℕ) → start ≤ k → k < at → (get_or text k 0 == 9) ≡ false
  pub feeds : (k : ℕ) → start ≤ k → k < at → (get_or text k 0 == 10) ≡ false

-- what holds of each byte between two places
all-range : (P : ℕ → Type 0) (text : List ℕ) (start at : ℕ) → at ≤ length text → ((k : ℕ) → start ≤ k → k < at → P (get_or text k 0))
    → All P (slice_range text start at)
all-range P text start at l each =
    All-from_get_or P (slice_range text start at) 0
    (λ i k.
    let rest = drop start text in
    let near : i < at - start = omega (arith, k, length-take (at - start) rest) in
    subst P (sym (get_or-take (at - start) rest i 0 near ∙ get_or-drop start text i 0)) (each (start + i) (omega arith) (omega (arith, near))))

no-tab : (text : List ℕ) (start at : ℕ) → at ≤ length text → IsWithin text start at → HasNo 9 (slice_range text start at)
no-tab text start at l h = all-range (λ b. (b == 9) ≡ false) text start at l h.tabs

pub no-feed : (text : List ℕ) (start at : ℕ) → at ≤ length text → IsWithin text start at → HasNo 10 (slice_range text start at)
no-feed text start at l h = all-range (λ b. (b == 10) ≡ false) text start at l h.feeds

-- what is left, where a cell ends at a byte
left-at : (text : List ℕ) (start at : ℕ) → start ≤ at → at < length text
    → drop start text ≡ slice_range text start at ++ get_or text at 0 ∷ drop (at + 1) text
left-at text start at o l = drop_split text start at o ∙ ap (λ r. slice_range text start at ++ r) (drop_more text at 0 l)

cells-next : (text : List ℕ) (cells : List (ℕ × ℕ)) (columns start at : ℕ) → start ≡ behind 1 0 cells
    → texts_from 1 text 0 (cells ++ (at, columns) ∷ []) ≡ texts_from 1 text 0 cells ++ slice_range text start at ∷ []
cells-next text cells columns start at s =
    texts-next 1 text 0 cells (at, columns) ∙ ap (λ n. texts_from 1 text 0 cells ++ slice_range text n at ∷ []) (sym s)

-- a further cell is one line
pub lent-next : (text : List ℕ) (cells : List (ℕ × ℕ)) (start : ℕ) (cell : ℕ × ℕ) → AreKept 1 text cells [] → start ≡ behind 1 0 cells
    → IsLent text start cell → AreKept 1 text (cells ++ cell ∷ []) []
lent-next text cells start cell h s lent =
    let own = subst (λ n. IsLent text n cell) s lent in
    kept-next 1 text cells cell [] [] h own.joined (λ k l. refl) (get_or_past [] (length cells) 1 (omega arith) ∙ sym own.line)

-- the texts behind a cell, with a further one
drop-next : (texts : List (List ℕ)) (last : List ℕ) (first : ℕ) → first ≤ length texts → drop first (texts ++ last ∷ []) ≡ drop first texts ++ last ∷ []
drop-next texts last first h = drop-append-le first texts (last ∷ []) h

-- a tab ends a cell
pub cut-tab : (text : List ℕ) (cells ranges : List (ℕ × ℕ)) (start first at columns : ℕ) → IsUtf8 text → IsCut text cells ranges start first
    → IsWithin text start at → at < length text → get_or text at 0 ≡ 9 → IsLent text start (at, columns)
    → IsCut text (cells ++ (at, columns) ∷ []) ranges (at + 1) first
cut-tab text cells ranges start first at columns u was within l tab lent =
    let cell : ℕ × ℕ = (at, columns) in
    let texts = texts_from 1 text 0 cells in
    let last = slice_range text start at in
    let rest = drop (at + 1) text in
    let size = length-texts 1 text 0 cells in
    let reached = was.reached in
    let inside : AreRanges (length texts) ranges = ranges-grown (length cells) (length texts) ranges was.placed (omega (arith, size)) in
    let more = length-append cells (cell ∷ []) in
    let left : drop start text ≡ last ++ 9 ∷ rest = left-at text start at within.ordered l ∙ ap (λ b. last ++ b ∷ rest) tab in
    record {
      rows =
          rw (cells-next text cells columns start at was.starts)
          (ap (λ rs. rs ++ prepended (drop first (texts ++ last ∷ [])) (rows_of rest)) (parts-append texts (last ∷ []) ranges inside)
          ∙ ap (λ cs. parts texts ranges ++ prepended cs (rows_of rest)) (drop-next texts last first (omega (arith, size)))
          ∙ ap (λ rs. parts texts ranges ++ rs)
          (prepended-more (drop first texts) (last ∷ []) (rows_of rest)
          ∙ ap (prepended (drop first texts)) (sym (rows-tab last rest (no-tab text start at (omega arith) within) (no-feed text start at (omega arith) within)) ∙ ap rows_of (sym left)))
          ∙ was.rows);
      kept = lent-next text cells start cell was.kept was.starts lent;
      starts = sym (behind-next 1 0 cells cell);
      begins = IsCharBoundary-after_ascii text at u l (omega (arith, tab));
      placed = ranges-grown (length cells) (length (cells ++ cell ∷ [])) ranges was.placed (omega (arith, more));
      reached = omega (arith, more);
    }

-- the rows, where the last one ends with a cell
row-next : (text : List ℕ) (cells ranges : List (ℕ × ℕ)) (start first at columns count : ℕ) → IsCut text cells ranges start first
    → first + count ≡ length (cells ++ (at, columns) ∷ [])
    → parts (texts_from 1 text 0 (cells ++ (at, columns) ∷ [])) (ranges ++ (first, count) ∷ [])
    ≡ parts (texts_from 1 text 0 cells) ranges ++ (drop first (texts_from 1 text 0 cells) ++ slice_range text start at ∷ []) ∷ []
row-next text cells ranges start first at columns count was c =
    let range : ℕ × ℕ = (first, count) in
    let texts = texts_from 1 text 0 cells in
    let last = slice_range text start at in
    let size = length-texts 1 text 0 cells in
    let reached = was.reached in
    let inside : AreRanges (length texts) ranges = ranges-grown (length cells) (length texts) ranges was.placed (omega (arith, size)) in
    let own : part (texts ++ last ∷ []) range ≡ drop first texts ++ last ∷ [] =
    part-last (texts ++ last ∷ []) range (omega (arith, c, size, length-append cells ((at, columns) ∷ []), length-append texts (last ∷ [])))
    ∙ drop-next texts last first (omega (arith, size)) in
    rw (cells-next text cells columns start at was.starts)
    (map-append (part (texts ++ last ∷ [])) ranges (range ∷ [])
    ∙ ap (λ rs. rs ++ part (texts ++ last ∷ []) range ∷ []) (parts-append texts (last ∷ []) ranges inside)
    ∙ ap (λ r. parts texts ranges ++ r ∷ []) own)

-- all rows' cells are there, the last one's too
pub placed-next : (cells ranges : List (ℕ × ℕ)) (cell : ℕ × ℕ) (first count : ℕ) → AreRanges (length cells) ranges
    → first + count ≡ length (cells ++ cell ∷ []) → AreRanges (length (cells ++ cell ∷ [])) (ranges ++ (first, count) ∷ [])
placed-next cells ranges cell first count h e =
    ranges-next (length cells) (length (cells ++ cell ∷ [])) ranges (first, count) h (omega (arith, length-append cells (cell ∷ []))) (omega (arith, e))

-- a line feed ends a row
pub cut-feed : (text : List ℕ) (cells ranges : List (ℕ × ℕ)) (start first at columns count : ℕ) → IsUtf8 text → IsCut text cells ranges start first
    → IsWithin text start at → at < length text → get_or text at 0 ≡ 10 → IsLent text start (at, columns)
    → first + count ≡ length (cells ++ (at, columns) ∷ [])
    → IsCut text (cells ++ (at, columns) ∷ []) (ranges ++ (first, count) ∷ []) (at + 1) (length (cells ++ (at, columns) ∷ []))
cut-feed text cells ranges start first at columns count u was within l feed lent c =
    let cell : ℕ × ℕ = (at, columns) in
    let texts = texts_from 1 text 0 cells in
    let all = texts_from 1 text 0 (cells ++ cell ∷ []) in
    let last = slice_range text start at in
    let rest = drop (at + 1) text in
    let left : drop start text ≡ last ++ 10 ∷ rest = left-at text start at within.ordered l ∙ ap (λ b. last ++ b ∷ rest) feed in
    let none : drop (length (cells ++ cell ∷ [])) all ≡ [] =
    drop_all (length (cells ++ cell ∷ [])) all (omega (arith, length-texts 1 text 0 (cells ++ cell ∷ []))) in
    record {
      rows =
          ap (λ cs. parts all (ranges ++ (first, count) ∷ []) ++ prepended cs (rows_of rest)) none
          ∙ ap (λ rs. parts all (ranges ++ (first, count) ∷ []) ++ rs) (prepended-none (rows_of rest))
          ∙ ap (λ rs. rs ++ rows_of rest) (row-next text cells ranges start first at columns count was c)
          ∙ append_assoc (parts texts ranges) ((drop first texts ++ last ∷ []) ∷ []) (rows_of rest)
          ∙ ap (λ rs. parts texts ranges ++ prepended (drop first texts) rs)
          (sym (rows-feed last rest (no-tab text start at (omega arith) within) (no-feed text start at (omega arith) within)) ∙ ap rows_of (sym left))
          ∙ was.rows;
      kept = lent-next text cells start cell was.kept was.starts lent;
      starts = sym (behind-next 1 0 cells cell);
      begins = IsCharBoundary-after_ascii text at u l (omega (arith, feed));
      placed = placed-next cells ranges cell first count was.placed c;
      reached = omega arith;
    }

-- the end of the text ends the last row
pub rows-cut : (text : List ℕ) (cells ranges : List (ℕ × ℕ)) (start first columns count : ℕ) → IsCut text cells ranges start first
    → IsWithin text start (length text) → first + count ≡ length (cells ++ (length text, columns) ∷ [])
    → parts (texts_from 1 text 0 (cells ++ (length text, columns) ∷ [])) (ranges ++ (first, count) ∷ []) ≡ rows_of text
rows-cut text cells ranges start first columns count was within c =
    let texts = texts_from 1 text 0 cells in
    let last = slice_range text start (length text) in
    let left : last ≡ drop start text =
    ap (λ n. take n (drop start text)) (sym (length-drop start text)) ∙ take-length (drop start text) in
    row-next text cells ranges start first (length text) columns count was c
    ∙ ap (λ rs. parts texts ranges ++ prepended (drop first texts) rs) (sym (rows-end last (no-tab text start (length text) (omega arith) within) (no-feed text start (length text) (omega arith) within)) ∙ ap rows_of left)
    ∙ was.rows

-- before the first byte
pub cut-start : (text : List ℕ) → IsUtf8 text → IsCut text [] [] 0 0
cut-start text u = record {
  rows = prepended-none (rows_of text);
  kept = record { joined = tt; told = λ k l. absurd (omega arith) };
  starts = refl;
  begins = IsCharBoundary-start text u;
  placed = All-nil (λ range. range.0 + range.1 ≤ 0);
  reached = omega arith;
}

pub within-none : (text : List ℕ) (at : ℕ) → IsWithin text at at
within-none text at = record { ordered = omega arith; tabs = λ k a b. absurd (omega arith); feeds = λ k a b. absurd (omega arith) }

-- behind the last byte
pub within-end : (text bytes : List ℕ) (start at : ℕ) → at ≤ length bytes → length bytes ≤ at → IsWithin text start at
    → IsWithin text start (length bytes)
within-end text bytes start at le end h = subst (IsWithin text start) (omega (arith, le, end)) h

-- a run of bytes from the blank on ends no cell
pub within-run : (text : List ℕ) (start from end high : ℕ) → from ≤ end
    → ((k : ℕ) → from ≤ k → k < end → is_in_range 0x20 high (get_or text k 0) ≡ true) → IsWithin text start from → IsWithin text start end
within-run text start from end high o run h =
    let first = h.ordered in
    record {
      ordered = omega arith;
      tabs = λ k a b. ⊎_elim (λ less. h.tabs k a less) (λ more. let own = run k more b in grind (arith, nat_tests)) (cases_lt k from);
      feeds = λ k a b. ⊎_elim (λ less. h.feeds k a less) (λ more. let own = run k more b in grind (arith, nat_tests)) (cases_lt k from);
    }

-- a byte that ends no cell
pub within-more : (text : List ℕ) (start at : ℕ) → IsWithin text start at → (get_or text at 0 ≡ 9 → ⊥) → (get_or text at 0 ≡ 10 → ⊥)
    → IsWithin text start (at + 1)
within-more text start at h tab feed =
    let first = h.ordered in
    let own : (k byte : ℕ) → at ≤ k → k < at + 1 → (get_or text at 0 ≡ byte → ⊥) → (get_or text k 0 == byte) ≡ false
    = λ k byte a b no. let same : k ≡ at = omega arith in subst (λ i. (get_or text i 0 == byte) ≡ false) (sym same) (grind (arith, nat_tests, no)) in
    record {
      ordered = omega arith;
      tabs = λ k a b. ⊎_elim (λ less. h.tabs k a less) (λ more. own k 9 more b tab) (cases_lt k at);
      feeds = λ k a b. ⊎_elim (λ less. h.feeds k a less) (λ more. own k 10 more b feed) (cases_lt k at);
    }

-- a run of printable bytes is printable
pub printable-run : (text : List ℕ) (start end : ℕ) → end ≤ length text
    → ((k : ℕ) → start ≤ k → k < end → is_in_range 0x20 0x7E (get_or text k 0) ≡ true) → IsPrintableAscii (slice_range text start end)
printable-run text start end l run =
    list_all-from_AllPass (is_in_range 0x20 0x7E) (slice_range text start end) (all-range (λ b. is_in_range 0x20 0x7E b ≡ true) text start end l run)

-- the cells and rows so far, and the byte of the next cell that was reached
pub record IsSplit (text : List ℕ) (cells ranges : List (ℕ × ℕ)) (start first at : ℕ) (plain : Bool) : Type 0 where
  pub inside : at ≤ length text
  pub cut : IsCut text cells ranges start first
  pub within : IsWithin text start at
  pub printable : plain ≡ true → IsPrintableAscii (slice_range text start at)

-- a run of printable bytes is all of a cell so far
pub split-begun : (text bytes : List ℕ) (cells ranges : List (ℕ × ℕ)) (start first at : ℕ) (plain : Bool) → bytes ≡ text
    → IsCut text cells ranges start first → start ≤ at → at ≤ length bytes
    → ((k : ℕ) → start ≤ k → k < at → is_in_range 0x20 0x7E (get_or bytes k 0) ≡ true) → IsSplit text cells ranges start first at plain
split-begun text bytes cells ranges start first at plain same cut from ends run =
    let inside : at ≤ length text = omega (arith, ends, ap length same) in
    let own = subst (λ t. (k : ℕ) → start ≤ k → k < at → is_in_range 0x20 0x7E (get_or t k 0) ≡ true) same run in
    record {
      inside = inside;
      cut = cut;
      within = within-run text start start at 0x7E from own (within-none text start);
      printable = λ _. printable-run text start at inside own;
    }

-- ---- cells that are printable

-- a further cell is printable if its part of the text is
pub plain-next : (text : List ℕ) (cells : List (ℕ × ℕ)) (columns start at : ℕ) (all own : Bool) → start ≡ behind 1 0 cells
    → (all ≡ true → All IsPrintableAscii (texts_from 1 text 0 cells)) → (all ≡ true → own ≡ true)
    → (own ≡ true → IsPrintableAscii (slice_range text start at))
    → all ≡ true → All IsPrintableAscii (texts_from 1 text 0 (cells ++ (at, columns) ∷ []))
plain-next text cells columns start at all own s h this last plain =
    subst (All IsPrintableAscii) (sym (cells-next text cells columns start at s))
    (All-append IsPrintableAscii (texts_from 1 text 0 cells) (slice_range text start at ∷ []) (h plain)
    (All-cons IsPrintableAscii (slice_range text start at) [] (last (this plain)) (All-nil IsPrintableAscii)))

-- an item of a list, or one for where it ends
all-or : {X : Type 0} (P : X → Type 0) (xs : List X) (d : X) → P d → All P xs → (i : ℕ) → P (get_or xs i d)
all-or P xs d none h i = ⊎_elim (λ l. h i d l) (λ past. subst P (sym (get_or_past xs i d past)) none) (cases_lt i (length xs))

-- what holds of the empty text and of all texts holds of all cells
rows-all : (P : List ℕ → Type 0) (texts : List (List ℕ)) (ranges : List (ℕ × ℕ)) → P [] → All P texts
    → (row column : ℕ) → P (cell_at (rows_in texts ranges) row column)
rows-all P texts ranges none h row column =
    let n = longest (parts texts ranges) in
    let each : All (All P) (rows_in texts ranges) =
    All-map (All P) (lengthened n) (parts texts ranges)
    (All-map (λ row. All P (lengthened n row)) (part texts) ranges
    (λ k d l.
    let range = get_or ranges k d in
    let own = part texts range in
    All-append P own (replicate (n - length own) [])
    (All-take P range.1 (drop range.0 texts) (All-drop P range.0 texts h))
    (All-replicate P (n - length own) [] none))) in
    all-or P (get_or (rows_in texts ranges) row []) [] none (all-or (All P) (rows_in texts ranges) [] (All-nil P) each row) column

-- the cells of rows are printable if all texts are
pub rows-printable : (texts : List (List ℕ)) (ranges : List (ℕ × ℕ)) → All IsPrintableAscii texts → ArePrintable (rows_in texts ranges)
rows-printable texts ranges h = rows-all IsPrintableAscii texts ranges refl h

-- ---- cells that are texts

-- the parts of a text are texts
texts-utf8 : (gap : ℕ) (whole : List ℕ) (start : ℕ) (places : List (ℕ × ℕ)) → IsUtf8 whole → AreJoined gap whole start places
    → All IsUtf8 (texts_from gap whole start places)
texts-utf8 gap whole start [] u h = All-nil IsUtf8
texts-utf8 gap whole start (place ∷ places) u h =
    let own = h.0 in
    All-cons IsUtf8 (slice_range whole start place.0) (texts_from gap whole (place.0 + gap) places)
    (IsUtf8-between whole start place.0 u own.ordered own.begins own.ends) (texts-utf8 gap whole (place.0 + gap) places u h.1)

-- and so are the cells that they make up
pub rows-utf8 : (gap : ℕ) (whole : List ℕ) (places ranges : List (ℕ × ℕ)) → IsUtf8 whole → AreJoined gap whole 0 places
    → (row column : ℕ) → IsUtf8 (cell_at (rows_in (texts_from gap whole 0 places) ranges) row column)
rows-utf8 gap whole places ranges u h = rows-all IsUtf8 (texts_from gap whole 0 places) ranges IsUtf8-nil (texts-utf8 gap whole 0 places u h)

-- texts of one line each make up cells of one line
pub rows-lines : (gap : ℕ) (whole : List ℕ) (places ranges : List (ℕ × ℕ)) → AreKept gap whole places []
    → (row column : ℕ) → length (lines_of (cell_at (rows_in (texts_from gap whole 0 places) ranges) row column)) ≡ 1
rows-lines gap whole places ranges h =
    let texts = texts_from gap whole 0 places in
    rows-all (λ text. length (lines_of text) ≡ 1) texts ranges (sym (told_empty refl).high)
    (λ k d l. ap (λ text. length (lines_of text)) (get_or_default texts k d [] l) ∙ sym (h.told k l) ∙ get_or_past [] k 1 (omega arith))
