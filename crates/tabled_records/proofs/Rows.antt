-- Rows whose texts stand in one list.
use Rattle.tabled_records.proofs.Names.{All-append, All-cons, All-head, All-nil, All-tail, AreRanges, IsRectangular, List, [], ap, arith}
use Rattle.tabled_records.proofs.Names.{cell_at, tab_separated, columns, drop, drop-append-le, drop-append_seam, get_or, get_or-drop}
use Rattle.tabled_records.proofs.Names.{get_or-take, get_or_append_left, greatest, length, length-append, length-drop, length-lengthened}
use Rattle.tabled_records.proofs.Names.{length-map, length-take, lengthened, lengthened_rows, longest_range, map, map-append, max}
use Rattle.tabled_records.proofs.Names.{most_cells, part, parts, refl, replicate, rows_in, suc, sym, take, take-append-le, take-length}
use Rattle.tabled_records.proofs.Names.{with_record, zero, ℕ, ◌++◌, ◌+◌, ◌-◌, ◌<◌, ◌∙◌, ◌∷◌, ◌≡◌, ◌≤◌}
use Rattle.std.proofs.lemmas.List.{get_or-append_right, get_or-map}
use Rattle.std.proofs.lemmas.Simd.{map-map}
use Rattle.tabled_base.proofs.Lengthening.{lengthened-rectangular}
use Rattle.tabled_base.proofs.LengthenedRows.{lengthened_rows-more, rectangular-longest}
use Rattle.tabled_base.specs.Cells.{longest}
use Rattle.tabled_records.specs.Joined.{AreWritten, Written, with_text, written_in}

length-part : {A : Type 0} (texts : List A) (range : ℕ × ℕ) → range.0 + range.1 ≤ length texts → length (part texts range) ≡ range.1
length-part texts range h = omega (arith, length-take range.1 (drop range.0 texts), length-drop range.0 texts)

pub length-rows : (texts : List (List ℕ)) (ranges : List (ℕ × ℕ)) → length (rows_in texts ranges) ≡ length ranges
length-rows texts ranges = length-map (parts texts ranges) (lengthened (longest (parts texts ranges))) ∙ length-map ranges (part texts)

-- further texts leave a row that is there
part-append : {A : Type 0} (texts more : List A) (range : ℕ × ℕ) → range.0 + range.1 ≤ length texts → part (texts ++ more) range ≡ part texts range
part-append texts more range h =
    ap (take range.1) (drop-append-le range.0 texts more (omega arith))
    ∙ take-append-le range.1 (drop range.0 texts) more (omega (arith, length-drop range.0 texts))

pub parts-append : {A : Type 0} (texts more : List A) (ranges : List (ℕ × ℕ)) → AreRanges (length texts) ranges → parts (texts ++ more) ranges ≡ parts texts ranges
parts-append texts more [] h = refl
parts-append texts more (range ∷ ranges) h =
    let own = All-head (λ range. range.0 + range.1 ≤ length texts) range ranges h in
    ap (λ row. row ∷ parts (texts ++ more) ranges) (part-append texts more range own)
    ∙ ap (λ rows. part texts range ∷ rows) (parts-append texts more ranges (All-tail (λ range. range.0 + range.1 ≤ length texts) range ranges h))

-- the row whose texts are all from one on
pub part-last : {A : Type 0} (texts : List A) (range : ℕ × ℕ) → range.0 + range.1 ≡ length texts → part texts range ≡ drop range.0 texts
part-last texts range e =
    let rest = drop range.0 texts in
    let count : range.1 ≡ length rest = omega (arith, length-drop range.0 texts) in
    ap (λ n. take n rest) count ∙ take-length rest

pub ranges-grown : (count more : ℕ) (ranges : List (ℕ × ℕ)) → AreRanges count ranges → count ≤ more → AreRanges more ranges
ranges-grown count more ranges h c = λ k d l. let old = h k d l in omega arith

pub ranges-next : (count more : ℕ) (ranges : List (ℕ × ℕ)) (range : ℕ × ℕ) → AreRanges count ranges → count ≤ more → range.0 + range.1 ≤ more
    → AreRanges more (ranges ++ range ∷ [])
ranges-next count more ranges range h c own =
    All-append (λ range. range.0 + range.1 ≤ more) ranges (range ∷ []) (ranges-grown count more ranges h c)
    (All-cons (λ range. range.0 + range.1 ≤ more) range [] own (All-nil (λ range. range.0 + range.1 ≤ more)))

-- how long the longest row is
pub longest-next : (ranges : List (ℕ × ℕ)) (range : ℕ × ℕ) → longest_range (ranges ++ range ∷ []) ≡ max (longest_range ranges) range.1
longest-next [] range = omega arith
longest-next (first ∷ ranges) range = omega (arith, longest-next ranges range)

pub longest-parts : {A : Type 0} (texts : List A) (ranges : List (ℕ × ℕ)) → AreRanges (length texts) ranges
    → longest_range ranges ≡ greatest (map length (parts texts ranges))
longest-parts texts [] h = refl
longest-parts texts (range ∷ ranges) h =
    let own = length-part texts range (All-head (λ range. range.0 + range.1 ≤ length texts) range ranges h) in
    omega (arith, own, longest-parts texts ranges (All-tail (λ range. range.0 + range.1 ≤ length texts) range ranges h))

columns-longest : (rows : List (List (List ℕ))) → longest rows ≡ columns (lengthened_rows rows)
columns-longest [] = refl
columns-longest (row ∷ rows) = omega (arith, length-lengthened (longest (row ∷ rows)) row)

pub rows-columns : (texts : List (List ℕ)) (ranges : List (ℕ × ℕ)) → AreRanges (length texts) ranges → longest_range ranges ≡ columns (rows_in texts ranges)
rows-columns texts ranges h = longest-parts texts ranges h ∙ columns-longest (parts texts ranges)

-- rows stay where texts are added
pub rows-kept : (texts added new : List (List ℕ)) (ranges : List (ℕ × ℕ)) → AreRanges (length texts) ranges → new ≡ texts ++ added
    → rows_in new ranges ≡ rows_in texts ranges
rows-kept texts added new ranges h e = ap (λ t. rows_in t ranges) e ∙ ap lengthened_rows (parts-append texts added ranges h)

pub ranges-kept : {A : Type 0} (texts added new : List A) (ranges : List (ℕ × ℕ)) → AreRanges (length texts) ranges → new ≡ texts ++ added
    → AreRanges (length new) ranges
ranges-kept texts added new ranges h e = ranges-grown (length texts) (length new) ranges h (omega (arith, ap length e, length-append texts added))

-- the added texts are a further row
pub parts-added : {A : Type 0} (texts added new : List A) (ranges all : List (ℕ × ℕ)) (start count : ℕ) → AreRanges (length texts) ranges
    → new ≡ texts ++ added → start ≡ length texts → count ≡ length added → all ≡ ranges ++ (start, count) ∷ []
    → parts new all ≡ parts texts ranges ++ added ∷ []
parts-added texts added new ranges all start count h e first more last =
    let own : part (texts ++ added) (start, count) ≡ added =
    part-last (texts ++ added) (start, count) (omega (arith, first, more, length-append texts added))
    ∙ ap (λ n. drop n (texts ++ added)) first ∙ drop-append_seam texts added in
    ap (λ t. parts t all) e ∙ ap (parts (texts ++ added)) last
    ∙ map-append (part (texts ++ added)) ranges ((start, count) ∷ [])
    ∙ ap (λ rows. rows ++ part (texts ++ added) (start, count) ∷ []) (parts-append texts added ranges h)
    ∙ ap (λ row. parts texts ranges ++ row ∷ []) own

pub rows-added : (texts added new : List (List ℕ)) (ranges all : List (ℕ × ℕ)) (start count : ℕ) → AreRanges (length texts) ranges → new ≡ texts ++ added
    → start ≡ length texts → count ≡ length added → all ≡ ranges ++ (start, count) ∷ [] → rows_in new all ≡ with_record (rows_in texts ranges) added
rows-added texts added new ranges all start count h e first more last =
    ap lengthened_rows (parts-added texts added new ranges all start count h e first more last) ∙ sym (lengthened_rows-more (parts texts ranges) added)

pub ranges-added : {A : Type 0} (texts added new : List A) (ranges all : List (ℕ × ℕ)) (start count : ℕ) → AreRanges (length texts) ranges → new ≡ texts ++ added
    → start ≡ length texts → count ≡ length added → all ≡ ranges ++ (start, count) ∷ [] → AreRanges (length new) all
ranges-added texts added new ranges all start count h e first more last =
    let grown = ap length e ∙ length-append texts added in
    rw last (ranges-next (length texts) (length new) ranges (start, count) h (omega (arith, grown)) (omega (arith, grown, first, more)))

-- a text that is written goes to the row that is begun
pub text-written : (texts new : List (List ℕ)) (ranges : List (ℕ × ℕ)) (ended : ℕ) (text : List ℕ) → AreWritten texts ranges ended
    → new ≡ texts ++ text ∷ [] → written_in new ranges ended ≡ with_text (written_in texts ranges ended) text
text-written texts new ranges ended text h e =
    let both : List (List (List ℕ)) → List (List ℕ) → Written = λ rows begun. record { rows = rows; begun = begun } in
    ap (λ t. written_in t ranges ended) e
    ∙ ap (λ rows. both rows (drop ended (texts ++ text ∷ []))) (parts-append texts (text ∷ []) ranges h.inside)
    ∙ ap (both (parts texts ranges)) (drop-append-le ended texts (text ∷ []) h.within)

-- equally long rows are as long as the longest
longest-columns : (rows : List (List (List ℕ))) → IsRectangular rows → longest rows ≤ columns rows
longest-columns [] h = omega arith
longest-columns (row ∷ rows) h =
    All-head (λ r. longest (row ∷ rows) ≤ length r) row rows (rectangular-longest (row ∷ rows) h)

pub rectangular-same : (rows : List (List (List ℕ))) → IsRectangular rows → lengthened_rows rows ≡ rows
rectangular-same rows h = lengthened-rectangular (longest rows) rows h (longest-columns rows h)

-- the cells of lines are lengthened to those of the longest line
pub rows-lines : (lines : List (List ℕ)) → lengthened_rows (map tab_separated lines) ≡ map (λ line. lengthened (most_cells lines) (tab_separated line)) lines
rows-lines lines =
    map-map (lengthened (longest (map tab_separated lines))) tab_separated lines
    ∙ ap (λ n. map (λ line. lengthened n (tab_separated line)) lines) (ap greatest (map-map length tab_separated lines))

-- a cell that doesn't only lengthen its row
pub cell-there : (texts : List (List ℕ)) (ranges : List (ℕ × ℕ)) (row column : ℕ) (d : ℕ × ℕ) → AreRanges (length texts) ranges
    → row < length ranges → column < (get_or ranges row d).1 → get_or texts ((get_or ranges row d).0 + column) [] ≡ cell_at (rows_in texts ranges) row column
cell-there texts ranges row column d h r c =
    let n = longest (parts texts ranges) in
    let range = get_or ranges row d in
    let own = part texts range in
    let size = length-part texts range (h row d r) in
    sym
    (ap (λ rows. cell_at rows row column) (map-map (lengthened n) (part texts) ranges)
    ∙ ap (λ cells. get_or cells column []) (get_or-map (λ range. lengthened n (part texts range)) ranges row d [] r)
    ∙ get_or_append_left own (replicate (n - length own) []) [] column (omega (arith, c, size))
    ∙ get_or-take range.1 (drop range.0 texts) column [] c ∙ get_or-drop range.0 texts column [])

-- a cell that only lengthens its row is empty
pub cell-behind : (texts : List (List ℕ)) (ranges : List (ℕ × ℕ)) (row column : ℕ) (d : ℕ × ℕ) → AreRanges (length texts) ranges
    → row < length ranges → (get_or ranges row d).1 ≤ column → cell_at (rows_in texts ranges) row column ≡ []
cell-behind texts ranges row column d h r c =
    let n = longest (parts texts ranges) in
    let range = get_or ranges row d in
    let own = part texts range in
    let count = n - length own in
    ap (λ rows. cell_at rows row column) (map-map (lengthened n) (part texts) ranges)
    ∙ ap (λ cells. get_or cells column []) (get_or-map (λ range. lengthened n (part texts range)) ranges row d [] r)
    ∙ get_or-append_right own (replicate count []) range.1 column [] (length-part texts range (h row d r)) c
    ∙ none count (column - range.1)
  where
    none : (k i : ℕ) → get_or {A = List ℕ} (replicate k []) i [] ≡ []
    none zero i = refl
    none (suc k) zero = refl
    none (suc k) (suc i) = none k i
