-- Lines that are written, and rows that are read.
use Rattle.std.proofs.Common.{◌≡◌, ℕ, zero, suc, ◌+◌, ◌-◌, ◌<◌, ◌≤◌, ◌^◌, Bool, min, true, false, List, [], ◌∷◌, ◌++◌, Option, Some, None, length, map, drop, refl, sym, ap, subst, ◌∙◌, arith, append_assoc, decimal, length-append}
use Rattle.std.specs.Borrow.{Bor}
use Rattle.std.specs.Iterator.{Yields}
use Rattle.std.specs.VecDeque.{deque_len}
use Rattle.std.specs.List.{AllZip}
use Rattle.std.proofs.Math.Seq.{drop-nil, take-nil}
use Rattle.std.proofs.lemmas.List.{append-nil, length-drop, map-append}
use Rattle.std.specs.Option.{option_to_list}
use Rattle.std.specs.Prelude.{if◌then◌else◌, is_some}
use Rattle.tabled_base.specs.Cells.{lengthened_rows}
use Rattle.tabled_records.specs.Joined.{Written, with_row_ended}
use Rattle.tabview_cells.specs.Choice.{with_texts}
use Rattle.tabview_read.proofs.Selected.{shown-count, shown-few, waiting-adds, waiting-few, waiting-skips, written-adds, written-skips}
use Rattle.tabview_read.specs.Selection.{first_count, has_first, last, shown_rows, waiting, written}
use Rattle.tabview_read.specs.Sheets.{HasLines, HasRows, IsWidened, Line, ShowsLine, ShowsRows, is_full, lines_of, name_lines, row_line}
use Rattle.tabview_read.specs.Shown.{shown_cells, texts_of}
use Rattle.tabview_read.specs.declared.row.Row.{Row}
use Rattle.tabview_read.specs.declared.selector.Selector.{Selector}
use Rattle.tabview_read.specs.declared.sheet.Collector.{Collector}
use Rattle.tabview_read.specs.declared.sheet.Sheet.{Sheet}
use Rattle.tabview_read.specs.declared.sheet.Wanted.{Wanted}

pub AllZip-one_more : {A B : Type 0} (R : A → B → Type 0) (xs : List A) (ys : List B) (x : A) (y : B) → AllZip R xs ys → R x y → AllZip R (xs ++ x ∷ []) (ys ++ y ∷ [])
AllZip-one_more R [] [] x y all one = (one, tt)
AllZip-one_more R [] (v ∷ ys) x y all one = absurd all
AllZip-one_more R (u ∷ xs) [] x y all one = absurd all
AllZip-one_more R (u ∷ xs) (v ∷ ys) x y all one = (all.0, AllZip-one_more R xs ys x y all.1 one)

AllZip-weaker : {A B : Type 0} (R Q : A → B → Type 0) → ((x : A) (y : B) → R x y → Q x y) → (xs : List A) (ys : List B) → AllZip R xs ys → AllZip Q xs ys
AllZip-weaker R Q h [] [] all = tt
AllZip-weaker R Q h [] (y ∷ ys) all = absurd all
AllZip-weaker R Q h (x ∷ xs) [] all = absurd all
AllZip-weaker R Q h (x ∷ xs) (y ∷ ys) all = (h x y all.0, AllZip-weaker R Q h xs ys all.1)

ShowsLine-later : (w : Wanted) (all more : List ℕ) (line : Line) (texts : List (List ℕ)) → ShowsLine w all line texts → ShowsLine w (all ++ more) line texts
ShowsLine-later w all more line texts s = record { columns = s.columns; later = s.later ++ more; first = ap (λ l. l ++ more) s.first ∙ append_assoc s.columns s.later more; texts = s.texts }

ShowsLine-now : (w : Wanted) (all : List ℕ) (line : Line) → ShowsLine w all line (texts_of w.numbers line.0 w.shown line.1 all)
ShowsLine-now w all line = record { columns = all; later = []; first = sym (append-nil all); texts = refl }

pub HasLines-none : (w : Wanted) (c : Collector) → c.wanted.now ≡ w → c.writer ≡ record { rows = []; begun = [] } → HasLines w [] c
HasLines-none w c same is = record {
  wanted = same;
  begun = ap (λ (v : Written). v.begun) is;
  lines = subst (λ (v : Written). AllZip (ShowsLine w c.chosen.columns.items) [] v.rows) (sym is) tt;
}

pub HasLines-wider : (w : Wanted) (lines : List Line) (old new : Collector) → HasLines w lines old → IsWidened old new → HasLines w lines new
HasLines-wider w lines old new has wide =
    let columns = old.chosen.columns.items in
    let later = AllZip-weaker (ShowsLine w columns) (ShowsLine w (columns ++ wide.columns.more)) (ShowsLine-later w columns wide.columns.more) lines old.writer.rows has.lines in
    let now = subst (λ (all : List ℕ). AllZip (ShowsLine w all) lines old.writer.rows) (sym wide.columns.is) later in
    record {
      wanted = ap (λ (b : Bor Wanted). b.now) wide.wanted ∙ has.wanted;
      begun = ap (λ (v : Written). v.begun) wide.writer ∙ has.begun;
      lines = subst (λ (v : Written). AllZip (ShowsLine w new.chosen.columns.items) lines v.rows) (sym wide.writer) now;
    }

pub HasLines-more : (w : Wanted) (lines : List Line) (line : Line) (old new : Collector) → HasLines w lines old → new.wanted ≡ old.wanted → new.chosen.columns.items ≡ old.chosen.columns.items
    → new.writer ≡ with_row_ended (with_texts old.writer (texts_of old.wanted.now.numbers line.0 old.wanted.now.shown line.1 old.chosen.columns.items)) → HasLines w (lines ++ line ∷ []) new
HasLines-more w lines line old new has same columns is =
    let all = old.chosen.columns.items in
    let texts = texts_of w.numbers line.0 w.shown line.1 all in
    let rows : new.writer.rows ≡ old.writer.rows ++ texts ∷ [] =
    ap (λ (v : Written). v.rows) is
    ∙ ap (λ (b : List (List ℕ)). old.writer.rows ++ (b ++ texts_of old.wanted.now.numbers line.0 old.wanted.now.shown line.1 all) ∷ []) has.begun
    ∙ ap (λ (v : Wanted). old.writer.rows ++ texts_of v.numbers line.0 v.shown line.1 all ∷ []) has.wanted in
    let more = AllZip-one_more (ShowsLine w all) lines old.writer.rows line texts has.lines (ShowsLine-now w all line) in
    let wider = subst (λ (cs : List ℕ). AllZip (ShowsLine w cs) (lines ++ line ∷ []) (old.writer.rows ++ texts ∷ [])) (sym columns) more in
    record {
      wanted = ap (λ (b : Bor Wanted). b.now) same ∙ has.wanted;
      begun = ap (λ (v : Written). v.begun) is;
      lines = subst (λ (rs : List (List (List ℕ))). AllZip (ShowsLine w new.chosen.columns.items) (lines ++ line ∷ []) rs) (sym rows) wider;
    }

pub HasLines-row : (w : Wanted) (lines : List Line) (row : ℕ × Row) (old new : Collector) → HasLines w lines old → new.wanted ≡ old.wanted → new.chosen.columns.items ≡ old.chosen.columns.items
    → new.writer ≡ with_row_ended (with_texts old.writer (texts_of old.wanted.now.numbers (decimal row.0) old.wanted.now.shown (shown_cells old.wanted.now.null.now row.1) old.chosen.columns.items))
    → HasLines w (lines ++ row_line w.null.now row ∷ []) new
HasLines-row w lines row old new has same columns is =
    subst (λ (v : Wanted). HasLines w (lines ++ row_line v.null.now row ∷ []) new) has.wanted
    (HasLines-more w lines (row_line old.wanted.now.null.now row) old new has same columns is)

-- the rows that are written begin with none, and end with all
pub HasLines-begun : (w : Wanted) (lines : List Line) (c : Collector) → HasLines w lines c → HasLines w (lines ++ map (row_line w.null.now) []) c
HasLines-begun w lines c has = subst (λ (ls : List Line). HasLines w ls c) (sym (append-nil lines)) has

pub HasLines-done : (w : Wanted) (lines : List Line) (done all : List (ℕ × Row)) (c : Collector) → done ≡ all → HasLines w (lines ++ map (row_line w.null.now) done) c → HasLines w (lines ++ map (row_line w.null.now) all) c
HasLines-done w lines done all c same has = subst (λ (rs : List (ℕ × Row)). HasLines w (lines ++ map (row_line w.null.now) rs) c) same has

-- one more row of those that are written
pub HasLines-next : (w : Wanted) (lines : List Line) (rows : List (ℕ × Row)) (row : ℕ × Row) (c : Collector) → HasLines w ((lines ++ map (row_line w.null.now) rows) ++ row_line w.null.now row ∷ []) c
    → HasLines w (lines ++ map (row_line w.null.now) (rows ++ row ∷ [])) c
HasLines-next w lines rows row c has =
    subst (λ (ls : List Line). HasLines w ls c)
    (append_assoc lines (map (row_line w.null.now) rows) (row_line w.null.now row ∷ []) ∙ ap (λ ls. lines ++ ls) (sym (map-append (row_line w.null.now) rows (row ∷ [])))) has

-- ---- rows

counted : (rows : List Row) (row : Row) (n : ℕ) → n ≡ length rows + 1 → n ≡ length (rows ++ row ∷ [])
counted rows row n e = e ∙ sym (length-append rows (row ∷ []))

-- no row is read
shown-none : (most tail : Option ℕ) → shown_rows {A = Row} most tail [] ≡ []
shown-none None None = refl
shown-none None (Some n) = drop-nil _
shown-none (Some m) None = take-nil m
shown-none (Some m) (Some n) = ap (λ (xs : List (ℕ × Row)). last (Some n) xs) (take-nil m) ∙ drop-nil _

written-none : (most tail : Option ℕ) → written {A = Row} most tail [] ≡ []
written-none most None = shown-none most None
written-none most (Some n) = refl

waiting-none : (most tail : Option ℕ) → waiting {A = Row} most tail [] ≡ []
waiting-none most None = refl
waiting-none most (Some n) = shown-none most (Some n)

pub HasRows-none : (w : Wanted) (names : Option (List (List ℕ))) (s : Selector) → HasLines w (name_lines names) s.collector → s.last.items ≡ [] → s.count ≡ 0 → s.has_names ≡ is_some names → HasRows w names [] s
HasRows-none w names s has none count named = record {
  lines = subst (λ (rs : List (ℕ × Row)). HasLines w (lines_of w.null.now names rs) s.collector) (sym (written-none w.rows w.tail)) (HasLines-begun w (name_lines names) s.collector has);
  last = none ∙ sym (waiting-none w.rows w.tail);
  count = count;
  has_names = named;
}

pub HasRows-begun : (w : Wanted) (names given : Option (List (List ℕ))) (s : Selector) (c : Collector) → names ≡ given → HasLines w (name_lines given) c → s.collector ≡ c → s.last.items ≡ [] → s.count ≡ 0 → s.has_names ≡ is_some given → HasRows w names [] s
HasRows-begun w names given s c same has is none count named =
    subst (λ (ns : Option (List (List ℕ))). HasRows w ns [] s) (sym same)
    (HasRows-none w given s (subst (λ (k : Collector). HasLines w (name_lines given) k) (sym is) has) none count named)

pub HasRows-skips : (w : Wanted) (names : Option (List (List ℕ))) (rows : List Row) (row : Row) (old new : Selector) → HasRows w names rows old → IsWidened old.collector new.collector
    → has_first w.rows (length rows) ≡ true → new.last.items ≡ old.last.items → new.count ≡ length rows + 1 → new.has_names ≡ old.has_names → HasRows w names (rows ++ row ∷ []) new
HasRows-skips w names rows row old new has wide enough kept count named = record {
  lines = subst (λ (rs : List (ℕ × Row)). HasLines w (lines_of w.null.now names rs) new.collector) (written-skips w.rows w.tail rows row enough) (HasLines-wider w _ old.collector new.collector has.lines wide);
  last = kept ∙ has.last ∙ waiting-skips w.rows w.tail rows row enough;
  count = counted rows row new.count count;
  has_names = named ∙ has.has_names;
}

pub HasRows-keeps : (w : Wanted) (names : Option (List (List ℕ))) (rows : List Row) (row : Row) (n : ℕ) (old new : Selector) → HasRows w names rows old → IsWidened old.collector new.collector
    → has_first w.rows (length rows) ≡ false → w.tail ≡ Some n → new.last.items ≡ last (Some n) (old.last.items ++ (new.count, row) ∷ []) → new.count ≡ length rows + 1
    → new.has_names ≡ old.has_names → HasRows w names (rows ++ row ∷ []) new
HasRows-keeps w names rows row n old new has wide few tail kept count named = record {
  lines = subst (λ (t : Option ℕ). HasLines w (lines_of w.null.now names (written w.rows t (rows ++ row ∷ []))) new.collector) (sym tail)
      (subst (λ (t : Option ℕ). HasLines w (lines_of w.null.now names (written w.rows t rows)) new.collector) tail (HasLines-wider w _ old.collector new.collector has.lines wide));
  last = kept ∙ ap (λ (k : ℕ). last (Some n) (old.last.items ++ (k, row) ∷ [])) count ∙ ap (λ (ks : List (ℕ × Row)). last (Some n) (ks ++ (length rows + 1, row) ∷ [])) (has.last ∙ ap (λ (t : Option ℕ). waiting w.rows t rows) tail)
      ∙ waiting-adds w.rows n rows row few ∙ ap (λ (t : Option ℕ). waiting w.rows t (rows ++ row ∷ [])) (sym tail);
  count = counted rows row new.count count;
  has_names = named ∙ has.has_names;
}

pub HasRows-writes : (w : Wanted) (names : Option (List (List ℕ))) (rows : List Row) (row : Row) (old : Selector) (wider : Collector) (new : Selector) → HasRows w names rows old → IsWidened old.collector wider
    → has_first w.rows (length rows) ≡ false → w.tail ≡ None → new.collector.wanted ≡ wider.wanted → new.collector.chosen.columns.items ≡ wider.chosen.columns.items
    → new.collector.writer ≡ with_row_ended (with_texts wider.writer (texts_of wider.wanted.now.numbers (decimal new.count) wider.wanted.now.shown (shown_cells wider.wanted.now.null.now row) wider.chosen.columns.items))
    → new.last.items ≡ old.last.items → new.count ≡ length rows + 1 → new.has_names ≡ old.has_names → HasRows w names (rows ++ row ∷ []) new
HasRows-writes w names rows row old wider new has wide few tail same columns is kept count named =
    let before = subst (λ (t : Option ℕ). HasLines w (lines_of w.null.now names (written w.rows t rows)) wider) tail (HasLines-wider w _ old.collector wider has.lines wide) in
    let this = HasLines-next w (name_lines names) (written w.rows None rows) (new.count, row) new.collector (HasLines-row w _ (new.count, row) wider new.collector before same columns is) in
    let one = subst (λ (k : ℕ). HasLines w (name_lines names ++ map (row_line w.null.now) (written w.rows None rows ++ (k, row) ∷ [])) new.collector) count this in
    record {
      lines = subst (λ (t : Option ℕ). HasLines w (lines_of w.null.now names (written w.rows t (rows ++ row ∷ []))) new.collector) (sym tail)
          (subst (λ (rs : List (ℕ × Row)). HasLines w (lines_of w.null.now names rs) new.collector) (written-adds w.rows rows row few) one);
      last = kept ∙ has.last ∙ ap (λ (t : Option ℕ). waiting w.rows t rows) tail ∙ ap (λ (t : Option ℕ). waiting w.rows t (rows ++ row ∷ [])) (sym tail);
      count = counted rows row new.count count;
      has_names = named ∙ has.has_names;
    }

-- what a selector has by then
pub first-is : (w : Wanted) (names : Option (List (List ℕ))) (rows : List Row) (s : Selector) (found : Collector) (r b : Bool) → HasRows w names rows s → found.wanted ≡ s.collector.wanted
    → r ≡ has_first found.wanted.now.rows s.count → r ≡ b → has_first w.rows (length rows) ≡ b
first-is w names rows s found r b has same is h =
    let e : found.wanted.now ≡ w = ap (λ (v : Bor Wanted). v.now) same ∙ has.lines.wanted in
    sym (ap (λ (v : Wanted). has_first v.rows (length rows)) e) ∙ sym (ap (λ (n : ℕ). has_first found.wanted.now.rows n) has.count) ∙ sym is ∙ h

pub tail-is : (w : Wanted) (names : Option (List (List ℕ))) (rows : List Row) (s : Selector) (found : Collector) (t : Option ℕ) → HasRows w names rows s → found.wanted ≡ s.collector.wanted → found.wanted.now.tail ≡ t → w.tail ≡ t
tail-is w names rows s found t has same h = sym (ap (λ (v : Bor Wanted). v.now.tail) same ∙ ap (λ (v : Wanted). v.tail) has.lines.wanted) ∙ h

pub last-few : (w : Wanted) (names : Option (List (List ℕ))) (rows : List Row) (s : Selector) (n : ℕ) → HasRows w names rows s → w.tail ≡ Some n → length s.last.items ≤ n
last-few w names rows s n has tail =
    let size : length s.last.items ≡ length (waiting w.rows (Some n) rows) = ap length (has.last ∙ ap (λ (t : Option ℕ). waiting w.rows t rows) tail) in
    let few = waiting-few w.rows n rows in
    omega arith

pub next_count : (n k r : ℕ) → r ≡ min (n + 1) (2 ^ 64 - 1) → n ≡ k → k < 2 ^ 64 - 1 → r ≡ k + 1
next_count n k r e same few = omega arith

pub full-is : (w : Wanted) (names : Option (List (List ℕ))) (rows : List Row) (s : Selector) (r : Bool) → HasRows w names rows s → r ≡ is_full s.collector.wanted.now s.count → r ≡ true → is_full w (length rows) ≡ true
full-is w names rows s r has is h =
    sym (ap (λ (v : Wanted). is_full v (length rows)) has.lines.wanted) ∙ sym (ap (λ (n : ℕ). is_full s.collector.wanted.now n) has.count) ∙ sym is ∙ h

pub longer : {A : Type 0} (xs : List A) (x : A) (n : ℕ) → length xs ≡ n → length (xs ++ x ∷ []) ≡ n + 1
longer xs x n e = let more = length-append xs (x ∷ []) in omega arith

-- how many rows are shown
pub shown-last : (w : Wanted) (names : Option (List (List ℕ))) (rows : List Row) (s : Selector) (n : ℕ) → HasRows w names rows s → w.tail ≡ Some n → deque_len s.last ≡ length (shown_rows w.rows w.tail rows)
shown-last w names rows s n has tail =
    s.last.ok.0 ∙ ap length (has.last ∙ ap (λ (t : Option ℕ). waiting w.rows t rows) tail ∙ ap (λ (t : Option ℕ). shown_rows w.rows t rows) (sym tail))

pub shown-first : (w : Wanted) (names : Option (List (List ℕ))) (rows : List Row) (s : Selector) (r : ℕ) → HasRows w names rows s → w.tail ≡ None → r ≡ first_count s.collector.wanted.now.rows s.count
    → r ≡ length (shown_rows w.rows w.tail rows)
shown-first w names rows s r has tail is =
    is ∙ ap (λ (k : ℕ). first_count s.collector.wanted.now.rows k) has.count ∙ ap (λ (v : Wanted). first_count v.rows (length rows)) has.lines.wanted
    ∙ shown-count w.rows rows ∙ ap (λ (t : Option ℕ). length (shown_rows w.rows t rows)) (sym tail)

-- ---- the end

lines-all : (null : List ℕ) (names : Option (List (List ℕ))) (most tail : Option ℕ) (rows : List Row)
    → lines_of null names (written most tail rows) ++ map (row_line null) (waiting most tail rows) ≡ lines_of null names (shown_rows most tail rows)
lines-all null names most None rows = append-nil (lines_of null names (shown_rows most None rows))
lines-all null names most (Some n) rows = ap (λ (ls : List Line). ls ++ map (row_line null) (waiting most (Some n) rows)) (append-nil (name_lines names))

pub HasRows-all : (w : Wanted) (names : Option (List (List ℕ))) (rows : List Row) (s : Selector) (c : Collector) → HasRows w names rows s
    → ((v : Wanted) (lines : List Line) → HasLines v lines s.collector → HasLines v (lines ++ map (row_line v.null.now) s.last.items) c)
    → HasLines w (lines_of w.null.now names (shown_rows w.rows w.tail rows)) c
HasRows-all w names rows s c has writes =
    subst (λ (ls : List Line). HasLines w ls c)
    (ap (λ (ks : List (ℕ × Row)). lines_of w.null.now names (written w.rows w.tail rows) ++ map (row_line w.null.now) ks) has.last ∙ lines-all w.null.now names w.rows w.tail rows)
    (writes w _ has.lines)

pub ShowsRows-from : (w : Wanted) (names : Option (List (List ℕ))) (rows : List Row) (s : Selector) (c : Collector) (sheet : Sheet) → HasRows w names rows s
    → HasLines w (lines_of w.null.now names (shown_rows w.rows w.tail rows)) c → sheet.records ≡ lengthened_rows c.writer.rows → sheet.columns.items ≡ c.chosen.columns.items
    → sheet.has_names ≡ s.has_names → sheet.hidden ≡ s.count - length (shown_rows w.rows w.tail rows) → ShowsRows w names rows sheet
ShowsRows-from w names rows s c sheet has lines records columns named hides =
    let few = shown-few w.rows w.tail rows in
    let count = has.count in
    record {
      texts = c.writer.rows;
      lines = subst (λ (all : List ℕ). AllZip (ShowsLine w all) (lines_of w.null.now names (shown_rows w.rows w.tail rows)) c.writer.rows) (sym columns) lines.lines;
      records = records;
      has_names = named ∙ has.has_names;
      hidden = omega arith;
    }

-- ---- what a source gave

pub Yields-more : {S A : Type 0} (steps : S → Option A → S → Type 0) (from mid to : S) (xs : List A) (x : A) → Yields steps from xs mid → steps mid (Some x) to → Yields steps from (xs ++ x ∷ []) to
Yields-more steps from mid to [] x come step = (to, subst (λ s. steps s (Some x) to) (sym come) step, refl)
Yields-more steps from mid to (y ∷ xs) x come step = (come.0, come.1, Yields-more steps come.0 mid to xs x come.2 step)

pub gives-row : {S : Type 0} (gives : S → Option Row → S → Type 0) (s t : S) (row : Row) (b : Bool) → b ≡ true → gives s (if b then Some row else None) t → gives s (Some row) t
gives-row gives s t row true e h = h
gives-row gives s t row false e h = absurd (cc)

pub gives-none : {S : Type 0} (gives : S → Option Row → S → Type 0) (s t : S) (row : Row) (b : Bool) → b ≡ false → gives s (if b then Some row else None) t → gives s None t
gives-none gives s t row true e h = absurd (cc)
gives-none gives s t row false e h = h

-- a list that is as long without its first item has none
all_popped : {A : Type 0} (xs : List A) → xs ≡ drop 1 xs → xs ≡ []
all_popped [] e = refl
all_popped (x ∷ xs) e = let size : length (x ∷ xs) ≡ length (drop 1 (x ∷ xs)) = ap length e in let less = length-drop 1 (x ∷ xs) in absurd (omega arith)

pub popped-last : {A : Type 0} (all done xs ys : List A) (o : Option A) → o ≡ None → all ≡ done ++ xs → xs ≡ option_to_list o ++ ys → ys ≡ drop 1 xs → done ≡ all
popped-last all done xs ys None none is same rest = sym (is ∙ ap (λ l. done ++ l) (all_popped xs (same ∙ rest)) ∙ append-nil done)
popped-last all done xs ys (Some x) none is same rest = absurd (cc)

pub popped-one : {A : Type 0} (all done xs ys : List A) (x : A) (o : Option A) → o ≡ Some x → all ≡ done ++ xs → xs ≡ option_to_list o ++ ys → all ≡ (done ++ x ∷ []) ++ ys
popped-one all done xs ys x o some is one = is ∙ ap (λ l. done ++ l) (one ∙ ap (λ p. option_to_list p ++ ys) some) ∙ sym (append_assoc done (x ∷ []) ys)
