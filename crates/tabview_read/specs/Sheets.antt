-- Which lines a sheet has. A line is the text of its number, and its cells.
use Rattle.std.specs.Prelude.{◌≡◌, ℕ, ◌+◌, ◌-◌, ◌^◌, ◌⊎◌, Bool, true, false, List, [], ◌∷◌, ◌++◌, Option, Some, None, codes, decimal, if◌then◌else◌, is_some, length, map}
use Rattle.std.specs.Iterator.{Yields}
use Rattle.std.specs.List.{AllZip}
use Rattle.tabled_base.specs.Cells.{lengthened_rows}
use Rattle.tabview_read.specs.Selection.{Grows, has_first, shown_rows, waiting, written}
use Rattle.tabview_read.specs.Shown.{shown_cells, texts_of}
use Rattle.tabview_read.specs.declared.row.Row.{Row}
use Rattle.tabview_read.specs.declared.sheet.Collector.{Collector}
use Rattle.tabview_read.specs.declared.selector.Selector.{Selector}
use Rattle.tabview_read.specs.declared.sheet.Sheet.{Sheet}
use Rattle.tabview_read.specs.declared.sheet.Wanted.{Wanted}

abbrev pub Line : Type 0
Line = List ℕ × List (List ℕ)

-- the line of the names of the columns
abbrev pub name_lines : Option (List (List ℕ)) → List Line
name_lines None = []
name_lines (Some names) = (codes "#", names) ∷ []

-- the line of a row with its number
abbrev pub row_line : List ℕ → ℕ × Row → Line
row_line null row = (decimal row.0, shown_cells null row.1)

-- the line of the names, and those of rows
abbrev pub lines_of : List ℕ → Option (List (List ℕ)) → List (ℕ × Row) → List Line
lines_of null names rows = name_lines names ++ map (row_line null) rows

-- of a line these texts are shown: those of the columns that were found by then, the first of all
pub record ShowsLine (w : Wanted) (all : List ℕ) (line : Line) (shown : List (List ℕ)) : Type 0 where
  pub columns : List ℕ
  pub later : List ℕ
  pub first : all ≡ columns ++ later
  pub texts : shown ≡ texts_of w.numbers line.0 w.shown line.1 columns

-- whether n rows are enough
abbrev pub is_full : Wanted → ℕ → Bool
is_full w n = if w.count then false else has_first w.rows n

-- rows are read until there is none, or there are enough of them, or as many as can be counted
pub record ReadsRows {S : Type 0} (gives : S → Option Row → S → Type 0) (w : Wanted) (from : S) (rows : List Row) (to : S) : Type 0 where
  pub reached : S
  pub came : Yields gives from rows reached
  pub ended : gives reached None to ⊎ ((reached ≡ to) × ((is_full w (length rows) ≡ true) ⊎ (length rows ≡ 2 ^ 64 - 1)))

-- a sheet shows the names, and of all rows that were read those that are wanted
pub record ShowsRows (w : Wanted) (names : Option (List (List ℕ))) (rows : List Row) (sheet : Sheet) : Type 0 where
  pub texts : List (List (List ℕ))
  pub lines : AllZip (ShowsLine w sheet.columns.items) (lines_of w.null.now names (shown_rows w.rows w.tail rows)) texts
  pub records : sheet.records ≡ lengthened_rows texts
  pub has_names : sheet.has_names ≡ is_some names
  pub hidden : sheet.hidden + length (shown_rows w.rows w.tail rows) ≡ length rows

-- that sheet is made of a source
pub record IsSheetOf {S : Type 0} (named : S → Option (List (List ℕ)) → Type 0) (gives : S → Option Row → S → Type 0) (w : Wanted) (from : S) (sheet : Sheet) (to : S) : Type 0 where
  pub names : Option (List (List ℕ))
  pub rows : List Row
  pub has : named from names
  pub read : ReadsRows gives w from rows to
  pub shows : ShowsRows w names rows sheet

-- ---- what a collector and a selector have on the way

-- only columns are added
pub record IsWidened (old new : Collector) : Type 0 where
  pub columns : Grows old.chosen.columns.items new.chosen.columns.items
  pub writer : new.writer ≡ old.writer
  pub wanted : new.wanted ≡ old.wanted

-- lines are written
pub record HasLines (w : Wanted) (all : List Line) (c : Collector) : Type 0 where
  pub wanted : c.wanted.now ≡ w
  pub begun : c.writer.begun ≡ []
  pub lines : AllZip (ShowsLine w c.chosen.columns.items) all c.writer.rows

-- rows are read, and those that are shown are written or kept
pub record HasRows (w : Wanted) (names : Option (List (List ℕ))) (rows : List Row) (s : Selector) : Type 0 where
  pub lines : HasLines w (lines_of w.null.now names (written w.rows w.tail rows)) s.collector
  pub last : s.last.items ≡ waiting w.rows w.tail rows
  pub count : s.count ≡ length rows
  pub has_names : s.has_names ≡ is_some names
