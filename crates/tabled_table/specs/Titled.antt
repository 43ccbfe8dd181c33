-- A title above a table, and what a call that prints both leaves.
use Rattle.std.specs.Prelude.{◌≡◌, ◌⊎◌, ℕ, ◌-◌, false, List, [], ◌∷◌, ◌++◌, map, MatchBool, Result, Ok, Err}
use Rattle.std.specs.List.{flat_map}
use Rattle.tabled_base.specs.declared.error.TableError.{TableError}
use Rattle.tabled_base.specs.declared.error.TableError.TheVariants.{Memory}
use Rattle.tabled_config.specs.declared.alignment.AlignmentHorizontal.{AlignmentHorizontal}
use Rattle.tabled_grid.specs.Picture.{table_text}
use Rattle.tabled_grid.specs.Printed.{FailsToPrint, IsPrintableSheet}
use Rattle.tabled_line.specs.Block.{before_text}
use Rattle.tabled_line.specs.Fill.{fill}
use Rattle.tabled_line.specs.Sent.{Sent, Sends, Stops}
use Rattle.tabled_set.specs.CellChanges.{if_wider, word_wrapping}
use Rattle.tabled_size.specs.Sheet.{Sheet, is_empty}
use Rattle.tabled_size.specs.Totals.{total_width}
use Rattle.tabled_text.specs.Cut.{IsCut}
use Rattle.tabled_text.specs.Measure.{line_columns, lines_of}
use Rattle.tabled_table.specs.declared.titled.Title.{Title}
use Rattle.tabled_table.specs.declared.titled.TitleFit.{TitleFit}
use Rattle.tabled_table.specs.declared.titled.TitleFit.TheVariants.{Cut, Wrap}

-- what a title's text becomes in n columns: a wider one is wrapped between words or cut, another
-- doesn't change
abbrev pub IsFitted : TitleFit → ℕ → List ℕ → List ℕ → Type 0
IsFitted Wrap n text fitted = if_wider word_wrapping n text fitted
IsFitted Cut n text fitted = if_wider IsCut n text fitted

-- a line of a title, aligned in n columns and filled with spaces
abbrev pub title_line : AlignmentHorizontal → ℕ → List ℕ → List ℕ
title_line alignment n line =
    let free = n - line_columns line in
    let before = before_text alignment free in
    fill 32 before ++ (line ++ fill 32 (free - before))

-- the lines of a title, whose text fits in n columns
abbrev pub title_lines : AlignmentHorizontal → ℕ → List ℕ → List (List ℕ)
title_lines alignment n fitted = map (title_line alignment n) (lines_of fitted)

-- the text of lines that each end in a line feed
abbrev pub text_with_feeds : List (List ℕ) → List ℕ
text_with_feeds lines = flat_map (λ line. line ++ 10 ∷ []) lines

-- a title above a table with rows and columns: the title's text is fitted to the total width, each of
-- its lines ends in a line feed, and the text of the table follows
pub record IsTitled (title : Title) (t : Sheet) (text : List ℕ) : Type 0 where
  pub fitted : List ℕ
  pub is_fitted : IsFitted title.fit (total_width t) title.text.now fitted
  pub whole : text ≡ text_with_feeds (title_lines title.alignment (total_width t) fitted) ++ table_text t

-- the text of a table below a title, which is empty if the table has no row or no column
abbrev pub IsTitledText : Title → Sheet → List ℕ → Type 0
IsTitledText title t text = MatchBool (is_empty t.cells) (text ≡ []) (IsTitled title t text)

-- the title and the table were added
pub record SendsTitled (title : Title) (t : Sheet) (old new : Sent) : Type 0 where
  pub text : List ℕ
  pub is_titled : IsTitled title t text
  pub sends : Sends old new text

-- a beginning of the title and the table was added before an error
pub record StopsTitled (title : Title) (t : Sheet) (old : Sent) (error : TableError) (new : Sent) : Type 0 where
  pub text : List ℕ
  pub is_titled : IsTitled title t text
  pub stops : Stops old error new text

-- what a call that prints a table below a title leaves, by its result. On `Ok` both were added, and
-- the table can be printed; of an empty table nothing is. Before anything is written, the table
-- fails as without a title, or an allocation does. Otherwise the sink failed after a beginning
abbrev pub PrintsTitled : {T : Type 0} → Title → Sheet → Sent → Result T TableError → Sent → Type 0
PrintsTitled title t old (Ok _) new = MatchBool (is_empty t.cells) (new ≡ old) (IsPrintableSheet t × SendsTitled title t old new)
PrintsTitled title t old (Err error) new =
    (is_empty t.cells ≡ false)
    × ((((error ≡ Memory) ⊎ FailsToPrint t error) × (new ≡ old)) ⊎ (IsPrintableSheet t × StopsTitled title t old error new))
