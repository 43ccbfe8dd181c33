-- What the program prints.
use Rattle.std.specs.Prelude.{◌≡◌, ◌⊎◌, ℕ, ◌==◌, if◌then◌else◌, List, [], ◌∷◌, ◌++◌, length, Option, Result, Ok, Err, MatchResult}
use Rattle.std.specs.Io.KnownBytes.{Appends}
use Rattle.tabled_base.specs.declared.error.TableError.{TableError}
use Rattle.tabled_base.specs.declared.error.TableError.TheVariants.{Memory, Range, Writer}
use Rattle.tabled_records.specs.TextRows.{text_rows}
use Rattle.tabled_grid.specs.Picture.{table_text}
use Rattle.tabled_size.specs.Sheet.{Sheet}
use Rattle.tabled_table.specs.TableSheet.{new_sheet}
use Rattle.tabled.specs.declared.arguments.Plan.{Plan}
use Rattle.tabled.specs.Headline.{IsBestPlanned}
use Rattle.tabled.specs.Planned.{IsPlanned}
use Rattle.tabled.specs.Rendered.{PassesRange}

-- a text, and a line feed unless the text is empty
unfoldable pub with_feed : List ℕ → List ℕ
with_feed text = text ++ (if length text == 0 then [] else 10 ∷ [])

-- the output for a text: the table that a plan makes of its rows, and a line feed unless it is
-- empty
pub record IsOutput (plan : Plan) (text output : List ℕ) : Type 0 where
  pub table : Sheet
  pub planned : IsPlanned plan (text_rows text) table
  pub best : IsBestPlanned plan (text_rows text) table
  pub whole : output ≡ with_feed (table_text table)

-- the bytes, if known, grow by a beginning of a text
pub record Begins (old new : Option (List ℕ)) (text : List ℕ) : Type 0 where
  pub front : List ℕ
  pub rest : List ℕ
  pub whole : front ++ rest ≡ text
  pub added : Appends old new front

-- the bytes, if known, grow by a text without its rest
pub record IsPartlyWritten (old new : Option (List ℕ)) (text rest : List ℕ) : Type 0 where
  pub front : List ℕ
  pub whole : front ++ rest ≡ text
  pub added : Appends old new front

-- the bytes, if known, grow by a text on `Ok`, and by a beginning of it on `Err`
abbrev pub Puts : {T E : Type 0} → Option (List ℕ) → Result T E → Option (List ℕ) → List ℕ → Type 0
Puts old (Ok _) new text = Appends old new text
Puts old (Err _) new text = Begins old new text

-- a total of the table, or of the table that the plan makes, passes `usize::MAX`
abbrev pub Overflows : Plan → List ℕ → Type 0
Overflows plan text = PassesRange (IsPlanned plan (text_rows text)) (new_sheet (text_rows text))

-- the text of which a beginning is written on an error: none for `Range`, the output for `Writer`,
-- either of them for `Memory`; other errors don't occur
abbrev pub IsBegunOn : Plan → List ℕ → List ℕ → TableError → Type 0
IsBegunOn plan text begun Memory = (begun ≡ []) ⊎ IsOutput plan text begun
IsBegunOn plan text begun Range = (begun ≡ []) × Overflows plan text
IsBegunOn plan text begun Writer = IsOutput plan text begun
IsBegunOn plan text begun _ = ⊥

-- the bytes, if known, grow by the output on `Ok`, and on `Err` by a beginning of the text of
-- `IsBegunOn`
pub record PutsOutput {T : Type 0} (plan : Plan) (text : List ℕ) (old : Option (List ℕ)) (result : Result T TableError) (new : Option (List ℕ)) : Type 0 where
  pub output : List ℕ
  pub is_output : MatchResult result (λ _. IsOutput plan text output) (IsBegunOn plan text output)
  pub puts : Puts old result new output
