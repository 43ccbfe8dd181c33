-- The end of the output, and its errors.
use Rattle.std.specs.Prelude.{◌≡◌, ◌≢◌, ◌⊎◌, ℕ, ◌++◌, ◌==◌, Bool, List, [], ◌∷◌, Result, Ok, Err, codes, decimal, if◌then◌else◌}
use Rattle.std.specs.IoError.{error_kind}
use Rattle.std.specs.declared.io.Error.{Error}
use Rattle.std.specs.declared.io.ErrorKind.TheVariants.{BrokenPipe}
use Rattle.tabled_base.specs.declared.error.TableError.{TableError}
use Rattle.tabled_base.specs.declared.error.TableError.TheVariants.{Writer}
use Rattle.tabview_show.specs.declared.ending.Hidden.{Hidden}
use Rattle.tabview_show.specs.declared.error.ViewError.{ViewError}
use Rattle.tabview_show.specs.declared.error.ViewError.TheVariants.{Output, Table}

-- a line feed, or none
abbrev pub line_end : Bool → List ℕ
line_end begun = if begun then 10 ∷ [] else []

-- `… 12 rows more`, or `… 1 row more`
abbrev pub count_line : ℕ → List ℕ
count_line rows =
    if rows == 1 then (0xE2 ∷ 0x80 ∷ 0xA6 ∷ 32 ∷ []) ++ codes "1 row more\n"
    else (0xE2 ∷ 0x80 ∷ 0xA6 ∷ 32 ∷ []) ++ decimal rows ++ codes " rows more\n"

-- that line, if rows aren't shown, with a blank line before it or not
abbrev pub hidden_line : Hidden → List ℕ
hidden_line hidden = if hidden.rows == 0 then [] else line_end hidden.is_apart ++ count_line hidden.rows

-- what ends the output
abbrev pub end_of : Bool → Hidden → List ℕ
end_of begun hidden = line_end begun ++ hidden_line hidden

-- a failed write is an error, unless the reader went away
pub record FailsBy (error : Error) (result : Result Unit ViewError) : Type 0 where
  pub closed : error_kind error ≡ BrokenPipe → result ≡ Ok tt
  pub other : error_kind error ≢ BrokenPipe → result ≡ Err (Output error)

-- what a write returns, and what is returned for it
abbrev pub IsWritten : Result Unit Error → Result Unit ViewError → Type 0
IsWritten (Ok done) result = result ≡ Ok tt
IsWritten (Err error) result = FailsBy error result

-- why a table isn't printed: where the writer failed, it may say why itself
abbrev pub IsFailed : TableError → Result Unit ViewError → Type 0
IsFailed error result = (result ≡ Err (Table error)) ⊎ ((error ≡ Writer) × ((cause : Error) × FailsBy cause result))
