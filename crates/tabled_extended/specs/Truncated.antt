-- Truncated `ExtendedTable`s. A text is the list of its bytes, a record the list of its values.
use Rattle.std.specs.Prelude.{◌≡◌, ◌⊎◌, ℕ, ◌+◌, ◌-◌, ◌<◌, Bool, true, false, ◌||◌, nat_lt, List, [], ◌∷◌}
use Rattle.std.specs.Prelude.{◌++◌, Option, Some, None, Result, Ok, Err, if◌then◌else◌, chars, decimal}
use Rattle.std.specs.Prelude.{length}
use Rattle.std.specs.List.{AllZip}
use Rattle.tabled_base.specs.Cells.{row_texts}
use Rattle.tabled_base.specs.declared.error.TableError.{TableError}
use Rattle.tabled_base.specs.declared.error.TableError.TheVariants.{Memory}
use Rattle.tabled_set.specs.CellChanges.{if_sized}
use Rattle.tabled_set.specs.Truncated.{suffix_columns}
use Rattle.tabled_text.specs.Cut.{IsCut, IsLongestReached, missing_columns}
use Rattle.tabled_extended.specs.RecordLines.{widest}
use Rattle.tabled_extended.specs.declared.extended_table.ExtendedTable.{ExtendedTable}
use Rattle.tabled_extended.specs.declared.truncating.TextWidths.{TextWidths}

-- ---- the widths

-- the columns of a default header with the number of records: 13, and the digits of the number
abbrev pub least_columns : ℕ → ℕ
least_columns count = 13 + length (decimal count)

-- the widths for lines of `max` columns, fields of f columns and a suffix of s: fields stay if
-- they, the bar and the suffix fit, and values get what these leave; else fields get what the bar
-- and the suffix leave, and values get nothing. None if the default header doesn't fit, or the
-- suffix, or the texts
abbrev pub text_widths_in : ℕ → ℕ → ℕ → ℕ → Option TextWidths
text_widths_in max count f s =
    if nat_lt max (least_columns count) || nat_lt max s then None
    else (if nat_lt (max - s) (f + 3)
    then (if nat_lt (max - s) (3 + s) then None else Some (record { fields = Some ((max - s) - (3 + s)); values = 0 }))
    else (if nat_lt (max - s) (f + 3 + s) then None else Some (record { fields = None; values = (max - s) - (f + 3 + s) })))

-- ---- one text

-- the suffix, if something was cut off
abbrev pub ending : List ℕ → List ℕ → List ℕ
ending suffix [] = []
ending suffix (c ∷ off) = suffix

-- a text cut to n columns, and the suffix if something was cut off
pub record IsTruncated (suffix : List ℕ) (n : ℕ) (text answer : List ℕ) : Type 0 where
  pub piece : List ℕ
  pub cut : IsCut n text piece
  pub answered : answer ≡ piece ++ ending suffix cut.rest

-- something is cut off, and the new text isn't empty
pub record TakesMemory (suffix : List ℕ) (n : ℕ) (text : List ℕ) : Type 0 where
  pub front : List ℕ
  pub off : List ℕ
  pub longest : IsLongestReached n (chars text) front off
  pub some_off : 0 < length off
  pub some_left : 0 < length front + (missing_columns n front off + length suffix)

-- an allocation failed, and the text is unchanged
pub record StopsAtText (suffix : List ℕ) (n : ℕ) (text answer : List ℕ) : Type 0 where
  pub takes : TakesMemory suffix n text
  pub stays : answer ≡ text

-- ---- many texts

-- the items before one are changed, the call stopped at this one, and those after it are unchanged
pub record StopsInList {A : Type 0} (change stop : A → A → Type 0) (old new : List A) : Type 0 where
  pub before : List A
  pub changed : List A
  pub here : A
  pub left : A
  pub behind : List A
  pub each : AllZip change before changed
  pub stopped : stop here left
  pub old_list : old ≡ before ++ here ∷ behind
  pub new_list : new ≡ changed ++ left ∷ behind

-- the values of a record, and the records, up to a text for which an allocation failed
abbrev pub StopsInRecord : List ℕ → ℕ → List (List ℕ) → List (List ℕ) → Type 0
StopsInRecord suffix n old new = StopsInList (IsTruncated suffix n) (StopsAtText suffix n) old new

abbrev pub StopsInRecords : List ℕ → ℕ → List (List (List ℕ)) → List (List (List ℕ)) → Type 0
StopsInRecords suffix n old new = StopsInList (AllZip (IsTruncated suffix n)) (StopsInRecord suffix n) old new

-- ---- the table

-- texts of a table: its fields and its records
pub record RecordTexts : Type 0 where
  pub fields : List (List ℕ)
  pub records : List (List (List ℕ))

-- the texts of a table
abbrev pub record_texts : {F : Type 0} → ExtendedTable F → RecordTexts
record_texts table = record { fields = table.fields.items; records = row_texts table.records.items }

-- fields and values are truncated to their widths
pub record AreTruncated (suffix : List ℕ) (text_widths : TextWidths) (old new : RecordTexts) : Type 0 where
  pub each_field : AllZip (if_sized (IsTruncated suffix) text_widths.fields) old.fields new.fields
  pub each_value : AllZip (AllZip (IsTruncated suffix text_widths.values)) old.records new.records

-- an allocation failed: for a field, with all records unchanged, or for a value, with the fields
-- truncated
abbrev pub StopsTruncating : List ℕ → TextWidths → RecordTexts → RecordTexts → Type 0
StopsTruncating suffix text_widths old new =
    ((n : ℕ) × (text_widths.fields ≡ Some n) × StopsInRecord suffix n old.fields new.fields × (new.records ≡ old.records))
    ⊎ (AllZip (if_sized (IsTruncated suffix) text_widths.fields) old.fields new.fields
    × StopsInRecords suffix text_widths.values old.records new.records)

-- the table has text widths for `max` columns, and they do what `leaves` says
pub record InTextWidths (max : ℕ) (suffix : List ℕ) (texts : RecordTexts) (leaves : TextWidths → Type 0) : Type 0 where
  pub text_widths : TextWidths
  pub found : text_widths_in max (length texts.records) (widest texts.fields) (suffix_columns suffix) ≡ Some text_widths
  pub left : leaves text_widths

-- what truncating leaves, by its result. `true`: all texts are truncated. `false`: there are no
-- text widths, and nothing changed. `Memory`: the texts up to one are truncated. No other error
-- occurs
abbrev pub Truncates : ℕ → List ℕ → RecordTexts → Result Bool TableError → RecordTexts → Type 0
Truncates max suffix old (Ok true) new = InTextWidths max suffix old (λ text_widths. AreTruncated suffix text_widths old new)
Truncates max suffix old (Ok false) new =
    (text_widths_in max (length old.records) (widest old.fields) (suffix_columns suffix) ≡ None) × (new ≡ old)
Truncates max suffix old (Err e) new =
    (e ≡ Memory) × InTextWidths max suffix old (λ text_widths. StopsTruncating suffix text_widths old new)
