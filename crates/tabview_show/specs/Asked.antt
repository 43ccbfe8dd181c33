-- What is asked for, in the words of the crates below. A text is the list of its bytes.
use Rattle.std.specs.Prelude.{◌≡◌, ℕ, ◌+◌, ◌-◌, ◌^◌, ◌++◌, ◌&&◌, Bool, true, false, List, [], ◌∷◌, Option, Some, None, codes, if◌then◌else◌, is_none, map, min, not, option_map, unwrap_or}
use Rattle.std.specs.Borrow.{Bor}
use Rattle.tabled_config.specs.declared.alignment.AlignmentHorizontal.{AlignmentHorizontal}
use Rattle.tabled_config.specs.declared.alignment.AlignmentHorizontal.TheVariants as at
use Rattle.tabview_cells.specs.Kinds.{keeps_width}
use Rattle.tabview_cells.specs.declared.choice.Shown.{Shown}
use Rattle.tabview_cells.specs.declared.choice.Shown.TheVariants.{Lines, Raw}
use Rattle.tabview_cells.specs.declared.kinds.Kind.{Kind}
use Rattle.tabview_cells.specs.declared.kinds.Kind.TheVariants.{Number}
use Rattle.tabview_options.specs.declared.options.Options.{Options}
use Rattle.tabview_options.specs.declared.options.Side.{Side}
use Rattle.tabview_options.specs.declared.options.Side.TheVariants.{Left, Right, Center}
use Rattle.tabview_print.specs.Styles.{is_markdown}
use Rattle.tabview_print.specs.declared.layout.Column.{Column}
use Rattle.tabview_read.specs.Formats.{format_of_name, format_of_path}
use Rattle.tabview_read.specs.declared.format.Format.{Format}
use Rattle.tabview_read.specs.declared.format.Format.TheVariants.{Csv, Tsv, Json, JsonLines, Sqlite}
use Rattle.tabview_read.specs.declared.sheet.Wanted.{Wanted}

-- the text that is asked for, else another
abbrev pub text_or : List ℕ → Option (Bor (List ℕ)) → List ℕ
text_or text asked = unwrap_or (option_map (λ s. s.now) asked) text

-- control characters are shown as they are, or escaped
abbrev pub shown_by : Bool → Shown
shown_by raw = if raw then Raw else Lines

-- the format that is named, else that of the file's ending
abbrev pub format_of : Option (Bor (List ℕ)) → Option (Bor (List ℕ)) → Option Format
format_of (Some name) file = format_of_name name.now
format_of None (Some path) = format_of_path path.now
format_of None None = None

-- the values that are read ahead: those that a stream measures, or the first ones if no others are
-- shown, or all
abbrev pub rows_ahead : Option ℕ → Option ℕ → Option ℕ → ℕ
rows_ahead measured rows (Some tail) = unwrap_or measured (2 ^ 64 - 1)
rows_ahead measured rows None = min (unwrap_or measured (2 ^ 64 - 1)) (unwrap_or rows (2 ^ 64 - 1))

-- the first bytes are read if the format isn't known, or the delimiter of comma-separated values
abbrev pub wants_head : Option ℕ → Option Format → Bool
wants_head delimiter None = true
wants_head delimiter (Some Csv) = is_none delimiter
wants_head delimiter (Some Tsv) = false
wants_head delimiter (Some Json) = false
wants_head delimiter (Some JsonLines) = false
wants_head delimiter (Some Sqlite) = false

-- what is wanted by the options
pub record IsWanted (options : Options) (wanted : Wanted) : Type 0 where
  pub columns : map (λ s. s.now) wanted.columns.now ≡ map (λ s. s.now) options.choice.columns.items
  pub rows : wanted.rows ≡ options.choice.rows
  pub tail : wanted.tail ≡ options.choice.tail
  pub numbers : wanted.numbers ≡ options.choice.numbers
  pub count : wanted.count ≡ options.choice.count
  pub null : wanted.null.now ≡ text_or (codes "NULL") options.input.null
  -- cells with the text of null don't count for the kind of their column, and empty cells don't
  pub blank : wanted.blank.now ≡ text_or [] options.input.null
  pub shown : wanted.shown ≡ shown_by options.look.raw

-- a table of Markdown is printed
abbrev pub is_marked : Option (Bor (List ℕ)) → Bool → Bool
is_marked style expand = is_markdown (option_map (λ s. s.now) style) && not expand

abbrev pub alignment : Side → AlignmentHorizontal
alignment Left = at.Left
alignment Right = at.Right
alignment Center = at.Center

-- numbers are at the right, anything else is at the left
abbrev pub side_of_kind : Kind → Side
side_of_kind Number = Right
side_of_kind kind = Left

-- the column of the rows' numbers, if rows have one
abbrev pub number_columns : Bool → List Column
number_columns true = record { side = at.Right; keeps = true } ∷ []
number_columns false = []

-- a column that nothing is asked for
abbrev pub default_column : Kind → Column
default_column kind = record { side = alignment (side_of_kind kind); keeps = keeps_width kind }

-- the columns of a table: that of the numbers, and one for each kind. All but those of text keep
-- their width
pub record AreLaid (numbers : Bool) (sides : List (Bor (List ℕ) × Side)) (kinds : List Kind) (columns : List Column) : Type 0 where
  pub keep : map (λ c. c.keeps) columns ≡ map (λ c. c.keeps) (number_columns numbers) ++ map keeps_width kinds
  pub default : sides ≡ [] → columns ≡ number_columns numbers ++ map default_column kinds

-- the count of the rows that are measured, with that of the names
abbrev pub measured : Option ℕ → Bool → ℕ
measured rows names = min (unwrap_or rows (2 ^ 64 - 1) + (if names then 1 else 0)) (2 ^ 64 - 1)
