-- Styles, plans and alignments by number, and the settings that they make.
use Rattle.std.specs.Prelude.{◌≡◌, ◌==◌, ◌≤◌, ◌*◌, ◌&&◌, if◌then◌else◌, ℕ, suc, Bool, true, false, not, is_some, List, [], ◌∷◌}
use Rattle.tabled_base.specs.declared.position.Entity.TheVariants.{Column}
use Rattle.tabled_config.specs.Options.{with_style}
use Rattle.tabled_config.specs.StyleChanges.{without_horizontals}
use Rattle.tabled_config.specs.Styles.{ascii, ascii_rounded, blank, extended, markdown, modern, modern_rounded, no_style, psql, re_structured_text, rounded, sharp}
use Rattle.tabled_config.specs.declared.alignment.AlignmentHorizontal.{AlignmentHorizontal}
use Rattle.tabled_config.specs.declared.alignment.AlignmentHorizontal.TheVariants.{Left, Center, Right}
use Rattle.tabled_config.specs.declared.spanned.SpannedConfig.{SpannedConfig}
use Rattle.tabled_config.specs.declared.style.Style.{Style}
use Rattle.tabled_entity.specs.Changes.{with_change}
use Rattle.tabled_table.specs.NewConfig.{new_config}
use Rattle.tabled.specs.declared.arguments.Order.{Order}
use Rattle.tabled.specs.declared.arguments.Order.TheVariants.{Round, Least, Greatest, Leftmost, Rightmost}
use Rattle.tabled.specs.declared.arguments.Plan.{Plan}
use Rattle.tabled.specs.declared.arguments.Plan.TheVariants.{Buffered, Streamed, Wrapped, Shortened}

-- ---- styles

pub data StyleName : Type 0 where
  Ascii : StyleName
  Modern : StyleName
  Sharp : StyleName
  Rounded : StyleName
  ModernRounded : StyleName
  AsciiRounded : StyleName
  Extended : StyleName
  Markdown : StyleName
  Psql : StyleName
  ReStructuredText : StyleName
  Blank : StyleName
  Empty : StyleName

-- the number of a style
abbrev pub style_number : StyleName → ℕ
style_number Ascii = 0
style_number Modern = 1
style_number Sharp = 2
style_number Rounded = 3
style_number ModernRounded = 4
style_number AsciiRounded = 5
style_number Extended = 6
style_number Markdown = 7
style_number Psql = 8
style_number ReStructuredText = 9
style_number Blank = 10
style_number Empty = 11

abbrev pub style_of : StyleName → Style
style_of Ascii = ascii
style_of Modern = modern
style_of Sharp = sharp
style_of Rounded = rounded
style_of ModernRounded = modern_rounded
style_of AsciiRounded = ascii_rounded
style_of Extended = extended
style_of Markdown = markdown
style_of Psql = psql
style_of ReStructuredText = re_structured_text
style_of Blank = blank
style_of Empty = no_style

-- a style with or without its line below the first row
abbrev pub headed : Bool → Style → Style
headed true style = style
headed false style = without_horizontals style

-- whether that line is drawn in a table of some rows: a header is asked for, and the line isn't in
-- the place of the style's bottom line, as it would be below a single row
abbrev pub draws_header : Bool → ℕ → Style → Bool
draws_header header rows style = header && not (rows == 1 && is_some style.borders.bottom)

-- a style as it is drawn in a table of some rows
abbrev pub drawn : Bool → ℕ → Style → Style
drawn header rows style = headed (draws_header header rows style) style

-- ---- plans

-- the number of an order
abbrev pub order_number : Order → ℕ
order_number Round = 0
order_number Least = 1
order_number Greatest = 2
order_number Leftmost = 3
order_number Rightmost = 4

-- the number of a wrapping plan
abbrev pub wrapping_number : Bool → ℕ
wrapping_number false = 1
wrapping_number true = 2

-- a plan is given by a kind of fitting, the number of an order, and columns; a buffered table uses
-- neither of the last two, but the order must be valid
abbrev pub Asks : Plan → ℕ → ℕ → ℕ → Type 0
Asks Buffered fit order columns = (fit ≡ 0) × ((o : Order) × (order ≡ order_number o))
Asks Streamed fit order columns = ⊥
Asks (Wrapped n words o) fit order columns = (fit ≡ wrapping_number words) × (order ≡ order_number o) × (columns ≡ n)
Asks (Shortened n o) fit order columns = (fit ≡ 3) × (order ≡ order_number o) × (columns ≡ n)

-- ---- alignments

-- 0, 1 and 2 are alignments
abbrev pub IsAlignment : ℕ → Type 0
IsAlignment number = number ≤ 2

-- 0 is left, 1 right and 2 the middle
abbrev pub alignment_numbered : ℕ → AlignmentHorizontal
alignment_numbered number = if number == 0 then Left else (if number == 1 then Right else Center)

-- settings with the alignments of some columns, the first of them `column`
abbrev pub with_alignments : ℕ → List ℕ → SpannedConfig → SpannedConfig
with_alignments column [] config = config
with_alignments column (number ∷ numbers) config =
    with_alignments (suc column) numbers
    (record config { alignment_horizontal = with_change config.alignment_horizontal (Column column) (alignment_numbered number) })

-- ---- the settings of a table

-- those of a style and alignments, in a table of some rows, with or without a header
abbrev pub settings : Style → Bool → ℕ → List ℕ → SpannedConfig
settings style header rows alignments = with_style (with_alignments 0 alignments new_config) (drawn header rows style)

-- the counts go together: there are as many cells as rows and columns make, each row has a cell,
-- and no column without cells has an alignment
pub record IsCounted (rows columns cells alignments : ℕ) : Type 0 where
  pub product : cells ≡ rows * columns
  pub no_empty_row : rows ≤ cells
  pub aligned : alignments ≤ columns
