-- What the arguments of a command line ask for. A text is the list of its bytes.
use Rattle.std.specs.Prelude.{◌≡◌, ◌≢◌, ◌<◌, ◌⊎◌, ⊤, ℕ, Bool, true, false, not, List, [], ◌∷◌, ◌++◌, Option, Some, None, Ok, Err, MatchOption, Contains, codes, map, option_map, string_bytes, unwrap_or}
use Rattle.std.specs.Option.{option_or}
use Rattle.std.specs.Str.Parse.{ParsesUnsigned}
use Rattle.clap.specs.Words.{first_value, found_of, matched_of, one_text, raw_values}
use Rattle.clap.specs.declared.parser.matches.ArgMatches.{ArgMatches}
use Rattle.tabview_options.specs.declared.options.Choice.{Choice}
use Rattle.tabview_options.specs.declared.options.Input.{Input}
use Rattle.tabview_options.specs.declared.options.Look.{Look}
use Rattle.tabview_options.specs.declared.options.Options.{Options}
use Rattle.tabview_options.specs.declared.options.Side.{Side}
use Rattle.tabview_options.specs.declared.options.Side.TheVariants.{Left, Right, Center}
use Rattle.tabview_options.specs.declared.options.WrongOption.{WrongOption}
use Rattle.tabview_options.specs.declared.options.WrongOption.TheVariants.{Memory, Delimiter, Align}

-- the value of an argument, if it has one
abbrev pub value_of : ArgMatches → List ℕ → Option (List ℕ)
value_of matches name = first_value (found_of matches) name

-- all values of an argument
abbrev pub values_of : ArgMatches → List ℕ → List (List ℕ)
values_of matches name = unwrap_or (option_map raw_values (matched_of (found_of matches) name)) []

-- whether a flag is there: its value is `true` or `false`
pub record IsFlag (matches : ArgMatches) (name : List ℕ) (flag : Bool) : Type 0 where
  pub missing : one_text (found_of matches) name ≡ None → flag ≡ false
  pub there : one_text (found_of matches) name ≡ Some (codes "true") → flag ≡ true
  pub absent : one_text (found_of matches) name ≡ Some (codes "false") → flag ≡ false

-- the number that a text writes, none if it isn't one of 64 bits
abbrev pub Writes : List ℕ → Option ℕ → Type 0
Writes text (Some number) = ParsesUnsigned {E = Unit {0}} 64 10 text (Ok number)
Writes text None = ParsesUnsigned {E = Unit {0}} 64 10 text (Err tt)

-- the number of an argument, if it has one
pub record IsNumber (matches : ArgMatches) (name : List ℕ) (number : Option ℕ) : Type 0 where
  pub missing : one_text (found_of matches) name ≡ None → number ≡ None
  pub there : (text : List ℕ) → one_text (found_of matches) name ≡ Some text → Writes text number

-- the byte that a word means: a character of ASCII itself, and `\t` a tab
abbrev pub Means : List ℕ → ℕ → Type 0
Means word byte = ((word ≡ byte ∷ []) × (byte < 128)) ⊎ ((word ≡ codes "\\t") × (byte ≡ 9))

abbrev pub MeansNone : List ℕ → Type 0
MeansNone word = (byte : ℕ) → ¬ Means word byte

-- the byte between cells, if one is asked for
abbrev pub IsDelimiter : Option (List ℕ) → Option ℕ → Type 0
IsDelimiter None byte = byte ≡ None
IsDelimiter (Some word) byte = MatchOption byte ⊥ (Means word)

abbrev pub side_name : Side → List ℕ
side_name Left = codes "left"
side_name Right = codes "right"
side_name Center = codes "center"

-- `COLUMN=SIDE`
abbrev pub aligned : List ℕ → Side → List ℕ
aligned column side = column ++ (61 ∷ side_name side)

-- a word that is nothing of this kind
abbrev pub HasNoSide : List ℕ → Type 0
HasNoSide word = (column : List ℕ) (side : Side) → word ≢ aligned column side

-- the path of the file: none is standard input, and so is `-`
abbrev pub IsPath : Option (List ℕ) → Option (List ℕ) → Type 0
IsPath None path = path ≡ None
IsPath (Some word) None = word ≡ codes "-"
IsPath (Some word) (Some path) = (path ≡ word) × (word ≢ codes "-")

-- what is read, and how
pub record AsksInput (matches : ArgMatches) (input : Input) : Type 0 where
  pub file : IsPath (value_of matches (codes "file")) (option_map (λ s. s.now) input.file)
  pub format : option_map (λ s. s.now) input.format ≡ value_of matches (codes "from")
  pub delimiter : IsDelimiter (value_of matches (codes "delimiter")) input.delimiter
  pub query : option_map (λ s. s.now) input.query ≡ value_of matches (codes "query")
  pub table : option_map (λ s. s.now) input.table ≡ value_of matches (codes "table")
  pub has_header : IsFlag matches (codes "no-header") (not input.has_header)
  pub fill : IsFlag matches (codes "fill") input.fill
  pub lossy : IsFlag matches (codes "lossy") input.lossy
  pub null : option_map (λ s. s.now) input.null ≡ value_of matches (codes "null")

-- which rows and columns are shown
pub record AsksChoice (matches : ArgMatches) (choice : Choice) : Type 0 where
  pub columns : map (λ s. s.now) choice.columns.items ≡ values_of matches (codes "columns")
  pub rows : IsNumber matches (codes "rows") choice.rows
  pub tail : IsNumber matches (codes "tail") choice.tail
  pub numbers : IsFlag matches (codes "number") choice.numbers
  pub count : IsFlag matches (codes "count") choice.count

-- the width that is asked for, else that of the terminal
abbrev pub IsWidth : ArgMatches → Option ℕ → Option ℕ → Type 0
IsWidth matches terminal width =
    (asked : Option ℕ) × IsNumber matches (codes "width") asked × (width ≡ option_or asked terminal)

-- how they are shown
pub record AsksLook (matches : ArgMatches) (terminal : Option ℕ) (look : Look) : Type 0 where
  pub style : option_map (λ s. s.now) look.style ≡ value_of matches (codes "style")
  pub width : IsWidth matches terminal look.width
  pub sides : map (λ s. aligned s.0.now s.1) look.sides.items ≡ values_of matches (codes "align")
  pub cut : IsFlag matches (codes "cut") look.cut
  pub expand : IsFlag matches (codes "expand") look.expand
  pub raw : IsFlag matches (codes "raw") look.raw

-- what is asked for, on a terminal of some columns
pub record Asks (matches : ArgMatches) (terminal : Option ℕ) (options : Options) : Type 0 where
  pub input : AsksInput matches options.input
  pub choice : AsksChoice matches options.choice
  pub look : AsksLook matches terminal options.look
  pub stream : IsNumber matches (codes "stream") options.stream
  pub progress : IsFlag matches (codes "progress") options.progress

-- why words of `--align` can't be read: an allocation failed, or one of them has no side
abbrev pub IsMisaligned : List (List ℕ) → WrongOption → Type 0
IsMisaligned words Memory = ⊤
IsMisaligned words Delimiter = ⊥
IsMisaligned words (Align word) = Contains words (string_bytes word) × HasNoSide (string_bytes word)

-- why the delimiter can't be read: its word means no byte
abbrev pub IsUndelimited : Option (List ℕ) → WrongOption → Type 0
IsUndelimited word error = (error ≡ Delimiter) × MatchOption word ⊥ MeansNone

-- why a command line can't be read
abbrev pub IsWrong : ArgMatches → WrongOption → Type 0
IsWrong matches error =
    IsUndelimited (value_of matches (codes "delimiter")) error ⊎ IsMisaligned (values_of matches (codes "align")) error
