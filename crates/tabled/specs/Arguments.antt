-- Which arguments of the program make which plan. An argument is the list of its bytes.
use Rattle.std.specs.Prelude.{◌≡◌, ◌≢◌, ◌<◌, ◌^◌, ◌↔◌, ◌⊎◌, ℕ, List, [], ◌∷◌, ◌++◌, IsTrue, codes, Contains, Some, true}
use Rattle.std.specs.List.{All, AllPairs, Contains}
use Rattle.std.specs.Char.{IsAsciiDigit}
use Rattle.std.specs.Str.Parse.{digits_value}
use Rattle.tabled.specs.declared.arguments.Order.{Order}
use Rattle.tabled.specs.declared.arguments.Order.TheVariants.{Round, Least, Greatest, Leftmost, Rightmost}
use Rattle.tabled.specs.declared.arguments.Plan.{Plan}
use Rattle.tabled.specs.declared.arguments.Plan.TheVariants.{Buffered, Streamed, Wrapped, Shortened}
use Rattle.tabled.specs.declared.arguments.Argument.{Argument}
use Rattle.tabled.specs.declared.arguments.Argument.TheVariants.{Wrap, Cut, Priority, Words, Stream}
use Rattle.tabled.specs.declared.arguments.Arguments.{Arguments}

-- the word is one or more decimal digits, and their number is below 2^64
pub record IsNumber (word : List ℕ) (number : ℕ) : Type 0 where
  pub digits : All IsAsciiDigit word
  pub some : word ≢ []
  pub value : digits_value 10 word ≡ number
  pub fits : number < 2 ^ 64

-- the name of an order
abbrev pub order_word : Order → List ℕ
order_word Round = codes "none"
order_word Least = codes "min"
order_word Greatest = codes "max"
order_word Leftmost = codes "left"
order_word Rightmost = codes "right"

-- the name of a setting
abbrev pub name_of : Argument → List ℕ
name_of (Wrap target) = codes "--wrap"
name_of (Cut target) = codes "--cut"
name_of (Priority order) = codes "--priority"
name_of Words = codes "--words"
name_of Stream = codes "--stream"

-- the arguments after the name of a setting: a number, an order, or none
abbrev pub HasValues : Argument → List (List ℕ) → Type 0
HasValues (Wrap target) values = (word : List ℕ) × (values ≡ word ∷ []) × IsNumber word target
HasValues (Cut target) values = (word : List ℕ) × (values ≡ word ∷ []) × IsNumber word target
HasValues (Priority order) values = values ≡ order_word order ∷ []
HasValues Words values = values ≡ []
HasValues Stream values = values ≡ []

-- the arguments are the name and the values of the setting, and then the rest
abbrev pub Begins : List (List ℕ) → Argument → List (List ℕ) → Type 0
Begins words setting rest = (values : List (List ℕ)) × (words ≡ (name_of setting ∷ values) ++ rest) × HasValues setting values

-- the arguments are those of the settings, one after another
abbrev pub Spells : List (List ℕ) → List Argument → Type 0
Spells words [] = words ≡ []
Spells words (setting ∷ settings) = (rest : List (List ℕ)) × Begins words setting rest × Spells rest settings

-- each name is given at most once
abbrev pub IsOnce : List Argument → Type 0
IsOnce settings = AllPairs (λ one other. name_of one ≢ name_of other) settings

-- What the given settings mean
module _ (Given : Argument → Type 0) where
  -- `--wrap` is given, with some number
  abbrev pub IsWrapping : Type 0
  IsWrapping = (target : ℕ) × Given (Wrap target)

  -- `--cut` is given, with some number
  abbrev pub IsCutting : Type 0
  IsCutting = (target : ℕ) × Given (Cut target)

  -- `--priority` is given, with some order
  abbrev pub HasPriority : Type 0
  HasPriority = (order : Order) × Given (Priority order)

  -- the settings go together: not both `--wrap` and `--cut`, `--words` only with `--wrap`,
  -- `--priority` only with one of them, and `--stream` with neither
  pub record GoTogether : Type 0 where
    pub one_target : ¬ (IsWrapping × IsCutting)
    pub words_to_wrap : Given Words → IsWrapping
    pub order_for_target : HasPriority → IsWrapping ⊎ IsCutting
    pub stream_alone : Given Stream → ¬ (IsWrapping ⊎ IsCutting)

  -- the given order, or `none` without a priority
  abbrev pub IsOrder : Order → Type 0
  IsOrder order = Given (Priority order) ⊎ (¬ HasPriority × (order ≡ Round))

  -- the plan that the settings make
  abbrev pub Makes : Plan → Type 0
  Makes Buffered = ¬ IsWrapping × ¬ IsCutting × ¬ Given Stream
  Makes Streamed = Given Stream
  Makes (Wrapped target words order) = Given (Wrap target) × (IsTrue words ↔ Given Words) × IsOrder order
  Makes (Shortened target order) = Given (Cut target) × IsOrder order

-- the arguments give settings, each once, that go together and make the plan
pub record SpellsPlan (words : List (List ℕ)) (plan : Plan) : Type 0 where
  pub settings : List Argument
  pub spelled : Spells words settings
  pub once : IsOnce settings
  pub together : GoTogether (Contains settings)
  pub made : Makes (Contains settings) plan

-- ---- the settings that are read so far

-- the setting is stored
abbrev pub Notes : Arguments → Argument → Type 0
Notes noted (Wrap target) = noted.wrap ≡ Some target
Notes noted (Cut target) = noted.cut ≡ Some target
Notes noted (Priority order) = noted.order ≡ Some order
Notes noted Words = noted.words ≡ true
Notes noted Stream = noted.stream ≡ true

-- a setting of this name is stored
abbrev pub NotesName : Arguments → Argument → Type 0
NotesName noted setting = (other : Argument) × Notes noted other × (name_of other ≡ name_of setting)

-- a setting of a new name is added
pub record Adds (old : Arguments) (setting : Argument) (new : Arguments) : Type 0 where
  pub fresh : ¬ NotesName old setting
  pub noted : (other : Argument) → Notes new other ↔ (Notes old other ⊎ (other ≡ setting))

-- exactly these settings are stored
abbrev pub NotesAll : Arguments → List Argument → Type 0
NotesAll noted settings = (setting : Argument) → Notes noted setting ↔ Contains settings setting

-- the settings of the arguments, each given once, are stored
pub record NotesWords (words : List (List ℕ)) (noted : Arguments) : Type 0 where
  pub settings : List Argument
  pub spelled : Spells words settings
  pub once : IsOnce settings
  pub noted_all : NotesAll noted settings
