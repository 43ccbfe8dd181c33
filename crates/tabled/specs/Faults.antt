-- The message of each fault. A word and a line are lists of bytes.
use Rattle.std.specs.Prelude.{ℕ, List, [], ◌∷◌, ◌++◌, codes}
use Rattle.tabled_base.specs.declared.error.TableError.TheVariants.{Memory, ShortWidths, ShortHeights, Narrow, Range, Writer}
use Rattle.tabled.specs.declared.program.Fault.{Fault}
use Rattle.tabled.specs.declared.program.Fault.TheVariants.{Usage, Input, Table}

-- the message for wrong arguments
abbrev pub usage : List ℕ
usage = codes "usage: tabprint [--wrap N | --cut N] [--priority none|min|max|left|right] [--words] [--stream]"

-- the message of each fault: its name, or the usage
abbrev pub word_of : Fault → List ℕ
word_of Usage = usage
word_of Input = codes "Input"
word_of (Table Memory) = codes "Memory"
word_of (Table ShortWidths) = codes "ShortWidths"
word_of (Table ShortHeights) = codes "ShortHeights"
word_of (Table (Narrow row column)) = codes "Narrow"
word_of (Table Range) = codes "Range"
word_of (Table Writer) = codes "Writer"

-- a word and a line feed
abbrev pub line_of : List ℕ → List ℕ
line_of word = word ++ 10 ∷ []
