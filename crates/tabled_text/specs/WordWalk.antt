-- Of private steps: no public call promises this.
-- What the functions that wrap between words do, word after word and without looking ahead. Words
-- and lines are lists of characters.
use Rattle.std.specs.Prelude.{ℕ, ◌+◌, Bool, true, nat_le, List, [], ◌∷◌, ◌++◌, if◌then◌else◌}
use Rattle.tabled_text.specs.Breaking.{TextUnit, words_of}
use Rattle.tabled_text.specs.Walk.{append_all, used_after}
use Rattle.tabled_text.specs.WordWrap.{word_units}
use Rattle.tabled_text.specs.Wrapping.{needed}

-- the columns that the first unit needs
abbrev pub first_needed : ℕ → List TextUnit → ℕ
first_needed n [] = 0
first_needed n (unit ∷ units) = needed n unit

-- whether a unit of `needed` columns goes on the line after a space, where `used` columns are used
abbrev pub goes_on : ℕ → ℕ → ℕ → Bool
goes_on n used needed = nat_le (used + (1 + needed)) n

-- the column at which a further word begins, and what is written before it: a space or a line feed
abbrev pub word_at : ℕ → ℕ → ℕ → ℕ
word_at n used needed = if goes_on n used needed then used + 1 else 0

abbrev pub word_lead : ℕ → ℕ → ℕ → List ℕ
word_lead n used needed = if goes_on n used needed then 32 ∷ [] else 10 ∷ []

-- what the units of a further word write, and the columns then used in the last line
abbrev pub next_word : ℕ → ℕ → List TextUnit → List ℕ
next_word n used units = word_lead n used (first_needed n units) ++ append_all n (word_at n used (first_needed n units)) units

abbrev pub next_used : ℕ → ℕ → List TextUnit → ℕ
next_used n used units = used_after n (word_at n used (first_needed n units)) units

-- what further words write
abbrev pub next_words : ℕ → ℕ → List (List ℕ) → List ℕ
next_words n used [] = []
next_words n used (word ∷ words) = next_word n used (word_units n word) ++ next_words n (next_used n used (word_units n word)) words

-- what the words of a line write
abbrev pub line_of_words : ℕ → List (List ℕ) → List ℕ
line_of_words n [] = []
line_of_words n (word ∷ words) = append_all n 0 (word_units n word) ++ next_words n (used_after n 0 (word_units n word)) words

-- what the remaining lines write. `begun` says that a line was written before
abbrev pub pending_words : ℕ → Bool → List (List ℕ) → List ℕ
pending_words n begun [] = []
pending_words n begun (line ∷ lines) =
    (if begun then 10 ∷ [] else []) ++ (line_of_words n (words_of line) ++ pending_words n true lines)
