-- The lines that an iterator over lines has yet to yield.
use Rattle.std.specs.Prelude.{ℕ, List, [], Option, Some, None}
use Rattle.std.specs.Borrow.{Bor}
use Rattle.tabled_text.specs.declared.measure.TextLines.{TextLines}
use Rattle.tabled_text.specs.Measure.{lines_of}

-- the lines of a text, or none if there is no text
abbrev pub lines_in : Option (Bor (List ℕ)) → List (List ℕ)
lines_in (Some text) = lines_of text.now
lines_in None = []

-- the lines yet to come
abbrev pub lines_left : TextLines → List (List ℕ)
lines_left it = lines_in it.rest
