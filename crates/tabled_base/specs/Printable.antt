-- Printable ASCII: characters of one byte and one column each. A text is a list of bytes.
use Rattle.std.specs.Prelude.{◌≡◌, ℕ, Bool, List, true}
use Rattle.std.specs.Int.{is_in_range}
use Rattle.std.specs.List.{list_all}

abbrev pub is_printable : List ℕ → Bool
is_printable text = list_all (is_in_range 0x20 0x7E) text

abbrev pub IsPrintableAscii : List ℕ → Type 0
IsPrintableAscii text = is_printable text ≡ true
