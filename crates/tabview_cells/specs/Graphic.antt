-- Printable ASCII without spaces. A text is a list of bytes.
use Rattle.std.specs.Prelude.{ℕ, Bool, List}
use Rattle.std.specs.Int.{is_in_range}
use Rattle.std.specs.List.{list_all}

abbrev pub is_graphic : List ℕ → Bool
is_graphic text = list_all (is_in_range 0x21 0x7E) text
