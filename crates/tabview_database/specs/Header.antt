-- What the header of a database says. It is the first 100 bytes of its first page.
use Rattle.std.specs.Prelude.{◌==◌, ◌||◌, ◌+◌, ℕ, Bool, not, if◌then◌else◌, List, Option, Some, None, slice_index}
use Rattle.tabview_database.specs.declared.error.Lack.{Lack}
use Rattle.tabview_database.specs.declared.error.Lack.TheVariants.{AutoVacuum, Utf16}

-- eight bytes of each page are reserved
abbrev pub has_sums : List ℕ → Bool
has_sums bytes = slice_index bytes 20 == 8

-- the number at 52, the largest root page, isn't 0
abbrev pub has_parents : List ℕ → Bool
has_parents bytes = not (slice_index bytes 52 + slice_index bytes 53 + (slice_index bytes 54 + slice_index bytes 55) == 0)

-- the number at 56, the encoding of texts, is that of UTF-16
abbrev pub has_encoding : List ℕ → Bool
has_encoding bytes = (slice_index bytes 59 == 2) || (slice_index bytes 59 == 3)

abbrev pub lack_of : List ℕ → Option Lack
lack_of bytes = if has_parents bytes then Some AutoVacuum else (if has_encoding bytes then Some Utf16 else None)
