-- Dates and times of digits. A text is a list of bytes.
use Rattle.std.specs.Prelude.{ℕ, ◌==◌, ◌&&◌, ◌||◌, Bool, false, List, [], ◌∷◌, codes, if◌then◌else◌, length}
use Rattle.std.specs.Char.{is_ascii_digit}

-- a byte that fits one of a shape: a digit for `0`, else the same byte
abbrev pub fits_byte : ℕ → ℕ → Bool
fits_byte byte shape = if shape == 48 then is_ascii_digit byte else byte == shape

-- a text that fits a shape, byte by byte
abbrev pub fits_shape : List ℕ → List ℕ → Bool
fits_shape [] shape = length shape == 0
fits_shape (b ∷ bs) [] = false
fits_shape (b ∷ bs) (s ∷ ss) = fits_byte b s && fits_shape bs ss

-- a day
abbrev pub is_day : List ℕ → Bool
is_day text =
    fits_shape text (codes "0000-00-00")
    || (fits_shape text (codes "0000/00/00") || (fits_shape text (codes "00/00/0000") || fits_shape text (codes "00.00.0000")))

-- a time, or a month
abbrev pub is_clock : List ℕ → Bool
is_clock text = fits_shape text (codes "00:00") || (fits_shape text (codes "00:00:00") || fits_shape text (codes "0000-00"))

-- a day with a time
abbrev pub is_moment : List ℕ → Bool
is_moment text =
    fits_shape text (codes "0000-00-00 00:00")
    || (fits_shape text (codes "0000-00-00T00:00")
    || (fits_shape text (codes "0000-00-00 00:00:00") || fits_shape text (codes "0000-00-00T00:00:00")))

-- a day with a time in UTC, or in milliseconds
abbrev pub is_instant : List ℕ → Bool
is_instant text =
    fits_shape text (codes "0000-00-00T00:00:00Z")
    || (fits_shape text (codes "0000-00-00 00:00:00.000") || fits_shape text (codes "0000-00-00T00:00:00.000Z"))

abbrev pub is_date : List ℕ → Bool
is_date text = is_day text || (is_clock text || (is_moment text || is_instant text))
