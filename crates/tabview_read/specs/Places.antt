-- Places in a text of bytes.
use Rattle.std.specs.Prelude.{ℕ, ◌+◌, ◌-◌, ◌==◌, Bool, List, if◌then◌else◌, fold, min, nat_le, ◌^◌}
use Rattle.std.specs.Int.{is_in_range}

-- a byte within a character of UTF-8
abbrev pub is_within : ℕ → Bool
is_within byte = is_in_range 0x80 0xBF byte

-- one more, at most the greatest number of 64 bits
abbrev pub counted : ℕ → ℕ
counted n = min (n + 1) (2 ^ 64 - 1)

-- the line behind one more byte: a line feed begins a line
abbrev pub line_step : ℕ → ℕ → ℕ
line_step line byte = if byte == 10 then counted line else line

-- the column behind one more byte: lines begin at column 1, and each character takes one
abbrev pub column_step : ℕ → ℕ → ℕ
column_step column byte = if byte == 10 then 1 else if is_within byte then column else counted column

-- the line and the column behind some bytes
abbrev pub line_after : List ℕ → ℕ
line_after bytes = fold line_step 1 bytes

abbrev pub column_after : List ℕ → ℕ
column_after bytes = fold column_step 1 bytes

-- the line of a place in a text that begins in a line
abbrev pub line_behind : ℕ → ℕ → ℕ
line_behind begin line = min (begin + (line - 1)) (2 ^ 64 - 1)

-- the column of a place in a text that begins at a column: in its first line it begins there
abbrev pub column_behind : ℕ → ℕ → ℕ → ℕ
column_behind begin line column = if nat_le line 1 then min (begin + (column - 1)) (2 ^ 64 - 1) else column
