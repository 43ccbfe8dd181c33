-- The greatest number that a size can be.
use Rattle.std.specs.Prelude.{ℕ}

-- the greatest `usize`, 2 ^ 64 - 1
abbrev pub greatest_usize : ℕ
greatest_usize = 18446744073709551615
