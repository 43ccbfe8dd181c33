-- Bytes that are copied over those of a line.
use Rattle.std.specs.Prelude.{◌≡◌, ◌++◌, ℕ, ◌+◌, ◌≤◌, List, drop, length, take}

-- `line` is `old` with these bytes from `place` on. It is as long as `old`, and the same behind the
-- bytes. Its start is that of `old` up to `place`, and then the bytes, or as many as are asked for.
pub record IsCopied (place : ℕ) (bytes old line : List ℕ) : Type 0 where
  pub same : length line ≡ length old
  pub rest : drop (place + length bytes) line ≡ drop (place + length bytes) old
  pub copied : (count : ℕ) → count ≤ length bytes → take (place + count) line ≡ take place old ++ take count bytes
