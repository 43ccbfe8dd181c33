-- Runs of bytes within a range.
use Rattle.std.specs.Prelude.{ℕ, ◌≡◌, ◌+◌, ◌<◌, ◌≤◌, List, MatchOption, Option, drop, false, length, slice_index, take, true}
use Rattle.std.specs.Borrow.{Bor}
use Rattle.std.specs.Int.{is_in_range}
use Rattle.std.specs.Str.{IsUtf8}

-- all bytes with an index from `from` and below `end` are in the range
abbrev pub LieWithin : (first last : ℕ) (bytes : List ℕ) (from end : ℕ) → Type 0
LieWithin first last bytes from end = (k : ℕ) → from ≤ k → k < end → is_in_range first last (slice_index bytes k) ≡ true

-- the run from `start` ends at `place`: the index of the first byte outside of the range, or else
-- the length
pub record EndsRun (first last : ℕ) (bytes : List ℕ) (start place : ℕ) : Type 0 where
  pub from : start ≤ place
  pub end : place ≤ length bytes
  pub passed : LieWithin first last bytes start place
  pub stops : place < length bytes → is_in_range first last (slice_index bytes place) ≡ false

-- no byte below `end` equals `byte`
abbrev pub IsMissing : (byte : ℕ) (bytes : List ℕ) (end : ℕ) → Type 0
IsMissing byte bytes end = (k : ℕ) → k < end → slice_index bytes k ≡ byte → ⊥

-- `place` is the index of the first byte that equals `byte`, or else the length
pub record IsFirstAt (byte : ℕ) (bytes : List ℕ) (place : ℕ) : Type 0 where
  pub end : place ≤ length bytes
  pub before : IsMissing byte bytes place
  pub found : place < length bytes → slice_index bytes place ≡ byte

-- what is before and after the first byte that equals `byte`: all and nothing if there is none
pub record IsSplitAt (byte : ℕ) (text front : List ℕ) (after : Option (Bor (List ℕ))) : Type 0 where
  pub first : IsFirstAt byte text (length front)
  pub front_is : front ≡ take (length front) text
  pub utf8 : IsUtf8 front
  pub after_is : MatchOption after (length front ≡ length text) (λ rest.
      (length front < length text) × (rest.now ≡ drop (length front + 1) text) × IsUtf8 rest.now)
