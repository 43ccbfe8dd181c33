-- The longest beginning of a line that fits. Beginnings are lists of characters; lines and results
-- are lists of bytes.
use Rattle.std.specs.Prelude.{◌≡◌, ℕ, ◌≤◌, ◌++◌, List, chars, length, take, replicate}
use Rattle.tabled_text.specs.Measure.{columns_of}
use Rattle.tabled_text.specs.Cut.{missing_columns}

pub record IsLongestFitting (n : ℕ) (line front : List ℕ) : Type 0 where
  pub beginning : front ≡ take (length front) line
  pub fits : columns_of front ≤ n
  pub longest : (k : ℕ) → k ≤ length line → columns_of (take k line) ≤ n → k ≤ length front

-- the longest beginning that fits, with U+FFFD in the columns that a dropped character leaves
pub record IsLongestCut (n : ℕ) (line answer : List ℕ) : Type 0 where
  pub front : List ℕ
  pub rest : List ℕ
  pub parts : chars line ≡ front ++ rest
  pub longest : IsLongestFitting n (chars line) front
  pub answered : chars answer ≡ front ++ replicate (missing_columns n front rest) 0xFFFD
