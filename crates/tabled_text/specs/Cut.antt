-- Cutting a text to n columns, defined by comparing all beginnings of the text. Beginnings are
-- lists of characters; texts and results are lists of bytes.
use Rattle.std.specs.Prelude.{◌≡◌, ℕ, ◌+◌, ◌-◌, ◌<◌, ◌≤◌, ◌==◌, List, [], ◌∷◌, ◌++◌, chars, encode_utf8_all, length, nat_lt, take, drop, replicate, All, if◌then◌else◌}
use Rattle.std.specs.Str.{IsCharBoundary, IsUtf8}
use Rattle.tabled_text.specs.Measure.{char_count, count_of, lines_of, text_columns}

abbrev pub last_of : List (List ℕ) → List ℕ
last_of [] = []
last_of (x ∷ []) = x
last_of (x ∷ y ∷ xs) = last_of (y ∷ xs)

abbrev pub last_line : List ℕ → List ℕ
last_line cs = last_of (lines_of cs)

-- a beginning is reached if each of its lines counts at most n, and the last line of every shorter
-- beginning counts less than n
pub record IsReached (n : ℕ) (front : List ℕ) : Type 0 where
  pub fits : All (λ line. count_of line ≤ n) (lines_of front)
  pub shorter : (k : ℕ) → k < length front → count_of (last_line (take k front)) < n

-- `front` is the longest reached beginning of a text, and `rest` follows it
pub record IsLongestReached (n : ℕ) (text front rest : List ℕ) : Type 0 where
  pub parts : text ≡ front ++ rest
  pub reached : IsReached n front
  pub longest : (k : ℕ) → k ≤ length text → IsReached n (take k text) → k ≤ length front

-- the columns left in the last line if the text goes on, else 0
abbrev pub missing_columns : ℕ → List ℕ → List ℕ → ℕ
missing_columns n front [] = 0
missing_columns n front (c ∷ rest) = n - count_of (last_line front)

-- the rest after the cut, without the character that would have passed n
abbrev pub following : ℕ → List ℕ → List ℕ
following missing rest = if missing == 0 then rest else drop 1 rest

-- the cut text: the longest reached beginning, with U+FFFD in the columns left
pub record IsCut (n : ℕ) (text answer : List ℕ) : Type 0 where
  pub front : List ℕ
  pub rest : List ℕ
  pub longest : IsLongestReached n (chars text) front rest
  pub utf8 : IsUtf8 answer
  pub characters : chars answer ≡ front ++ replicate (missing_columns n front rest) 0xFFFD

-- the cut text was appended
pub record AddsCut (n : ℕ) (text old new : List ℕ) : Type 0 where
  pub piece : List ℕ
  pub cut : IsCut n text piece
  pub added : new ≡ old ++ piece

-- the cut text, and the rest after the cut
pub record IsSplit (n : ℕ) (text answer after : List ℕ) : Type 0 where
  pub cut : IsCut n text answer
  pub utf8 : IsUtf8 after
  pub characters : chars after ≡ following (missing_columns n cut.front cut.rest) cut.rest

-- U+FFFD fills columns of the cut text
pub record NeedsFill (n : ℕ) (text : List ℕ) : Type 0 where
  pub front : List ℕ
  pub rest : List ℕ
  pub longest : IsLongestReached n (chars text) front rest
  pub missing : 0 < missing_columns n front rest

-- ---- for the private function that finds the cut

-- the longest reached beginning, the columns left, and the rest after the cut
pub record IsParted (n : ℕ) (text front : List ℕ) (missing : ℕ) (after : List ℕ) : Type 0 where
  pub rest : List ℕ
  pub longest : IsLongestReached n text front rest
  pub columns : missing ≡ missing_columns n front rest
  pub dropped : after ≡ following missing rest

-- ---- the cut text as a function of the text

-- what is left of characters behind the first `used` columns of a line: nothing as soon as a line
-- has n columns, and U+FFFD in the columns left where a character would pass them
abbrev pub cut_behind : ℕ → ℕ → List ℕ → List ℕ
cut_behind n used [] = []
cut_behind n used (c ∷ cs) =
    if used == n then [] else
    if c == 10 then c ∷ cut_behind n 0 cs else
    if nat_lt n (used + char_count c) then replicate (n - used) 0xFFFD else
    c ∷ cut_behind n (used + char_count c) cs

abbrev pub cut_text : ℕ → List ℕ → List ℕ
cut_text n text = encode_utf8_all (cut_behind n 0 (chars text))

-- what is left of a text is its first bytes and a number of U+FFFD, and takes n columns
pub record IsCutAt (n : ℕ) (text : List ℕ) (bytes fills : ℕ) : Type 0 where
  pub boundary : IsCharBoundary text bytes
  pub same : cut_text n text ≡ take bytes text ++ encode_utf8_all (replicate fills 0xFFFD)
  pub columns_are : n ≡ text_columns (cut_text n text)
