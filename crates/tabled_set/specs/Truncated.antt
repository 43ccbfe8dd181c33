-- What a text becomes if it is truncated to a content size with a suffix. Texts are lists of bytes.
use Rattle.std.specs.Prelude.{◌≡◌, ℕ, ◌+◌, ◌-◌, Bool, ◌==◌, nat_lt, List, [], ◌++◌, MatchBool, encode_utf8_all, length, replicate, sum_by, true, ◌∷◌, take}
use Rattle.std.specs.List.{AllZip, join_with_byte}
use Rattle.tabled_set.specs.Common.{IsAdditiveColumn, IsCut, IsExactLine, IsLongestCut, line_columns, lines_of, NeedsFill}
pub use Rattle.tabled_set.specs.declared.truncate.SuffixLimit.{SuffixLimit}
pub use Rattle.tabled_set.specs.declared.truncate.SuffixLimit.TheVariants.{Cut, Ignore, Replace}
use Rattle.std.specs.Str.{IsCharBoundary}
use Rattle.tabled_base.specs.ShortOr.{FitsBehind}
use Rattle.tabled_set.specs.declared.resize.Beginning.{Beginning}

-- ---- the suffix

-- the columns of a suffix: those of its lines, and one for each line feed
abbrev pub suffix_columns : List ℕ → ℕ
suffix_columns suffix = sum_by line_columns (lines_of suffix) + (length (lines_of suffix) - 1)

-- what is written for a suffix as wide as the content size or wider, and the columns that it leaves
-- to the text
abbrev pub IsLimited : ℕ → List ℕ → SuffixLimit → List ℕ → ℕ → Type 0
IsLimited content_size suffix Cut used left = IsCut content_size suffix used × (left ≡ 0)
IsLimited content_size suffix Ignore used left = (used ≡ []) × (left ≡ content_size)
IsLimited content_size suffix (Replace c) used left = (used ≡ encode_utf8_all (replicate content_size c)) × (left ≡ 0)

-- what is written for a suffix, and the columns that it leaves: the whole suffix if it leaves any,
-- else what its limit says. Nothing is written if the content size is 0
abbrev pub IsUsed : ℕ → List ℕ → SuffixLimit → List ℕ → ℕ → Type 0
IsUsed content_size suffix limit used left =
    MatchBool (content_size == 0) ((used ≡ []) × (left ≡ 0))
    (MatchBool (nat_lt (suffix_columns suffix) content_size) ((used ≡ suffix) × (left ≡ content_size - suffix_columns suffix))
    (IsLimited content_size suffix limit used left))

-- ---- the text

-- a text cut to n columns, and then the suffix that is written; only that if n is 0
pub record IsEnded (n : ℕ) (used text answer : List ℕ) : Type 0 where
  pub front : List ℕ
  pub cut : IsCut n text front
  pub answered : answer ≡ front ++ used

-- each line is cut and has the suffix, even a short one
pub record HasEndedLines (left : ℕ) (used text answer : List ℕ) : Type 0 where
  pub lines : List (List ℕ)
  pub each : AllZip (IsEnded left used) (lines_of text) lines
  pub joined : answer ≡ join_with_byte 10 lines

-- a text truncated to a content size with a suffix, as a whole or line by line
pub record IsTruncated (content_size : ℕ) (suffix : List ℕ) (limit : SuffixLimit) (multiline : Bool) (text answer : List ℕ) : Type 0 where
  pub used : List ℕ
  pub left : ℕ
  pub suffix_used : IsUsed content_size suffix limit used left
  pub answered : MatchBool multiline (HasEndedLines left used text answer) (IsEnded left used text answer)

-- ---- for the private functions that append a text

-- the text was appended, with its suffix
pub record AddsEnded (left : ℕ) (used text old new : List ℕ) : Type 0 where
  pub piece : List ℕ
  pub ended : IsEnded left used text piece
  pub added : new ≡ old ++ piece

-- a character that replaces the suffix is additive and takes one column
abbrev pub IsAdditiveLimit : SuffixLimit → Type 0
IsAdditiveLimit Cut = Unit {0}
IsAdditiveLimit Ignore = Unit {0}
IsAdditiveLimit (Replace c) = IsAdditiveColumn c

-- each line of a text becomes a line; one whose width is the sum of its characters' widths, each at
-- least 1, becomes the longest beginning that fits
pub record HasLongestLines (content_size : ℕ) (text answer : List ℕ) : Type 0 where
  pub lines : List (List ℕ)
  pub each : AllZip (λ line cut. IsExactLine line → IsLongestCut content_size line cut) (lines_of text) lines
  pub joined : answer ≡ join_with_byte 10 lines

-- ---- in place

-- a beginning of a text, with its ending
abbrev pub ended_text : Beginning → List ℕ → List ℕ
ended_text kept text = take kept.bytes text ++ kept.ending.now

-- ---- the suffix

-- a suffix that leaves the text no column has to be allocated: for copies of a character, or for a
-- beginning that is filled with U+FFFD
abbrev pub NeedsNewSuffixFor : ℕ → List ℕ → SuffixLimit → Type 0
NeedsNewSuffixFor content_size suffix Cut = NeedsFill content_size suffix
NeedsNewSuffixFor content_size suffix Ignore = ⊥
NeedsNewSuffixFor content_size suffix (Replace c) = Unit {0}

-- whether a suffix has to be allocated: not if the content size is 0, as then it is left out, and
-- not if it leaves the text a column
abbrev pub NeedsNewSuffix : ℕ → List ℕ → SuffixLimit → Type 0
NeedsNewSuffix content_size suffix limit = MatchBool (content_size == 0) ⊥ (MatchBool (nat_lt (suffix_columns suffix) content_size) ⊥ (NeedsNewSuffixFor content_size suffix limit))

-- ---- the text

-- `bytes` is the length of a text cut to n columns, which isn't filled with U+FFFD
pub record IsCutAt (columns : ℕ) (text : List ℕ) (bytes : ℕ) : Type 0 where
  pub cut : IsCut columns text (take bytes text)
  pub boundary : IsCharBoundary text bytes
  pub whole : NeedsFill columns text → ⊥

-- a text is truncated in place: it is cut as a whole (with `multiline` it has one line), its suffix
-- isn't allocated, and the suffix fits after what is left of the text
pub record IsTruncatedInPlace (content_size : ℕ) (suffix : List ℕ) (limit : SuffixLimit) (multiline : Bool) (text : List ℕ) : Type 0 where
  pub one_line : multiline ≡ true → lines_of text ≡ text ∷ []
  pub used : List ℕ
  pub left : ℕ
  pub suffix_used : IsUsed content_size suffix limit used left
  pub lent : NeedsNewSuffix content_size suffix limit → ⊥
  pub bytes : ℕ
  pub kept : IsCutAt left text bytes
  pub fits : FitsBehind bytes used

-- the same, as a relation of a content size and a text
abbrev pub truncating_in_place : List ℕ → SuffixLimit → Bool → ℕ → List ℕ → Type 0
truncating_in_place suffix limit multiline content_size text = IsTruncatedInPlace content_size suffix limit multiline text
