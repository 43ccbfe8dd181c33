-- What a caller gets: a number, and a filled buffer.
use Rattle.std.specs.Prelude.{◌≡◌, ◌⊎◌, ℕ, ℤ, pos, negsuc, List, ◌++◌, length, drop, nat_le, if◌then◌else◌}
use Rattle.tabled_c.specs.declared.error_code.ErrorCode.{ErrorCode}
use Rattle.tabled_c.specs.declared.error_code.ErrorCode.TheVariants.{Memory, Range, NoText, NoStyle, NoPlan, Ends, Counts, NoAlignment}

-- -1 to -8
abbrev pub code_of : ErrorCode → ℤ
code_of Memory = negsuc 0
code_of Range = negsuc 1
code_of NoText = negsuc 2
code_of NoStyle = negsuc 3
code_of NoPlan = negsuc 4
code_of Ends = negsuc 5
code_of Counts = negsuc 6
code_of NoAlignment = negsuc 7

-- a buffer after a text was put into it: the text, and then the old bytes; unchanged if it is too
-- small
abbrev pub with_text : List ℕ → List ℕ → List ℕ
with_text text buffer = if nat_le (length text) (length buffer) then text ++ drop (length text) buffer else buffer

-- the number of bytes of the text is returned, and the text is put into the buffer
pub record IsPut (text old : List ℕ) (answer : ℤ) (new : List ℕ) : Type 0 where
  pub count : answer ≡ pos (length text)
  pub buffer : new ≡ with_text text old

-- the code of the error is returned, and the buffer is unchanged
pub record ReturnsError (error : ErrorCode) (old : List ℕ) (answer : ℤ) (new : List ℕ) : Type 0 where
  pub code : answer ≡ code_of error
  pub buffer : new ≡ old

-- a text is returned, or an error with its cause
abbrev pub ReturnsText : (List ℕ → Type 0) → (ErrorCode → Type 0) → List ℕ → ℤ → List ℕ → Type 0
ReturnsText asked cause old answer new =
    ((text : List ℕ) × asked text × IsPut text old answer new) ⊎ ((error : ErrorCode) × cause error × ReturnsError error old answer new)
