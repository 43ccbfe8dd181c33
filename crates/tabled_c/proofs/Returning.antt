-- What a caller gets, by what was made.
use Rattle.std.proofs.Common.{Err, List, Ok, Result, inl, inr, subst, sym, ℕ, ℤ, ◌≡◌}
use Rattle.std.proofs.Common.{String, Global, string_bytes}
use Rattle.std.specs.Prelude.{IfErr, IfOk, MatchResult}
use Rattle.std.specs.Result.{IsErrAnd}
use Rattle.tabled_c.specs.ReturnsText.{ReturnsError, IsPut, ReturnsText}
use Rattle.tabled_c.specs.declared.error_code.ErrorCode.{ErrorCode}

pub returns_made : (asked : List ℕ → Type 0) (cause : ErrorCode → Type 0) (made : Result (String Global) ErrorCode) (old : List ℕ) (answer : ℤ) (new : List ℕ)
    → IfOk made (λ text. asked (string_bytes text)) → IfErr made cause
    → MatchResult made (λ text. IsPut (string_bytes text) old answer new) (λ error. ReturnsError error old answer new)
    → ReturnsText asked cause old answer new
returns_made asked cause (Ok text) old answer new ok err h = inl (string_bytes text, ok, h)
returns_made asked cause (Err error) old answer new ok err h = inr (error, err, h)

-- an error that is passed on
pub passed_on : {T : Type 0} (cause : ErrorCode → Type 0) (made : Result T ErrorCode) (error : ErrorCode) → IsErrAnd made (λ e. e ≡ error) → cause error → IfErr made cause
passed_on cause (Ok x) error is h = tt
passed_on cause (Err e) error is h = subst cause (sym is) h
