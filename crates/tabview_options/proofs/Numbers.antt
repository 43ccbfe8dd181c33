-- What reading a number says of its text.
use Rattle.std.proofs.Common.{ℕ, List, Option, Some, None, Result, Ok, Err}
use Rattle.std.specs.Result.{result_ok}
use Rattle.std.specs.Str.Parse.{ExplainsUnsignedError, HasUnsignedDigitsIfOk, ParsesUnsigned}
use Rattle.std.specs.declared.num.ParseIntError.{ParseIntError}
use Rattle.clap.specs.Words.{ReadsOne}
use Rattle.tabview_options.specs.Asked.{Writes}

-- what `parse` says
abbrev pub Gives : List ℕ → Result ℕ ParseIntError → Type 0
Gives text r = ParsesUnsigned 64 10 text r × ExplainsUnsignedError 10 text r × HasUnsignedDigitsIfOk text r

pub writes : (text : List ℕ) (number : Option ℕ) → ReadsOne Gives text number → Writes text number
writes text (Some number) h = h.0
writes text None h = h.1.0

pub writes_ok : (text : List ℕ) (r : Result ℕ ParseIntError) → Gives text r → Writes text (result_ok r)
writes_ok text (Ok number) h = h.0
writes_ok text (Err e) h = h.0
