-- What a sink was sent, and what a call that writes a text leaves.
use Rattle.std.specs.Prelude.{◌≡◌, ℕ, ◌-◌, ◌^◌, ◌<◌, ◌≤◌, ◌⊎◌, Bool, true, List, ◌++◌, Option, Some, Result, Ok, Err}
use Rattle.std.specs.Io.KnownBytes.{Appends}
use Rattle.tabled_base.specs.declared.error.TableError.{TableError}
use Rattle.tabled_base.specs.declared.error.TableError.TheVariants.{Memory, Writer}

-- the bytes that a sink took, if they are known; how often it failed; and whether it grows, so that
-- an allocation can fail
pub record Sent : Type 0 where
  pub bytes : Option (List ℕ)
  pub failures : ℕ
  pub grows : Bool

-- what a sink in memory was sent: no write fails, and it grows
abbrev pub memory_sent : List ℕ → Sent
memory_sent bytes = record { bytes = Some bytes; failures = 0; grows = true }

-- the count rose, or is at its maximum
abbrev pub Rose : ℕ → ℕ → Type 0
Rose old new = (old < new) ⊎ (new ≡ 2 ^ 64 - 1)

-- why a sink fails. `Memory`: it grows, and the count didn't fall. `Writer`: a write failed, and
-- the count rose
abbrev pub IsCause : TableError → Bool → ℕ → ℕ → Type 0
IsCause Memory grows old new = (grows ≡ true) × (old ≤ new)
IsCause Writer grows old new = Rose old new
IsCause _ grows old new = ⊥

-- exactly the text was added, and whether the sink grows is unchanged
pub record Sends (old new : Sent) (text : List ℕ) : Type 0 where
  pub added : Appends old.bytes new.bytes text
  pub counted : old.failures ≤ new.failures
  pub alike : new.grows ≡ old.grows

-- a beginning of the text was added before an error with this cause
pub record Stops (old : Sent) (error : TableError) (new : Sent) (text : List ℕ) : Type 0 where
  pub front : List ℕ
  pub rest : List ℕ
  pub whole : front ++ rest ≡ text
  pub added : Appends old.bytes new.bytes front
  pub cause : IsCause error old.grows old.failures new.failures

-- what a call that writes the text leaves, by its result
abbrev pub Writes : {T : Type 0} → Sent → Result T TableError → Sent → List ℕ → Type 0
Writes old (Ok _) new text = Sends old new text
Writes old (Err error) new text = Stops old error new text

-- while a text is written: what was taken so far, and the rest
pub record Took (old new : Sent) (text rest : List ℕ) : Type 0 where
  pub front : List ℕ
  pub whole : front ++ rest ≡ text
  pub sends : Sends old new front
