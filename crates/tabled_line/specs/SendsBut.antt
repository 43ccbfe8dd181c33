-- Texts whose last spaces aren't written yet.
use Rattle.std.specs.Prelude.{◌≡◌, ℕ, List, ◌++◌, Result, Ok, Err}
use Rattle.tabled_base.specs.declared.error.TableError.{TableError}
use Rattle.tabled_line.specs.Fill.{fill}
use Rattle.tabled_line.specs.Sent.{Sent, Sends, Stops}

-- the text was added, except for the spaces at its end
pub record SendsBut (old new : Sent) (spaces : ℕ) (text : List ℕ) : Type 0 where
  pub sent : List ℕ
  pub sends : Sends old new sent
  pub whole : sent ++ fill 32 spaces ≡ text

-- what a call that writes the text leaves, if it returns how many spaces aren't written yet
abbrev pub WritesBut : Sent → Result ℕ TableError → Sent → List ℕ → Type 0
WritesBut old (Ok spaces) new text = SendsBut old new spaces text
WritesBut old (Err error) new text = Stops old error new text
