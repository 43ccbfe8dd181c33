-- What an error leaves of a text whose first lines are written.
use Rattle.std.specs.Prelude.{◌≡◌, ◌++◌, ℕ, List}
use Rattle.tabled_base.specs.declared.error.TableError.{TableError}
use Rattle.tabled_line.specs.Sent.{Sent, Stops}

-- a beginning of the text was added before an error with its cause, and it starts with `above`
pub record StopsBelow (above : List ℕ) (old : Sent) (error : TableError) (new : Sent) (text : List ℕ) : Type 0 where
  pub stops : Stops old error new text
  pub more : List ℕ
  pub out : stops.front ≡ above ++ more
