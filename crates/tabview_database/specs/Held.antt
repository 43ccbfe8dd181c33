-- What a file in memory shows.
use Rattle.std.specs.Prelude.{ℕ, List}
use Rattle.tabview_database.specs.declared.held.Held.{Held}

-- its bytes
abbrev pub held_bytes : Held → List ℕ
held_bytes m = m.bytes.items
