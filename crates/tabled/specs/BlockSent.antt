-- The bytes sent to a sink with a buffer, and those that its writer has.
use Rattle.std.specs.Prelude.{◌≡◌, ℕ, ◌==◌, ◌&&◌, if◌then◌else◌, Bool, true, false, List, [], ◌∷◌, Option, Some, None, drop, take}
use Rattle.std.specs.Io.KnownBytes.{Appends, append_known}
use Rattle.tabled_line.specs.Sent.{Sent}
use Rattle.tabled.specs.declared.block_sink.BlockSink.{BlockSink}
use Rattle.tabled.specs.declared.block_buffer.BlockBuffer.{BlockBuffer}

-- the buffered bytes that the writer didn't take yet
abbrev pub waiting : BlockBuffer → List ℕ
waiting held = drop held.taken (take held.used held.bytes.items)

-- a writer with a buffer: the name of the reference to the writer, the contents of the writer, the
-- buffered bytes, and the number of failures
pub record Block : Type 0 where
  pub name : ℕ
  pub contents : Option (List ℕ)
  pub waiting : List ℕ
  pub failures : ℕ

-- the block of a sink
abbrev pub block : {W : Type 0} → (W → Option (List ℕ)) → BlockSink W → Block
block contents s =
    record { name = s.writer.ghost_name; contents = contents s.writer.now; waiting = waiting s.held.now; failures = s.failures }

-- the contents of the writer, and then the buffered bytes
abbrev pub block_sent : Block → Sent
block_sent b = record { bytes = append_known b.contents b.waiting; failures = b.failures; grows = true }

-- the writer is the same, and its contents grew by some bytes
pub record Advances (old new : Block) : Type 0 where
  pub same : new.name ≡ old.name
  pub more : List ℕ
  pub added : Appends old.contents new.contents more

-- ---- a block whose writer is known

-- whether a list begins with another one
abbrev pub begins : List ℕ → List ℕ → Bool
begins [] ys = true
begins (x ∷ xs) [] = false
begins (x ∷ xs) (y ∷ ys) = (x == y) && begins xs ys

-- the contents of a writer, known if it has the name and the beginning of the start
abbrev pub since : ℕ → List ℕ → ℕ → Option (List ℕ) → Option (List ℕ)
since start held name None = None
since start held name (Some ys) = if (start == name) && begins held ys then Some ys else None

-- the bytes sent to a block, known while its writer is the one of the start
abbrev pub sent_since : ℕ → List ℕ → Block → Sent
sent_since start held b =
    record { bytes = append_known (since start held b.name b.contents) b.waiting; failures = b.failures; grows = true }
