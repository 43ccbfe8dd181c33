-- What contracts say of a borrowed writer after a call that prints to it.
use Rattle.std.specs.Prelude.{ℕ, ◌-◌, ◌^◌, false, List, [], ◌∷◌, Option, None, Some, Result, Err, is_some}
use Rattle.std.specs.Io.KnownBytes.{append_known, prepend_known}
use Rattle.tabled_base.specs.declared.error.TableError.{TableError}
use Rattle.tabled_base.specs.declared.error.TableError.TheVariants.{Writer}
use Rattle.tabled_line.specs.Sent.{Sent}
use Rattle.tabled_line.specs.declared.text_sink.IoSink.{IoSink}
use Rattle.tabled_line.specs.declared.text_sink.WriterSink.{WriterSink}

-- the byte at which a write failed, if one did
abbrev pub failed_byte : Option ℕ → List ℕ
failed_byte None = []
failed_byte (Some byte) = byte ∷ []

-- the count of failures: the maximum after a failed write, otherwise 0
abbrev pub failed_count : Option ℕ → ℕ
failed_count None = 0
failed_count (Some byte) = 2 ^ 64 - 1

-- what the sink of a borrowed writer was sent, from the name of the reference and the contents of
-- the writer. The bytes start with the name, so that the writer is the same if they are known.
-- After a failed write they end with its byte, so that they are longer than the contents. `grows`
-- is true after a failure: a successful call leaves `grows` unchanged, so it had no failure
abbrev pub named_sent : ℕ → Option (List ℕ) → Option ℕ → Sent
named_sent name contents failed_at =
    record {
      bytes = prepend_known (name ∷ []) (append_known contents (failed_byte failed_at));
      failures = failed_count failed_at;
      grows = is_some failed_at;
    }

-- what the sink that owns its writer was sent
abbrev pub io_sink_sent : {W : Type 0} → (W → Option (List ℕ)) → IoSink W → Sent
io_sink_sent contents s = record { bytes = contents s.writer; failures = s.failures; grows = false }

abbrev pub writer_sink_sent : {W : Type 0} → (W → Option (List ℕ)) → WriterSink W → Sent
writer_sink_sent contents s = named_sent s.writer.ghost_name (contents s.writer.now) s.failed_at

-- ---- for the caller

-- the contents of a writer, if they were known before
abbrev pub known_since : Option (List ℕ) → Option (List ℕ) → Option (List ℕ)
known_since None new = None
known_since (Some held) new = new

-- a writer before a call
abbrev pub writer_before : Option (List ℕ) → Sent
writer_before contents = record { bytes = contents; failures = 0; grows = false }

-- a writer after a call: it has exactly what was sent, or a write failed, and the text continues
-- with a byte that the writer doesn't have
abbrev pub writer_after : {T : Type 0} → Result T TableError → Option (List ℕ) → ℕ → Sent
writer_after (Err Writer) contents byte = record { bytes = append_known contents (byte ∷ []); failures = 1; grows = false }
writer_after _ contents byte = record { bytes = contents; failures = 0; grows = false }
