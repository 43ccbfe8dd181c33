use Rattle.tabled_line.proofs.Names.{Took, false, length, ◌≡◌}
use Rattle.tabled_line.proofs.text_sink.IoSinkTextSink.write_text.Given as goal

abbrev pub invariant-taken : goal.invariant-taken
invariant-taken g l = record {
  took : Took (record { bytes = g.W.Write.contents l.initial.self.writer; failures = l.initial.self.failures; grows = false })
      (record { bytes = g.W.Write.contents l.self.writer; failures = l.self.failures; grows = false }) l.text l.rest;
  counted : l.self.failures ≡ l.initial.self.failures;
}

abbrev pub decreases-taken : goal.decreases-taken
decreases-taken g l = length l.rest
