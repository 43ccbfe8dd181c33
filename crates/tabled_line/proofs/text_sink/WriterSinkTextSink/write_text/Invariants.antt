use Rattle.tabled_line.proofs.Names.{None, Took, length, named_sent, ◌≡◌}
use Rattle.tabled_line.proofs.text_sink.WriterSinkTextSink.write_text.Given as goal

abbrev pub invariant-taken : goal.invariant-taken
invariant-taken g l = record {
  took : Took (named_sent l.initial.self.writer.ghost_name (g.W.Write.contents l.initial.self.writer.now) None)
      (named_sent l.self.writer.ghost_name (g.W.Write.contents l.self.writer.now) None) l.text l.rest;
  was_open : l.initial.self.failed_at ≡ None;
  unfailed : l.self.failed_at ≡ None;
}

abbrev pub decreases-taken : goal.decreases-taken
decreases-taken g l = length l.rest
