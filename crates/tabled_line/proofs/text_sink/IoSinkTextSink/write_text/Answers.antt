use Rattle.tabled_line.proofs.Names.{arith, refl}
use Rattle.tabled_line.proofs.Sending.{took-more}
use Rattle.tabled_line.proofs.text_sink.IoSinkTextSink.write_text.Goals as goal

pub taken-preserved : goal.taken-preserved
taken-preserved g c = record {
  took = took-more _ _ _ _ _ _ _ c.taken.invariant.took (record { added = c.in-Ok.ensures.bytes; counted = omega arith; alike = refl }) c.split_at.ensures.back;
  counted = c.taken.invariant.counted;
}
