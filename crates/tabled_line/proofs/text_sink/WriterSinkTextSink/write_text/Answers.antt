use Rattle.tabled_line.proofs.Names.{Keeps, arith, length, refl, rules, ◌<◌}
use Rattle.tabled_line.proofs.Sending.{took-more}
use Rattle.tabled_line.proofs.Writers.{kept-failed, kept-none, named-appends, took-failed}
use Rattle.tabled_line.proofs.text_sink.WriterSinkTextSink.write_text.Goals as goal
use Rattle.tabled_line.proofs.text_sink.WriterSinkTextSink.write_text.Goals.{in_default-via-in-Ok+else-n-gt0, in_default-via-in_default}

pub taken-preserved : goal.taken-preserved
taken-preserved g c = record {
  took = took-more _ _ _ _ _ _ _ c.taken.invariant.took
      (record { added = named-appends _ _ _ _ c.in-Ok.ensures.bytes; counted = omega arith; alike = refl }) c.split_at.ensures.back;
  was_open = c.taken.invariant.was_open;
  unfailed = c.taken.invariant.unfailed;
}

pub returns-in_default : goal.returns-in_default
returns-in_default g c =
    let kept : Keeps (g.W.Write.contents c.taken.self.writer.now) (g.W.Write.contents c.write.new.self) =
    elim c.in_default.branch [
      | in_default-via-in-Ok+else-n-gt0 w ↦ kept-none _ _ w.in-Ok.n _ w.if-n-gt0.false w.in-Ok.ensures.bytes
      | in_default-via-in_default w ↦ kept-failed _ _ _ w.in_default.not-Ok c.write.ensures.bytes
    ] in
    let some : 0 < length c.taken.rest.now = search rules in
    record {
      written = took-failed _ _ _ _ _ _ _ _ c.taken.rest.now c.taken.invariant.was_open refl c.taken.invariant.took some kept;
    }
