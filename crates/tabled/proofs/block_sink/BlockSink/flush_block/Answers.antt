use Rattle.tabled.proofs.Names.{Appends-nil, Keeps, [], arith, further, refl, sym, take, waiting}
use Rattle.std.proofs.lemmas.List.{drop-drop}
use Rattle.tabled.proofs.BytesSince.{advances_then, failed, took}
use Rattle.tabled_line.proofs.Writers.{kept-failed, kept-none}
use Rattle.tabled.proofs.block_sink.BlockSink.flush_block.Goals as goal
use Rattle.tabled.proofs.block_sink.BlockSink.flush_block.Goals.{in_default-via-in-Ok+else-n-gt0, in_default-via-in_default}

pub taken-preserved : goal.taken-preserved
taken-preserved g c = record {
  sends = further c.taken.invariant.sends
      (record {
        added = took _ _ (waiting c.taken.self.held.now) _ _ c.in-Ok.n c.rest.ensures
            (sym (drop-drop c.in-Ok.n c.taken.self.held.now.taken (take c.taken.self.held.now.used c.taken.self.held.now.bytes.items)))
            c.in-Ok.ensures.bytes;
        counted = omega arith;
        alike = refl;
      })
      refl;
  advanced = advances_then _ _ _ c.taken.invariant.advanced (record { same = refl; more = _; added = c.in-Ok.ensures.bytes });
}

pub returns-in_default-clause-written : goal.returns-in_default-clause-written
returns-in_default-clause-written g c =
    let kept : Keeps (g.W.Write.contents c.taken.self.writer.now) (g.W.Write.contents c.write.new.self) =
    elim c.in_default.branch [
      | in_default-via-in-Ok+else-n-gt0 w ↦ kept-none _ _ w.in-Ok.n _ w.if-n-gt0.false
          w.in-Ok.ensures.bytes
      | in_default-via-in_default w ↦ kept-failed _ _ _ w.in_default.not-Ok c.write.ensures.bytes
    ] in
    failed _ _ _ (waiting c.taken.self.held.now) c.taken.self.failures _ _ c.taken.invariant.sends kept
    c.fail-in_default.ensures.sent c.fail-in_default.ensures.rose c.fail-in_default.ensures.error

pub returns-in_default-clause-advanced : goal.returns-in_default-clause-advanced
returns-in_default-clause-advanced g c =
    let kept : Keeps (g.W.Write.contents c.taken.self.writer.now) (g.W.Write.contents c.write.new.self) =
    elim c.in_default.branch [
      | in_default-via-in-Ok+else-n-gt0 w ↦ kept-none _ _ w.in-Ok.n _ w.if-n-gt0.false
          w.in-Ok.ensures.bytes
      | in_default-via-in_default w ↦ kept-failed _ _ _ w.in_default.not-Ok c.write.ensures.bytes
    ] in
    advances_then _ _ _ (advances_then _ _ _ c.taken.invariant.advanced
    (record { same = refl; more = []; added = Appends-nil _ _ kept })) c.fail-in_default.ensures.advanced
