use Rattle.tabled.proofs.Names.{Writes, block, sent_since, subst}
use Rattle.tabled.proofs.BytesSince.{since_writes}
use Rattle.tabled.proofs.block_sink.BytesSinceTextSink.write_text.Goals as goal

pub returns : goal.returns
returns g c =
    let name = g.B.WriterStart.name in
    let held = g.B.WriterStart.held in
    let a = block g.W.Write.contents c.args.self.now.sink in
    let b = block g.W.Write.contents c.buffer_parts.new.self in
    record {
      written = subst (λ text. Writes (sent_since name held a) c.buffer_parts.result (sent_since name held b) text) c.as_bytes-2.ensures.value
          (since_writes name held a b c.buffer_parts.result _ c.buffer_parts.ensures.written c.buffer_parts.ensures.advanced);
    }
