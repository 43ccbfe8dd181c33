use Rattle.tabled.proofs.Names.{Appends-nil, [], refl, waiting}
use Rattle.tabled.proofs.BytesSince.{advances_then, failed}
use Rattle.tabled.proofs.block_sink.BlockSink.finish.Goals as goal

pub returns-then-is_err-clause-written : goal.returns-then-is_err-clause-written
returns-then-is_err-clause-written g c =
    failed _ (g.W.Write.contents c.flush_block.new.self.writer.now) (g.W.Write.contents c.flush.new.self)
    (waiting c.flush_block.new.self.held.now) c.flush_block.new.self.failures _ _
    c.in_ok-flush_block.ensures.written c.flush.ensures.bytes c.fail.ensures.sent c.fail.ensures.rose c.fail.ensures.error

pub returns-then-is_err-clause-advanced : goal.returns-then-is_err-clause-advanced
returns-then-is_err-clause-advanced g c =
    advances_then _ _ _ (advances_then _ _ _ c.in_ok-flush_block.ensures.advanced
    (record { same = refl; more = []; added = Appends-nil _ _ c.flush.ensures.bytes })) c.fail.ensures.advanced
