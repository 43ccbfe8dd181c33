use Rattle.tabled.proofs.Names.{Advances, Sends, [], block, block_sent, ◌-◌}
use Rattle.tabled.proofs.block_sink.BlockSink.flush_block.Given as goal

abbrev pub invariant-taken : goal.invariant-taken
invariant-taken g l = record {
  sends : Sends (block_sent (block g.W.Write.contents l.initial.self)) (block_sent (block g.W.Write.contents l.self)) [];
  advanced : Advances (block g.W.Write.contents l.initial.self) (block g.W.Write.contents l.self);
}

abbrev pub decreases-taken : goal.decreases-taken
decreases-taken g l = l.self.held.now.used - l.self.held.now.taken
