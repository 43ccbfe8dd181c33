use Rattle.tabled.proofs.Names.{Advances, block, block_sent, length, ◌+◌}
use Rattle.tabled_line.specs.Sent.{Took}
use Rattle.tabled.proofs.block_sink.BlockSink.buffer_parts.Given as goal

abbrev pub invariant-pieces : goal.invariant-pieces
invariant-pieces g l = record {
  took : Took (block_sent (block g.W.Write.contents l.initial.self)) (block_sent (block g.W.Write.contents l.self)) l.bytes l.rest;
  advanced : Advances (block g.W.Write.contents l.initial.self) (block g.W.Write.contents l.self);
}

-- each round but the last fills a buffer and empties it
abbrev pub decreases-pieces : goal.decreases-pieces
decreases-pieces g l = length l.rest + l.self.held.now.used
