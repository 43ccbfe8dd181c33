use Rattle.tabled.proofs.Names.{append-nil, block, further, sends-along, sym, waiting}
use Rattle.tabled_line.proofs.Sending.{stopped, took-more, took-none}
use Rattle.tabled.proofs.BytesSince.{advances_none, advances_then, buffered, waits}
use Rattle.tabled.proofs.block_sink.BlockSink.buffer_parts.Goals as goal

pub pieces-init : goal.pieces-init
pieces-init g c = record { took = took-none _ _; advanced = advances_none _ }

pub returns-in_err-flush_block : goal.returns-in_err-flush_block
returns-in_err-flush_block g c =
    let before = block g.W.Write.contents c.pieces.self in
    let sends = buffered before (waiting c.add-in-pieces.new.self) c.split_at.result.0.now c.add-in-pieces.ensures.added in
    let took = took-more _ _ _ _ _ _ _ c.pieces.invariant.took (sends-along _ _ _ _ sends c.split_at.ensures.front) c.split_at.ensures.back in
    record {
      written = stopped _ _ c.split_at.result.1.now took.sends c.in_err-flush_block.ensures.written c.from_residual.ensures.1 (sym took.whole);
      advanced = advances_then _ _ _ (advances_then _ _ _ c.pieces.invariant.advanced (waits before (waiting c.add-in-pieces.new.self)))
          c.in_err-flush_block.ensures.advanced;
    }

pub pieces-preserved : goal.pieces-preserved
pieces-preserved g c =
    let before = block g.W.Write.contents c.pieces.self in
    let sends = buffered before (waiting c.add-in-pieces.new.self) c.split_at.result.0.now c.add-in-pieces.ensures.added in
    let took = took-more _ _ _ _ _ _ _ c.pieces.invariant.took (sends-along _ _ _ _ sends c.split_at.ensures.front) c.split_at.ensures.back in
    record {
      took = record {
        front = took.front;
        whole = took.whole;
        sends = further took.sends c.in_ok-flush_block.ensures.written (sym (append-nil took.front));
      };
      advanced = advances_then _ _ _ (advances_then _ _ _ c.pieces.invariant.advanced (waits before (waiting c.add-in-pieces.new.self)))
          c.in_ok-flush_block.ensures.advanced;
    }
