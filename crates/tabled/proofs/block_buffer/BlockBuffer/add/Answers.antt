use Rattle.tabled.proofs.Names.{arith}
use Rattle.tabled.proofs.BytesSince.{held_more}
use Rattle.tabled.proofs.block_buffer.BlockBuffer.add.Goals as goal

pub returns : goal.returns
returns c =
    let held = c.args.self.now in
    let inside = held.inside in
    let whole = held.whole in
    let size = c.deref_mut.ensures.len in
    let fits = c.requires.room in
    record {
      added = held_more held.taken held.used _ held.bytes.items c.deref_mut.result.now c.args.bytes.now c.copy_from_slice.new.self _ _ held.within
          (omega (arith, inside, whole, size)) (omega (arith, whole, fits)) c.deref_mut.ensures.value c.copy_from_slice.ensures.after;
    }
