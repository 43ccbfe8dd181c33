use Rattle.tabled_pool.proofs.Names.{block_sheet_of}
use Rattle.tabled_pool.proofs.Besides.{IsAdded}
use Rattle.tabled_pool.proofs.drawn_block.DrawnBlock.add.Given as goal

abbrev pub invariant-loop-y : goal.invariant-loop-y
invariant-loop-y l = IsAdded (block_sheet_of l.initial.self) (block_sheet_of l.other) l.y l.self
