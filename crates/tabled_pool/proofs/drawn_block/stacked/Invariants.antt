use Rattle.tabled_pool.proofs.Names.{block_sheet_of, flat_map, map, string_bytes, widened, ◌≡◌}
use Rattle.tabled_pool.proofs.drawn_block.stacked.Given as goal

abbrev pub invariant-loop-block : goal.invariant-loop-block
invariant-loop-block l = map string_bytes l.lines.items ≡ flat_map (widened l.width) (map block_sheet_of l.yielded)
