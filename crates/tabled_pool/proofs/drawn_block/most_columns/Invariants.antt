use Rattle.tabled_pool.proofs.Names.{block_sheet_of, drop, map, max, ◌≡◌}
use Rattle.tabled_pool.specs.Inherited.{most_columns}
use Rattle.tabled_pool.proofs.drawn_block.most_columns.Given as goal

abbrev pub invariant-loop-block : goal.invariant-loop-block
invariant-loop-block l = max l.columns (most_columns (map block_sheet_of (drop l.block-index l.blocks))) ≡ most_columns (map block_sheet_of l.blocks)
