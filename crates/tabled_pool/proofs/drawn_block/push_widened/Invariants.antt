use Rattle.tabled_pool.proofs.Names.{fill, map, string_bytes, ◌++◌, ◌≡◌}
use Rattle.tabled_pool.proofs.drawn_block.push_widened.Given as goal

abbrev pub invariant-loop-line : goal.invariant-loop-line
invariant-loop-line l =
    map string_bytes l.lines.items
    ≡ map string_bytes l.initial.lines.items ++ map (λ line. line ++ fill 32 l.spaces) (map string_bytes l.yielded)
