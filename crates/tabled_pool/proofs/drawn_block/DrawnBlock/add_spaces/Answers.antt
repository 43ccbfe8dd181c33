use Rattle.tabled_pool.proofs.Names.{fill, rules, string_bytes, ◌++◌, ◌≡◌}
use Rattle.std.proofs.Common.{IfOk}
use Rattle.tabled_pool.proofs.Besides.{set_line}
use Rattle.tabled_pool.proofs.Splits.{when_ok}
use Rattle.tabled_pool.proofs.drawn_block.DrawnBlock.add_spaces.Goals as goal

pub returns-clause-lines : goal.returns-clause-lines
returns-clause-lines c =
    let line = c.index_mut.result.now in
    let wrote : IfOk c.map_err.result (λ _. string_bytes c.write_fill.new.sink ≡ string_bytes line ++ fill 32 c.args.count) = search rules in
    when_ok c.map_err.result (set_line string_bytes c.args.self.now.lines.items c.args.y line c.write_fill.new.sink _
    c.index_mut.ensures.value c.requires) wrote
