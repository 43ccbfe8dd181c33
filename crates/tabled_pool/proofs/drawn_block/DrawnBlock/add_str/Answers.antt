use Rattle.tabled_pool.proofs.Names.{string_bytes}
use Rattle.tabled_pool.proofs.Besides.{set_line}
use Rattle.tabled_pool.proofs.drawn_block.DrawnBlock.add_str.Goals as goal

pub returns-clause-lines : goal.returns-clause-lines
returns-clause-lines c =
    set_line string_bytes c.args.self.now.lines.items c.args.y c.index_mut.result.now c.push_str.new.self _ c.index_mut.ensures.value
    c.requires c.in_ok-push_str.ensures.bytes
