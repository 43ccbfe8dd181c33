use Rattle.tabled_pool.proofs.Names.{string_bytes}
use Rattle.tabled_pool.proofs.Besides.{set_line}
use Rattle.tabled_pool.proofs.Splits.{when_ok}
use Rattle.tabled_pool.proofs.bordered_text.BorderedText.add_line.Goals as goal

pub returns-clause-lines : goal.returns-clause-lines
returns-clause-lines c =
    when_ok c.append_line.result (set_line string_bytes c.args.block.now.lines.items c.args.y c.index_mut.result.now c.append_line.new.line _
    c.index_mut.ensures.value c.requires.there) c.append_line.ensures
