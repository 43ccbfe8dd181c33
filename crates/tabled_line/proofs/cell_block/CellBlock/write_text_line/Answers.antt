use Rattle.tabled_line.proofs.Names.{cell_line}
use Rattle.tabled_line.proofs.cell_block.CellBlock.write_text_line.Goals as goal

pub returns : goal.returns
unfolding cell_line
returns g c =
    simp (
      c.saturating_sub-behind.ensures,
      c.saturating_sub.ensures,
      c.requires,
      c.columns_before-before.ensures c.args.line.now c.requires,
      c.inner_width.ensures,
    ) at c.write_padded_text.ensures
