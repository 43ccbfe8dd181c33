use Rattle.tabled_line.proofs.Names.{[], cell_block, cell_piece, refl, slice_index_or}
use Rattle.tabled_line.proofs.Sending.{finished, stopped-first}
use Rattle.tabled_line.proofs.row.write_cell.Goals as goal

pub returns-in_err-write_bar : goal.returns-in_err-write_bar
unfolding cell_piece
returns-in_err-write_bar g c =
    stopped-first _ _ (slice_index_or (cell_block (g.R.Row.sheet c.args.row.now) c.args.column) c.args.line.now.index [])
    c.in_err-write_bar.ensures c.from_residual.ensures.1 (rw (c.has_bar.ensures, c.frame-frame.ensures) refl)

pub cursor-requires : goal.cursor-requires
cursor-requires g c = λ within.
    rw (c.content.ensures, c.at.ensures, c.styles.ensures c.args.column c.requires.inside, c.requires.line.height_is)
    (c.requires.line.cursors_are c.args.column within)

pub returns : goal.returns
unfolding cell_piece
returns g c =
    finished _ _ _ _ c.in_ok-write_bar.ensures c.write_line.ensures
    (rw (
      c.has_bar.ensures,
      c.frame-frame.ensures,
      c.at.ensures,
      c.styles.ensures c.args.column c.requires.inside,
      c.width.ensures,
      c.requires.line.height_is,
      c.content.ensures,
    ) refl)
