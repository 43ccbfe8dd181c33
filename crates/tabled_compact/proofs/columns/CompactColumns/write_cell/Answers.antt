use Rattle.tabled_compact.proofs.Names.{compact_cell, compact_piece, finished, refl, slice_index, stopped-first}
use Rattle.tabled_compact.proofs.columns.CompactColumns.write_cell.Goals as goal

pub returns-in_err-write_bar : goal.returns-in_err-write_bar
unfolding compact_piece
returns-in_err-write_bar g c =
    let t = c.args.self.now in
    stopped-first _ _ (compact_cell t.config (slice_index t.widths c.args.column) (g.T.CellText.text c.args.cell.now))
    c.in_err-write_bar.ensures c.from_residual.ensures.1 (rw (c.has_bar.ensures, c.frame-frame.ensures) refl)

pub returns : goal.returns
unfolding compact_piece compact_cell
returns g c =
    finished _ _ _ _ c.in_ok-write_bar.ensures c.write_padded_text.ensures
    (simp (
      c.has_bar.ensures,
      c.frame-frame.ensures,
      c.get_padding-padding.ensures,
      c.saturating_sub-behind.ensures,
      c.before_text-before.ensures,
      c.get_alignment_horizontal.ensures,
      c.text.ensures,
      c.width-2.ensures,
      c.saturating_sub-free.ensures,
      c.saturating_sub-content.ensures,
      c.saturating_sub-inner.ensures,
      c.width.ensures,
      c.config-config.ensures,
    ))
