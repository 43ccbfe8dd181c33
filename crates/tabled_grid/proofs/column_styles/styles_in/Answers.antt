use Rattle.tabled_grid.proofs.Names.{[], ap, arith, map, map-range_with_len_more, range_with_len, style_at, sym, ◌++◌, ◌∙◌, ◌∷◌}
use Rattle.tabled_grid.proofs.column_styles.styles_in.Goals as goal

pub columns-preserved : goal.columns-preserved
columns-preserved c =
    let f = style_at c.args.config.now c.args.row in
    let pushed = rw (sym c.in_ok-ok.ensures.variant) at c.push.ensures.items in
    pushed ∙ ap (λ xs. xs ++ c.style_at.result ∷ []) c.columns.invariant
    ∙ ap (λ s. map f (range_with_len 0 c.columns.column) ++ s ∷ []) c.style_at.ensures
    ∙ sym (map-range_with_len_more f 0 c.columns.column c.columns.column (omega arith))
