use Rattle.tabled_size.proofs.Names.{[], added_at, added_by, ap, arith, map, map-range_with_len_more, range_with_len, sym, ◌++◌, ◌∙◌, ◌∷◌}
use Rattle.tabled_size.proofs.added_padding.list_row.Goals as goal

pub columns-preserved : goal.columns-preserved
columns-preserved c =
    let f = added_at c.args.config.now c.args.row in
    let pushed = rw (sym c.in_ok-ok.ensures.variant) at c.push.ensures.items in
    pushed ∙ ap (λ xs. xs ++ c.in_ok-extent.extent ∷ []) c.columns.invariant
    ∙ ap (λ e. map f (range_with_len 0 c.columns.column) ++ e ∷ []) (c.in_ok-extent.ensures.some ∙ ap added_by c.get_padding.ensures.style)
    ∙ sym (map-range_with_len_more f 0 c.columns.column c.columns.column (omega arith))
