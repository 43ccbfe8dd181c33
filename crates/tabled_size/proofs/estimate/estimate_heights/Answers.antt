use Rattle.tabled_size.proofs.Names.{[], ap, arith, estimated_heights, length, map, map-range_with_len_more, range_with_len, row_height}
use Rattle.tabled_size.proofs.Names.{sym, ◌++◌, ◌∙◌, ◌∷◌, ◌≡◌}
use Rattle.tabled_size.proofs.estimate.estimate_heights.Goals as goal

pub rows-preserved : goal.rows-preserved
rows-preserved g c =
    let f = row_height (g.R.ExactRecords.cells c.args.records.now) c.args.config.now in
    c.in_ok-push.ensures.items ∙ ap (λ xs. xs ++ c.in-Some.height ∷ []) c.rows.invariant
    ∙ ap (λ h. map f (range_with_len 0 c.rows.row) ++ h ∷ []) c.in-Some.ensures
    ∙ sym (map-range_with_len_more f 0 c.rows.row c.rows.row (omega arith))

pub returns-clause-ok : goal.returns-clause-ok
unfolding estimated_heights
returns-clause-ok g c =
    let cells = g.R.ExactRecords.cells c.args.records.now in
    let e : c.rows.row ≡ length cells = omega (arith, c.count_rows-row-end.ensures) in
    c.rows.invariant ∙ ap (λ n. map (row_height cells c.args.config.now) (range_with_len 0 n)) e
