use Rattle.tabled_size.proofs.Names.{[], ap, arith, column_width, columns, estimated_widths, map, map-range_with_len_more, range_with_len}
use Rattle.tabled_size.proofs.Names.{sym, ◌++◌, ◌∙◌, ◌∷◌, ◌≡◌}
use Rattle.tabled_size.proofs.estimate.estimate_widths.Goals as goal

pub columns-preserved : goal.columns-preserved
columns-preserved g c =
    let f = column_width (g.R.ExactRecords.cells c.args.records.now) c.args.config.now in
    c.in_ok-push.ensures.items ∙ ap (λ xs. xs ++ c.in-Some.width ∷ []) c.columns.invariant
    ∙ ap (λ w. map f (range_with_len 0 c.columns.column) ++ w ∷ []) c.in-Some.ensures
    ∙ sym (map-range_with_len_more f 0 c.columns.column c.columns.column (omega arith))

pub returns-clause-ok : goal.returns-clause-ok
unfolding estimated_widths
returns-clause-ok g c =
    let cells = g.R.ExactRecords.cells c.args.records.now in
    let e : c.columns.column ≡ columns cells = omega (arith, c.count_columns-column-end.ensures.columns) in
    c.columns.invariant ∙ ap (λ n. map (column_width cells c.args.config.now) (range_with_len 0 n)) e
