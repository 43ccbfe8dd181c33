use Rattle.tabled_size.proofs.Names.{KnowsAdded, [], ap, arith, column_width, columns, estimated_heights, estimated_widths, length, map}
use Rattle.tabled_size.proofs.Names.{map-range_with_len_more, needed_width, range_with_len, replicate, row_height, rules, subst, sym, ℕ}
use Rattle.tabled_size.proofs.Names.{◌++◌, ◌∙◌, ◌∷◌, ◌≡◌}
use Rattle.tabled_size.proofs.Greatest.{greatest_below, greatest_each, greatest_none, written_back}
use Rattle.tabled_size.proofs.estimate.estimate_sizes.Goals as goal

pub rows-init : goal.rows-init
rows-init g c =
    record {
      known = subst (KnowsAdded c.new-known.result c.args.config.now) c.count_columns-2.ensures.columns c.new-known.ensures;
      widths =
          c.in_ok-widths.ensures.items_if_clones_equal (λ y h. search rules)
          ∙ ap (λ n. replicate {A = ℕ} n 0) c.count_columns.ensures.columns
          ∙ greatest_none (columns (g.R.ExactRecords.cells c.args.records.now));
      heights = search rules;
    }

pub rows-preserved : goal.rows-preserved
rows-preserved g c =
    let cells = g.R.ExactRecords.cells c.args.records.now in
    let f = row_height cells c.args.config.now in
    record {
      known = c.rows.invariant.known;
      widths =
          written_back _ _ _ (omega (arith, c.measure_known.auto.widths, c.deref_mut.ensures.len))
          ∙ c.in-Some.ensures.some.widths
          ∙ greatest_each (λ r k. needed_width cells c.args.config.now r k) c.deref_mut.result.now c.rows.row
          (columns cells) (c.deref_mut.ensures.value ∙ c.rows.invariant.widths);
      heights =
          c.in_ok-push.ensures.items ∙ ap (λ xs. xs ++ c.in-Some.height ∷ []) c.rows.invariant.heights
          ∙ ap (λ h. map f (range_with_len 0 c.rows.row) ++ h ∷ []) c.in-Some.ensures.some.tall
          ∙ sym (map-range_with_len_more f 0 c.rows.row c.rows.row (omega arith));
    }

pub returns-clause-widths : goal.returns-clause-widths
unfolding estimated_widths column_width
returns-clause-widths g c =
    let cells = g.R.ExactRecords.cells c.args.records.now in
    let e : c.rows.row ≡ length cells = omega (arith, c.count_rows-row-end.ensures) in
    c.rows.invariant.widths ∙ ap (λ n. map (λ k. greatest_below (λ r. needed_width cells c.args.config.now r k) n)
    (range_with_len 0 (columns cells))) e

pub returns-clause-heights : goal.returns-clause-heights
unfolding estimated_heights
returns-clause-heights g c =
    let cells = g.R.ExactRecords.cells c.args.records.now in
    let e : c.rows.row ≡ length cells = omega (arith, c.count_rows-row-end.ensures) in
    c.rows.invariant.heights ∙ ap (λ n. map (row_height cells c.args.config.now) (range_with_len 0 n)) e
