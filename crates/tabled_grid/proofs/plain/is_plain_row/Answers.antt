use Rattle.tabled_grid.proofs.Names.{All-from_get_or, IsPlain, YieldsList-from_range, [], arith, cases_from_all, cell_at, columns, length}
use Rattle.tabled_grid.proofs.Names.{refl, rules, slice_index_or, tests, ℕ, ◌≡◌}
use Rattle.tabled_grid.proofs.PlainTests.{below_each}
use Rattle.tabled_grid.proofs.plain.is_plain_row.Goals as goal

pub returns : goal.returns
returns g c =
    let cells = g.R.ExactRecords.cells c.args.records.now in
    let P : ℕ → Type 0 = λ column. IsPlain (cell_at cells c.args.row column) in
    let n = c.count_columns.result in
    let wide : length (slice_index_or cells c.args.row []) ≡ columns cells = c.count_columns.ensures.rectangular c.args.row [] c.requires in
    let counted = c.count_columns.ensures.columns in
    let each = below_each P _ n
    (cases_from_all _ _ _ P (λ k. P k → ⊥) c.all.ensures.ran (YieldsList-from_range 0 n n refl (omega arith))
    (λ x q k. search (rules, tests)) (λ x q k. search (rules, tests))) in (
      λ e. All-from_get_or IsPlain (slice_index_or cells c.args.row []) [] (λ i l. each.0 e i (omega arith)),
      λ all. each.1 (λ k l. all k [] (omega arith)),
    )
