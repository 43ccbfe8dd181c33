use Rattle.tabled_size.proofs.Names.{Extent, List, ap, arith, cases_lt, columns, fill_by_all, get_or, inl, inr, length, max, needed_height}
use Rattle.tabled_size.proofs.Names.{needed_width, row_height, slice_index, ℕ, ◌+◌, ◌<◌, ◌^◌, ◌∙◌, ◌≡◌, ◌≤◌}
use Rattle.std.proofs.Common.{set}
use Rattle.std.proofs.lemmas.Grind.{get_or-set_at}
use Rattle.std.proofs.lemmas.List.{get_or-set_other}
use Rattle.tabled_base.proofs.Contents.{content-columns, content-lines}
use Rattle.tabled_size.proofs.Greatest.{greatest_below, greatest_more}
use Rattle.tabled_size.proofs.Passing.{added_passes, if_none}
use Rattle.tabled_size.proofs.estimate.measure_row.Goals as goal

-- one column more is raised
raised-more : (old widths : List ℕ) (need : ℕ → ℕ) (column width : ℕ) → column < length widths
    → ((c : ℕ) → c < column → get_or widths c 0 ≡ max (get_or old c 0) (need c))
    → get_or widths column 0 ≡ get_or old column 0 → width ≡ max (get_or widths column 0) (need column)
    → (c : ℕ) → c < column + 1 → get_or (set widths column width) c 0 ≡ max (get_or old c 0) (need c)
raised-more old widths need column width inside before same raised c l = elim (cases_lt c column) [
  | inl lt ↦ get_or-set_other widths column c width 0 (λ e. absurd (omega (arith, e, lt))) ∙ before c lt
  | inr ge ↦
      let here : column ≡ c = omega arith in
      get_or-set_at widths column c width 0 (omega arith) inside
      ∙ (raised ∙ (ap (λ w. max w (need column)) same ∙ ap (λ i. max (get_or old i 0) (need i)) here))
]

-- the others stay
rest-more : (old widths : List ℕ) (column width : ℕ) → ((c : ℕ) → column ≤ c → get_or widths c 0 ≡ get_or old c 0)
    → (c : ℕ) → column + 1 ≤ c → get_or (set widths column width) c 0 ≡ get_or old c 0
rest-more old widths column width rest c l = get_or-set_other widths column c width 0 (λ e. absurd (omega (arith, e, l))) ∙ rest c (omega arith)

pub columns-preserved : goal.columns-preserved
columns-preserved g c =
    let cells = g.R.ExactRecords.cells c.args.records.now in
    let column = c.columns.column in
    let inside : column < columns cells = omega (arith, c.columns-test.true, c.count_columns-column-end.ensures.columns) in
    let same = c.in_ok-extent.ensures.some ∙ c.requires.known.at column inside in
    let width : c.in_ok-width.width ≡ needed_width cells c.args.config.now c.args.row column =
    omega (arith, c.in_ok-width.ensures.1, content-columns c.content-cell.result _ c.content-cell.ensures, ap (λ (e : Extent). e.columns) same) in
    let height : c.in_ok-height.height ≡ needed_height cells c.args.config.now c.args.row column =
    omega (arith, c.in_ok-height.ensures.1, content-lines c.content-cell.result _ c.content-cell.ensures, ap (λ (e : Extent). e.lines) same) in
    let more = greatest_more (needed_height cells c.args.config.now c.args.row) column in
    record {
      raised = raised-more c.args.widths.now c.columns.widths (needed_width cells c.args.config.now c.args.row) column c.max.result
          (omega (arith, inside, c.requires.columns, c.columns.auto.widths)) c.columns.invariant.raised
          (c.columns.invariant.rest column (omega arith)) (c.max.ensures ∙ ap (max (get_or c.columns.widths column 0)) width);
      rest = rest-more c.args.widths.now c.columns.widths column c.max.result c.columns.invariant.rest;
      most = omega (arith, more, c.columns.invariant.most, c.max-most.ensures, height);
    }

pub returns-clause-some : goal.returns-clause-some
unfolding row_height
returns-clause-some g c =
    let cells = g.R.ExactRecords.cells c.args.records.now in
    let all : c.columns.column ≡ columns cells = omega (arith, c.count_columns-column-end.ensures.columns) in
    record {
      widths =
          fill_by_all (λ k. max (slice_index c.args.widths.now k) (needed_width cells c.args.config.now c.args.row k))
          c.columns.widths (columns cells) 0 (omega (arith, c.requires.columns, c.columns.auto.widths))
          (λ k l. c.columns.invariant.raised k (omega (arith, all)));
      tall = c.columns.invariant.most ∙ ap (greatest_below (needed_height cells c.args.config.now c.args.row)) all;
    }

pub returns-in_err-extent-clause-none : goal.returns-in_err-extent-clause-none
returns-in_err-extent-clause-none g c =
    if_none c.from_residual.result
    (added_passes (g.R.ExactRecords.cells c.args.records.now) c.args.config.now c.args.row c.columns.column _
    (c.requires.known.at c.columns.column (omega (arith, c.columns-test.true, c.count_columns-column-end.ensures.columns)))
    c.requires.row_in (omega (arith, c.count_columns-column-end.ensures.columns)) c.in_err-extent.ensures.none)

pub returns-in_err-width-clause-none : goal.returns-in_err-width-clause-none
returns-in_err-width-clause-none g c =
    let cells = g.R.ExactRecords.cells c.args.records.now in
    let inside : c.columns.column < columns cells = omega (arith, c.columns-test.true, c.count_columns-column-end.ensures.columns) in
    let same = c.in_ok-extent.ensures.some ∙ c.requires.known.at c.columns.column inside in
    let past : 2 ^ 64 ≤ needed_width cells c.args.config.now c.args.row c.columns.column =
    omega (arith, c.in_err-width.ensures, content-columns c.content-cell.result _ c.content-cell.ensures, ap (λ (e : Extent). e.columns) same) in
    if_none c.from_residual-in_err-width.result
    (inl (record { row = c.args.row; column = c.columns.column; row_in = c.requires.row_in; column_in = inside; out_of_range = past }))

pub returns-in_err-height-clause-none : goal.returns-in_err-height-clause-none
returns-in_err-height-clause-none g c =
    let cells = g.R.ExactRecords.cells c.args.records.now in
    let inside : c.columns.column < columns cells = omega (arith, c.columns-test.true, c.count_columns-column-end.ensures.columns) in
    let same = c.in_ok-extent.ensures.some ∙ c.requires.known.at c.columns.column inside in
    let past : 2 ^ 64 ≤ needed_height cells c.args.config.now c.args.row c.columns.column =
    omega (arith, c.in_err-height.ensures, content-lines c.content-cell.result _ c.content-cell.ensures, ap (λ (e : Extent). e.lines) same) in
    if_none c.from_residual-in_err-height.result
    (inr (record { row = c.args.row; column = c.columns.column; row_in = c.requires.row_in; column_in = inside; out_of_range = past }))
