use Rattle.tabled_set.proofs.Names.{List, None, SpannedConfig, [], ap, arith, columns, effective, estimated_widths, length, minimums}
use Rattle.tabled_set.proofs.Names.{permitted_width, refl, replicate, side_columns, slice_index_or, subst, sym, take, total_width, ℕ, ◌-◌}
use Rattle.tabled_set.proofs.Names.{◌∙◌, ◌≡◌}
use Rattle.tabled_set.specs.Narrowed.{IsShrunkBy}
use Rattle.tabled_set.proofs.NarrowingTables.{content_widths-are, minimums-fit}
use Rattle.tabled_set.proofs.narrowing.narrowed_widths.Goals as goal

empty : (cells : List (List (List ℕ))) (config : SpannedConfig) (n m : ℕ) → n ≡ length cells → m ≡ columns cells
    → estimated_widths (replicate n (replicate m [])) config ≡ minimums cells config
empty cells config n m rows count = rw (rows, count) refl

pub shrunk-requires : goal.shrunk-requires
shrunk-requires g c =
    let cells = g.R.ExactRecords.cells c.args.records.now in
    let widths = c.in_ok-widths.widths.now in
    let least = c.in_ok-mins.ensures.ok
    ∙ empty cells _ _ _ (c.new-empty.ensures.rows ∙ c.count_rows.ensures) (c.new-empty.ensures.columns ∙ c.count_columns.ensures.columns) in
    minimums-fit cells c.args.config.now c.args.sizes.now widths c.deref.result.now c.in_ok-widths.ensures.widths
    (c.deref.ensures.value ∙ c.truncate.ensures.items ∙ ap (take (length widths)) least)

pub returns-clause-ok : goal.returns-clause-ok
returns-clause-ok g c =
    let cells = g.R.ExactRecords.cells c.args.records.now in
    let t = effective cells c.args.config.now c.args.sizes.now in
    let old = c.in_ok-widths.widths.now in
    let widths = c.in_ok-widths-2.widths.items in
    let least = c.in_ok-mins.ensures.ok
    ∙ empty cells _ _ _ (c.new-empty.ensures.rows ∙ c.count_rows.ensures) (c.new-empty.ensures.columns ∙ c.count_columns.ensures.columns) in
    let mins = c.truncate.ensures.items ∙ ap (take (length old)) least in
    let by = IsShrunkBy g.P.Peaker.shrinks c.args.priority in
    record {
      wider = omega (arith, c.in_ok-widths.ensures.total, c.if-total-n.false);
      shrunk =
          subst (λ ws. by ws (take (length ws) (minimums cells t.config)) (total_width t - c.args.n) widths) c.in_ok-widths.ensures.widths
          (subst (λ ms. by old ms (total_width t - c.args.n) widths) (c.deref.ensures.value ∙ mins)
          (subst (λ k. by old c.deref.result.now (k - c.args.n) widths) c.in_ok-widths.ensures.total c.in_ok-widths-2.ensures.shrunk));
      sized =
          content_widths-are t widths c.deref-3.result.now (λ column. slice_index_or c.in_ok-content.content.items column None)
          c.shared_padding.result c.shared_padding.ensures.value
          (c.deref-3.ensures.value ∙ mins ∙ ap (λ k. take k (minimums t.cells t.config)) (sym c.in_ok-widths-2.ensures.long))
          (λ column. c.in_ok-content.ensures column
          ∙ ap (λ w. permitted_width w c.deref-3.result.now (side_columns c.shared_padding.result) column) c.deref-2.ensures.value)
          c.shared_padding.ensures.everywhere;
    }
