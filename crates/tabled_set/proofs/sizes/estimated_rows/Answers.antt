use Rattle.tabled_set.proofs.Names.{List, SpannedConfig, ap, estimated, estimated_heights, false, filled_height, inr, is_empty, length}
use Rattle.tabled_set.proofs.Names.{reached, refl, sym, total_height, ℕ, ◌∙◌, ◌≡◌}
use Rattle.tabled_set.proofs.PromisedSizes.{full_height}
use Rattle.tabled_set.proofs.Totals.{padded, padded_height_total, padded_long, passes}
use Rattle.tabled_set.proofs.sizes.estimated_rows.Goals as goal

whole : (cells : List (List (List ℕ))) (config : SpannedConfig) (rows : ℕ) (heights : List ℕ) → is_empty cells ≡ false → rows ≡ length cells
    → heights ≡ estimated_heights cells config
    → filled_height config rows (reached (padded heights) rows) ≡ total_height (estimated cells config)
whole cells config rows heights some all high =
    padded_height_total config rows heights ∙ ap (filled_height config rows) high
    ∙ ap (λ k. filled_height config k (estimated_heights cells config)) all ∙ sym (full_height cells config some)

pub filled_height-requires : goal.filled_height-requires
filled_height-requires g c = padded_long c.deref.result.now c.count_rows.result

pub returns-clause-total : goal.returns-clause-total
returns-clause-total g c =
    c.in-Some.ensures
    ∙ whole (g.R.ExactRecords.cells c.args.records.now) c.args.config.now c.count_rows.result c.deref.result.now c.requires
    c.count_rows.ensures (c.deref.ensures.value ∙ c.in_ok-heights.ensures.ok)

pub returns-in_default-clause-err : goal.returns-in_default-clause-err
returns-in_default-clause-err g c =
    let same = whole (g.R.ExactRecords.cells c.args.records.now) c.args.config.now c.count_rows.result c.deref.result.now c.requires
    c.count_rows.ensures (c.deref.ensures.value ∙ c.in_ok-heights.ensures.ok) in
    inr (refl, inr (passes _ _ c.filled_height.result c.filled_height.ensures c.in_default.is same))
