use Rattle.tabled_set.proofs.Names.{CompleteDimension, List, Some, SpannedConfig, ap, columns, effective, false, filled_width, is_empty}
use Rattle.tabled_set.proofs.Names.{length, min, reached, refl, sym, take, total_width, widths_of, ℕ, ◌∙◌, ◌≡◌}
use Rattle.std.proofs.lemmas.List.{take_min}
use Rattle.tabled_set.proofs.NarrowingTables.{effective-total, effective-widths}
use Rattle.tabled_set.proofs.Totals.{padded, padded_long, padded_width_total, passes}
use Rattle.tabled_set.proofs.sizes.stored_columns.Goals as goal

whole : (cells : List (List (List ℕ))) (config : SpannedConfig) (sizes : CompleteDimension) (stored widths : List ℕ) (count m : ℕ)
    → is_empty cells ≡ false → widths_of sizes ≡ Some stored → count ≡ columns cells → widths ≡ take m stored → m ≡ min count (length stored)
    → filled_width config count (reached (padded widths) count) ≡ total_width (effective cells config sizes)
whole cells config sizes stored widths count m some is all first least =
    padded_width_total config count widths
    ∙ effective-total cells config sizes widths count some all
    (effective-widths cells config sizes stored widths count is all (first ∙ ap (λ k. take k stored) least ∙ take_min count stored))

pub filled_width-requires : goal.filled_width-requires
filled_width-requires g c = padded_long c.split_at.result.0.now c.count_columns-columns.result

pub returns-clause-total : goal.returns-clause-total
returns-clause-total g c =
    c.in-Some-filled_width.ensures
    ∙ whole (g.R.ExactRecords.cells c.args.records.now) c.args.config.now c.args.sizes.now c.in-Some.stored.now c.split_at.result.0.now
    c.count_columns-columns.result c.min.result c.requires.filled (sym c.in-Some.ensures) c.count_columns-columns.ensures.columns
    c.split_at.ensures.front c.min.ensures

pub returns-in_default-filled_width-clause-err : goal.returns-in_default-filled_width-clause-err
returns-in_default-filled_width-clause-err g c =
    let same = whole (g.R.ExactRecords.cells c.args.records.now) c.args.config.now c.args.sizes.now c.in-Some.stored.now
    c.split_at.result.0.now c.count_columns-columns.result c.min.result c.requires.filled (sym c.in-Some.ensures)
    c.count_columns-columns.ensures.columns c.split_at.ensures.front c.min.ensures in
    (refl, passes _ _ c.filled_width.result c.filled_width.ensures c.in_default-filled_width.is same)
