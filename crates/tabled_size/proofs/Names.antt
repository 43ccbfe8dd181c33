-- The names of the crates below, and of the definitions of this one, that its proofs use. Declares
-- nothing.
pub use Rattle.std.proofs.Common.{List, MatchOption, None, Option, Some, [], ap, arith, false, get_or, inl, inr, is_some, length, map, max}
pub use Rattle.std.proofs.Common.{option_map, refl, replicate, rules, subst, suc, sym, take, true, zero, ℕ, ⊎_elim, ◌++◌, ◌+◌, ◌<◌, ◌^◌}
pub use Rattle.std.proofs.Common.{◌∙◌, ◌∷◌, ◌≡◌, ◌≤◌, ◌⊎◌}
pub use Rattle.std.proofs.lemmas.Bool.{cases_lt}
pub use Rattle.std.proofs.lemmas.List.FromFn.{fill_by_all, get_or-map-range_with_len, length-map-range_with_len, map-range_with_len_more}
pub use Rattle.std.specs.List.{range_with_len, slice_index}
pub use Rattle.tabled_base.specs.Cells.{columns}
pub use Rattle.tabled_config.specs.declared.spanned.SpannedConfig.{SpannedConfig}
pub use Rattle.tabled_priority.proofs.Sums.{sum_step}
pub use Rattle.tabled_priority.specs.Sums.{one_if, sum_below}
pub use Rattle.tabled_size.specs.Added.{KnowsAdded, added_at, added_by}
pub use Rattle.tabled_size.specs.Effective.{effective_sizes}
pub use Rattle.tabled_size.specs.Entries.{stored_at}
pub use Rattle.tabled_size.specs.Estimates.{needed_height, needed_width}
unfoldable pub use Rattle.tabled_size.specs.Estimates.{column_width, estimated_heights, estimated_widths, row_height}
unfoldable pub use Rattle.tabled_size.specs.Reached.{reached}
pub use Rattle.tabled_size.specs.Sheet.{is_empty}
pub use Rattle.tabled_size.specs.Totals.{rules_at}
unfoldable pub use Rattle.tabled_size.specs.Totals.{filled_height, filled_width, framed_height, framed_width, part_height}
pub use Rattle.tabled_size.specs.declared.added_padding.Extent.{Extent}
