-- The names of the crates below, and of the definitions of this one, that its proofs use. Declares
-- nothing.
pub use Rattle.std.proofs.Common.{Bool, Err, IfErr, List, None, Ok, Option, Result, Some, [], ap, arith, false, get_or, inl, inr, is_some}
pub use Rattle.std.proofs.Common.{length, map, not, refl, replicate, rules, slice_index_or, subst, suc, sym, take, true, zero, ℕ, ⊎_elim}
pub use Rattle.std.proofs.Common.{◌&&◌, ◌++◌, ◌+◌, ◌<◌, ◌∙◌, ◌∷◌, ◌≡◌, ◌≤◌, ◌⊎◌}
pub use Rattle.std.proofs.lemmas.Bool.{cases_lt}
pub use Rattle.std.proofs.lemmas.Iterator.{YieldsList-from_range, cases_from_all}
pub use Rattle.std.proofs.lemmas.List.Elements.{All-from_get_or}
pub use Rattle.std.proofs.lemmas.List.FromFn.{get_or-map-range_with_len, length-map-range_with_len, map-range_with_len_more}
pub use Rattle.std.specs.List.{All, flat_map, range_with_len, slice_index}
pub use Rattle.std.specs.Result.{IsErrAnd}
pub use Rattle.tabled_base.specs.Cells.{IsRectangular, cell_at, columns}
pub use Rattle.tabled_base.specs.declared.error.TableError.{TableError}
pub use Rattle.tabled_base.specs.declared.error.TableError.TheVariants.{Memory, Narrow, Range, ShortHeights, ShortWidths, Writer}
pub use Rattle.tabled_config.specs.Settings.{frame, rule_at, style_at}
pub use Rattle.tabled_config.specs.declared.borders.HorizontalLine.{HorizontalLine}
pub use Rattle.tabled_config.specs.declared.spanned.SpannedConfig.{SpannedConfig}
pub use Rattle.tabled_grid.specs.ColumnStyles.{columns_in}
pub use Rattle.tabled_grid.specs.Picture.{sheet_columns, row_of}
unfoldable pub use Rattle.tabled_grid.specs.Picture.{filled_picture, picture, row_part, rule}
pub use Rattle.tabled_grid.specs.AdditiveSheet.{IsAdditiveConfig}
pub use Rattle.tabled_grid.specs.Printed.{FailsToPrint, IsOutOfRange, Prints}
pub use Rattle.tabled_line.proofs.Each.{each-more}
pub use Rattle.tabled_line.proofs.Plains.{plain-fill, plain_rule_line}
unfoldable pub use Rattle.tabled_line.specs.Apart.{line_total}
pub use Rattle.tabled_line.specs.Fill.{fill}
pub use Rattle.tabled_line.specs.Leading.{LineSends}
pub use Rattle.tabled_line.specs.Placements.{IsPlaceable, cell_placement}
pub use Rattle.tabled_line.specs.Additive.{EachLineTakes, IsAdditiveRule, IsAdditiveStyle}
pub use Rattle.tabled_line.specs.Row.{rule_line}
unfoldable pub use Rattle.tabled_line.specs.Row.{row_line, row_lines}
pub use Rattle.tabled_line.specs.declared.placement.Placement.{Placement}
pub use Rattle.tabled_priority.specs.Sums.{one_if, sum_below}
pub use Rattle.tabled_size.proofs.Passing.{too_high_passes, too_wide_passes, width_at, width_ge}
pub use Rattle.tabled_size.proofs.Reaching.{reached_size, reached_there}
pub use Rattle.tabled_size.proofs.Totalling.{heights_length, widths_length}
pub use Rattle.tabled_size.specs.Effective.{effective}
pub use Rattle.tabled_size.specs.Entries.{stored_at}
unfoldable pub use Rattle.tabled_size.specs.Estimates.{estimated_heights, estimated_widths}
pub use Rattle.tabled_size.specs.Holds.{Holds, IsHeld, IsSized}
pub use Rattle.tabled_size.specs.PlainCells.{AreAdditive}
pub use Rattle.tabled_size.specs.Reached.{reached}
pub use Rattle.tabled_size.specs.Sheet.{Sheet, estimated, is_empty}
pub use Rattle.tabled_size.specs.Stored.{heights_of, is_stored, widths_of}
pub use Rattle.tabled_size.specs.Totals.{total_width}
unfoldable pub use Rattle.tabled_size.specs.Totals.{filled_height, filled_width}
pub use Rattle.tabled_text.specs.Measure.{line_columns}
pub use Rattle.tabled_text.specs.Plain.{IsPlain}
pub use borrow.Author.Tests.{tests}
