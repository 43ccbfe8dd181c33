-- The names of the crates below, and of the definitions of this one, that its proofs use. Declares
-- nothing.
pub use Rattle.std.proofs.Common.{Bool, Err, IfSome, List, None, Ok, OnOk, Option, Result, Some, [], ap, append-nil, append_assoc, arith}
pub use Rattle.std.proofs.Common.{cond, drop, false, get_or, if◌then◌else◌, inl, inr, length, map, nat_le, not, refl, rules, string_bytes}
pub use Rattle.std.proofs.Common.{subst, sym, take, true, unwrap_or, ℕ, ⊎_elim, ◌++◌, ◌+◌, ◌-◌, ◌<◌, ◌==◌, ◌^◌, ◌∙◌, ◌∷◌, ◌≡◌, ◌≤◌, ◌⊎◌}
pub use Rattle.std.proofs.lemmas.Bool.{MatchBool-at_false, MatchBool-at_true, cases_Bool, le-leb}
pub use Rattle.std.proofs.lemmas.Bool.Decides.{nat_tests}
pub use Rattle.std.proofs.lemmas.List.Elements.{All-cons, All-from_get_or, All-head, All-nil, All-tail}
pub use Rattle.std.proofs.lemmas.List.Sums.{list_all-from_AllPass}
pub use Rattle.std.specs.Io.KnownBytes.{Appends, Keeps}
pub use Rattle.std.specs.List.{All, AllPass}
pub use Rattle.std.specs.Prelude.{MatchBool, MatchResult}
pub use Rattle.std.specs.Result.{IsErrAnd}
pub use Rattle.std.specs.Str.{IsUtf8}
pub use Rattle.std.specs.Str.Parse.{digits_value}
pub use Rattle.tabled.specs.Arguments.{SpellsPlan}
pub use Rattle.tabled.specs.BlockSent.{Advances, Block, block, block_sent, sent_since, waiting}
pub use Rattle.tabled.specs.declared.program.Fault.TheVariants.{Table}
pub use Rattle.tabled.specs.Headline.{HasFewestBreaks, HasLeastGreatestWidth, HasLongestBeginnings, HasWantedTotal, IsAsBuffered, IsBestOf}
pub use Rattle.tabled.specs.Headline.{IsBestPlanned, IsLeastBy}
pub use Rattle.tabled.specs.Orders.{Shrinks}
pub use Rattle.tabled.specs.Output.{Begins, IsBegunOn, IsOutput, IsPartlyWritten, Puts, PutsOutput}
unfoldable pub use Rattle.tabled.specs.Output.{with_feed}
pub use Rattle.tabled.specs.Planned.{Cells, FitsInto, IsNarrowedTo, IsPlanned, IsPlannedOf, OrderShrinks, cut_to, measured}
pub use Rattle.tabled.specs.Rendered.{BreaksOff, Halts, IsReadyOf, IsRendered, IsRenderedOf}
pub use Rattle.tabled.specs.declared.arguments.Order.{Order}
pub use Rattle.tabled.specs.declared.arguments.Order.TheVariants.{Greatest, Least, Leftmost, Rightmost, Round}
pub use Rattle.tabled.specs.declared.arguments.Plan.{Plan}
pub use Rattle.tabled.specs.declared.arguments.Plan.TheVariants.{Buffered, Shortened, Streamed, Wrapped}
pub use Rattle.tabled_base.specs.Cells.{IsInside, IsRectangular, cell_at, columns, lengthened}
pub use Rattle.tabled_base.specs.declared.error.TableError.{TableError}
pub use Rattle.tabled_base.specs.declared.error.TableError.TheVariants.{Memory, Narrow, Range, ShortHeights, ShortWidths, Writer}
pub use Rattle.tabled_base.specs.declared.position.Entity.TheVariants.{Row}
pub use Rattle.tabled_config.specs.declared.spanned.SpannedConfig.{SpannedConfig}
pub use Rattle.tabled_grid.proofs.ApartPictures.{apart_columns}
pub use Rattle.tabled_grid.proofs.EffectiveSizes.{effective_estimated}
pub use Rattle.tabled_grid.proofs.EstimatedSizes.{holds_estimated, passes_too_high, passes_too_wide, sized_estimated}
pub use Rattle.tabled_grid.proofs.Whole.{picture_lines}
pub use Rattle.tabled_grid.specs.Picture.{table_text}
unfoldable pub use Rattle.tabled_grid.specs.Picture.{picture}
pub use Rattle.tabled_grid.specs.Printed.{IsOutOfRange, Prints}
pub use Rattle.tabled_line.proofs.Sending.{Appends-nil, further, sends-along}
pub use Rattle.tabled_line.specs.Sent.{IsCause, Sends, Sent, Writes}
pub use Rattle.tabled_records.specs.TextRows.{tab_separated, most_cells, row_lines, without_last_feed}
unfoldable pub use Rattle.tabled_records.specs.TextRows.{text_rows}
pub use Rattle.tabled_set.proofs.ExactTotals.{changed_empty}
pub use Rattle.tabled_set.specs.BestNarrowing.{inner_width}
pub use Rattle.tabled_set.specs.CellChanges.{AreChanged, for_content_size, if_wider, truncating, wrapping}
pub use Rattle.tabled_set.specs.ExactTotal.{HasExactTotal}
pub use Rattle.tabled_set.specs.Narrowed.{Narrows, content_width}
pub use Rattle.tabled_set.specs.Promised.{TruncatesAsPromised, WrapsAsPromised}
pub use Rattle.tabled_set.specs.declared.truncate.SuffixLimit.TheVariants.{Cut}
pub use Rattle.tabled_size.proofs.Totalling.{heights_length, widths_length}
pub use Rattle.tabled_size.specs.Cleared.{AreCleared}
pub use Rattle.tabled_size.specs.Effective.{effective, effective_sizes}
pub use Rattle.tabled_size.specs.Estimates.{estimated_heights, estimated_widths}
pub use Rattle.tabled_size.specs.FilledIn.{HasNoEstimate, IsFilledIn}
pub use Rattle.tabled_size.specs.Holds.{Holds}
pub use Rattle.tabled_size.specs.Sheet.{Sheet, estimated, is_empty}
pub use Rattle.tabled_size.specs.Stored.{heights_of, is_stored, widths_of}
pub use Rattle.tabled_size.specs.TextCells.{AreTexts}
pub use Rattle.tabled_size.specs.Totals.{filled_width, total_width}
pub use Rattle.tabled_size.specs.declared.complete_dimension.CompleteDimension.{CompleteDimension}
pub use Rattle.tabled_table.specs.NewConfig.{new_config}
pub use Rattle.tabled_table.specs.TableSheet.{new_sheet}
pub use Rattle.tabled_text.proofs.StayLemmas.{StaysWithin-none}
pub use Rattle.tabled_text.specs.Cut.{IsCut}
pub use Rattle.tabled_text.specs.Measure.{lines_of, text_columns}
