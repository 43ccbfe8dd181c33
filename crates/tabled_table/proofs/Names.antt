-- The names of the crates below, and of the definitions of this one, that its proofs use. Declares
-- nothing.
pub use Rattle.std.proofs.Common.{Bool, Err, List, MatchOption, MatchResult, None, Ok, Option, Result, Some, [], ap, append-nil}
pub use Rattle.std.proofs.Common.{append_assoc, arith, below_more, cond, false, get_or, if◌then◌else◌, inl, inr, is_some, length}
pub use Rattle.std.proofs.Common.{length-append, map, max, min, nat_lt, not, refl, replicate, rules, subst, suc, sym, take, true, unwrap_or}
pub use Rattle.std.proofs.Common.{zero, ℕ, ⊎_elim, ◌&&◌, ◌*◌, ◌++◌, ◌+◌, ◌-◌, ◌<◌, ◌==◌, ◌^◌, ◌||◌, ◌∙◌, ◌∷◌, ◌≡◌, ◌≢◌, ◌≤◌, ◌⊎◌}
pub use Rattle.std.proofs.lemmas.Bool.{cases_lt}
pub use Rattle.std.proofs.lemmas.Bool.Decides.{nat_tests}
pub use Rattle.std.proofs.lemmas.Grind.{common_steps}
pub use Rattle.std.proofs.lemmas.List.{get_or-append_right, get_or-map, get_or-take, get_or_append_left, get_or_past, length-map}
pub use Rattle.std.proofs.lemmas.List.{length-take, map-append, take_all, take_more}
pub use Rattle.std.proofs.lemmas.List.FromFn.{get_or-map-range_with_len, length-map-range_with_len}
pub use Rattle.std.specs.Iterator.{size}
pub use Rattle.std.specs.List.{flat_map, join_with_byte, range_with_len, slice_index, slice_index_or}
pub use Rattle.std.specs.Result.{IsErrAnd}
pub use Rattle.std.specs.Str.{IsUtf8}
pub use Rattle.tabled_base.specs.Cells.{IsRectangular, cell_at, columns, lengthened, longest}
pub use Rattle.tabled_base.specs.declared.error.TableError.{TableError}
pub use Rattle.tabled_base.specs.declared.error.TableError.TheVariants.{Memory, Range}
pub use Rattle.tabled_config.specs.Settings.{frame}
unfoldable pub use Rattle.tabled_config.specs.Settings.{rule_at, style_at}
pub use Rattle.tabled_config.specs.Spanned.{spanned_of_compact}
pub use Rattle.tabled_config.specs.declared.alignment.AlignmentHorizontal.{AlignmentHorizontal}
pub use Rattle.tabled_config.specs.declared.borders.HorizontalLine.{HorizontalLine}
pub use Rattle.tabled_config.specs.declared.compact.CompactConfig.{CompactConfig}
pub use Rattle.tabled_config.specs.declared.borders.Frame.{Frame}
pub use Rattle.tabled_config.specs.declared.spanned.CellStyle.{CellStyle}
pub use Rattle.tabled_config.specs.declared.spanned.SpannedConfig.{SpannedConfig}
pub use Rattle.tabled_grid.specs.ApartSheet.{IsApartConfig}
pub use Rattle.tabled_grid.specs.Picture.{sheet_columns, table_text}
unfoldable pub use Rattle.tabled_grid.specs.Picture.{filled_picture, picture, row_part, rule}
pub use Rattle.tabled_grid.specs.AdditiveSheet.{IsAdditiveConfig}
pub use Rattle.tabled_line.proofs.Each.{each-more}
pub use Rattle.tabled_line.proofs.Leading.{lines-finished, lines-stopped-first, lines_after-append, lines_after-joined}
pub use Rattle.tabled_line.proofs.Sending.{sends-along}
pub use Rattle.tabled_line.specs.Apart.{IsApartStyle}
pub use Rattle.tabled_line.specs.Fill.{fill}
pub use Rattle.tabled_line.specs.Leading.{LineSends, LineStops, WritesLines, lines_after}
pub use Rattle.tabled_line.specs.Additive.{EachLineTakes, IsAdditiveStyle}
pub use Rattle.tabled_line.specs.Row.{ColumnSheet, row_lines, rule_if}
pub use Rattle.tabled_line.specs.Sent.{Sends, Sent, Stops}
pub use Rattle.tabled_line.specs.StopsBelow.{StopsBelow}
pub use Rattle.tabled_priority.proofs.Sums.{sum_step}
pub use Rattle.tabled_priority.specs.Sums.{sum_below}
pub use Rattle.tabled_records.proofs.RowsRead.{reads-both, reads-open}
pub use Rattle.tabled_records.specs.Reading.{MayGive, Reads, ReadsTo}
pub use Rattle.tabled_size.proofs.Greatest.{mapped_same}
unfoldable pub use Rattle.tabled_size.specs.Estimates.{column_width, estimated_heights, estimated_widths}
pub use Rattle.tabled_size.specs.Holds.{Holds}
pub use Rattle.tabled_size.specs.PlainCells.{AreAdditive}
pub use Rattle.tabled_size.specs.Sheet.{Sheet, is_empty}
pub use Rattle.tabled_size.specs.Stored.{heights_of, widths_of}
pub use Rattle.tabled_size.specs.TextCells.{AreTexts}
pub use Rattle.tabled_size.specs.Totals.{total_height, total_width}
unfoldable pub use Rattle.tabled_size.specs.Totals.{filled_width}
pub use Rattle.tabled_table.specs.Applied.{ChangesEach}
pub use Rattle.tabled_table.specs.Batches.{batches_left}
pub use Rattle.tabled_table.specs.PrintedWith.{overridden_sheet, shown_config}
pub use Rattle.tabled_table.specs.Stream.Marked.{IsCutCell}
pub use Rattle.tabled_table.specs.Stream.Printed.{WritesBelow, lines_before}
unfoldable pub use Rattle.tabled_table.specs.Stream.Printed.{lines_above}
pub use Rattle.tabled_table.specs.Stream.Progress.{AreFirst, AreFurther, EndsSheet, Halts, HaltsWithin, HasPut, HasPutMore, IsInReach}
pub use Rattle.tabled_table.specs.Stream.Progress.{IsLaidOut, IsLimited, IsPermitted, PutsNext, left_of}
pub use Rattle.tabled_table.specs.Stream.Row.{content_at, layout_columns, layout_row, record_lines, rule_of, width_at}
pub use Rattle.tabled_table.specs.Stream.Streamed.{IsCutRow, IsMarkedRow, IsStreamed, ahead, column_count, content_height, content_width, limited}
pub use Rattle.tabled_table.specs.Stream.Streamed.{sniffed, stream_height, stream_width, stream_widths, tallest, widest}
pub use Rattle.tabled_table.specs.Stream.Streams.{AreEnough, ArePermitted, AreSniffed, PrintsStream, StreamRead, StreamSends, StreamStops}
pub use Rattle.tabled_table.specs.Stream.Streams.{Streams, reaches, stream_total}
pub use Rattle.tabled_table.specs.TableSheet.{cells_of, sheet}
pub use Rattle.tabled_table.specs.declared.making.LayoutIterator.{LayoutIterator}
pub use Rattle.tabled_table.specs.declared.iter_table.layout.Layout.{Layout}
pub use Rattle.tabled_table.specs.declared.iter_table.settings.StreamSettings.{StreamSettings}
pub use Rattle.tabled_table.specs.declared.table.Table.{Table}
pub use Rattle.tabled_text.proofs.FittingLaws.{fits-none}
pub use Rattle.tabled_text.specs.Cut.{IsCut}
pub use Rattle.tabled_text.specs.FramedLines.{IsSeparatorColumn}
pub use Rattle.tabled_text.specs.Measure.{greatest, lines_of, text_columns}
pub use Rattle.tabled_text.specs.Plain.{IsAdditiveColumn}
