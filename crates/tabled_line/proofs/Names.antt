-- The names of the crates below, and of the definitions of this one, that its proofs use. Declares
-- nothing.
pub use Rattle.std.proofs.Common.{Bool, Err, List, None, Ok, Option, Result, Some, [], ap, append-nil, append_assoc, arith, cond, drop}
pub use Rattle.std.proofs.Common.{false, get_or, get_or-set_other, get_or-set_same, inl, inr, length, length-drop, lit<, map, refl, replicate, rules}
pub use Rattle.std.proofs.Common.{slice_get, slice_set, subst, suc, sym, take, true, unwrap_or, zero, zero-add, ℕ, ⊎_elim, ◌*◌, ◌++◌, ◌+◌}
pub use Rattle.std.proofs.Common.{◌-◌, ◌<◌, ◌∙◌, ◌∷◌, ◌≡◌, ◌≤◌}
pub use Rattle.std.proofs.Math.Seq.{length-take-le, take-append_seam, take-take, take_all}
pub use Rattle.std.proofs.lemmas.Bool.{cases_eq, cases_lt, eqb-true}
pub use Rattle.std.proofs.lemmas.Grind.{common_steps}
pub use Rattle.std.proofs.lemmas.List.{get_or-append-add, get_or_append_left, length-append, length-set, take-append-drop}
pub use Rattle.std.proofs.lemmas.List.FromFn.{get_or-map-range_with_len, length-map-range_with_len}
pub use Rattle.std.proofs.lemmas.Option.{get_or_from_slice_get, slice_get-get_or, slice_get_cases}
pub use Rattle.std.proofs.lemmas.Str.{IsCharBoundary-after_ascii, IsCharBoundary-before_ascii, IsUtf8-append, IsUtf8-drop}
pub use Rattle.std.proofs.lemmas.Str.{IsUtf8-from_is_utf8, IsUtf8-nil, IsUtf8-string_bytes, is_utf8-from_IsUtf8}
pub use Rattle.std.specs.Io.KnownBytes.{Appends, Keeps}
pub use Rattle.std.specs.List.{flat_map, range_with_len, slice_index_or, slice_range}
pub use Rattle.std.specs.Option.{option_map}
pub use Rattle.std.specs.Prelude.{string_bytes}
pub use Rattle.std.specs.Result.{IsErrAnd}
pub use Rattle.std.specs.Str.{IsCharBoundary, IsUtf8}
pub use Rattle.tabled_base.specs.declared.error.TableError.{TableError}
pub use Rattle.tabled_base.specs.declared.error.TableError.TheVariants.{Memory, Narrow, Range, ShortHeights, ShortWidths, Writer}
pub use Rattle.tabled_config.specs.Frame.{has_bar}
pub use Rattle.tabled_config.specs.declared.alignment.AlignmentHorizontal.{AlignmentHorizontal}
pub use Rattle.tabled_config.specs.declared.borders.HorizontalLine.{HorizontalLine}
pub use Rattle.tabled_config.specs.declared.borders.Frame.{Frame}
pub use Rattle.tabled_config.specs.declared.spanned.CellStyle.{CellStyle}
unfoldable pub use Rattle.tabled_line.specs.Apart.{line_total}
pub use Rattle.tabled_line.specs.Block.{above_text, before_text, columns_before, fill_above, free_lines, inner_width}
unfoldable pub use Rattle.tabled_line.specs.Block.{block, cell_line}
pub use Rattle.tabled_line.specs.Cursors.{AreAt, IsAhead, IsAt, IsCursor, cursor_of, nowhere}
pub use Rattle.tabled_line.specs.Fill.{fill, indent}
pub use Rattle.tabled_line.specs.Leading.{LineSends, WritesLines, break, lines_after}
pub use Rattle.tabled_line.specs.LineCache.{IsCacheOf}
pub use Rattle.tabled_line.specs.Row.{ColumnSheet, RowSheet, block_line, cell_block, piece, separator_text}
unfoldable pub use Rattle.tabled_line.specs.Row.{cell_piece, left_edge, right_edge, row_line, row_lines, rule_line, rule_piece}
pub use Rattle.tabled_line.specs.RowLines.{IsTop}
pub use Rattle.tabled_line.specs.SendsBut.{SendsBut}
pub use Rattle.tabled_line.specs.Sent.{Sends, Sent, Stops, Took, Writes}
pub use Rattle.tabled_line.specs.Slots.{offset_at, slot_at}
pub use Rattle.tabled_line.specs.WriterSent.{named_sent}
pub use Rattle.tabled_line.specs.declared.placement.PlacedText.{PlacedText}
pub use Rattle.tabled_line.specs.declared.row_template.Slot.{Slot}
pub use Rattle.tabled_priority.specs.Sums.{one_if, sum_below}
pub use Rattle.tabled_text.proofs.Bridge.{line_columns-le, lines_of-one, text_columns-one}
pub use Rattle.tabled_text.proofs.Ends.{line-nil}
pub use Rattle.tabled_text.specs.FramedLines.{IsLine}
pub use Rattle.tabled_text.specs.Measure.{line_columns, lines_of, text_columns}
pub use Rattle.tabled_text.specs.Plain.{IsAdditiveColumn}
