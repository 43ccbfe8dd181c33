-- The names of the crates below, and of the definitions of this one, that its proofs use. Declares
-- nothing.
pub use Rattle.std.proofs.Common.{Bool, Err, IfErr, List, MatchBool, MatchOption, None, Ok, Option, Result, Some, [], ap, append-nil, arith}
pub use Rattle.std.proofs.Common.{cond, encode_utf8_all, false, if◌then◌else◌, inl, inr, length, lit<, map, max, min, nat_le, nat_lt, refl}
pub use Rattle.std.proofs.Common.{replicate, rules, slice_index_or, string_bytes, subst, suc, sum, sum_by, sym, take, true, zero, ℕ, ⊎_elim}
pub use Rattle.std.proofs.Common.{◌&&◌, ◌++◌, ◌+◌, ◌-◌, ◌<◌, ◌==◌, ◌^◌, ◌||◌, ◌∙◌, ◌∷◌, ◌≡◌, ◌≤◌, ◌⊎◌}
pub use Rattle.std.proofs.Math.Seq.{take-length}
pub use Rattle.std.proofs.lemmas.Bool.{MatchBool-at_true, cases_Bool, le-leb, lt-leb}
pub use Rattle.std.proofs.lemmas.Bool.Decides.{nat_tests}
pub use Rattle.std.proofs.lemmas.List.{get_or_default, length-take}
pub use Rattle.std.proofs.lemmas.List.Splits.{length-slice_split}
pub use Rattle.std.proofs.lemmas.Result.{IfErr-weaker, err_from_is_err_and, on_ok_weaker}
pub use Rattle.std.proofs.lemmas.Str.{encode_ascii}
pub use Rattle.std.specs.Cow.{cow_str_bytes}
pub use Rattle.std.specs.List.{AllZip, join_with_byte, range_with_len}
pub use Rattle.std.specs.Str.{IsUtf8}
pub use Rattle.tabled_set.specs.CellChanges.{AreChanged, AreChangedBefore, ByColumn, ByRow, NeedNoMemory, WalkOrder, if_sized, if_wider}
pub use Rattle.tabled_set.specs.CellChanges.{for_content_size, if_taken, needs, on_line, precedes, truncating}
pub use Rattle.tabled_set.specs.Common.{AreCleared, CompleteDimension, FitsIn, IsAdditive, IsFilledIn, IsInside, IsRectangular, IsSized}
pub use Rattle.tabled_set.specs.Common.{IsTakenFrom, Memory, Range, Sheet, SpannedConfig, TableError, at, cell_at, columns, covers}
pub use Rattle.tabled_set.specs.Common.{effective, effective_sizes, estimated, estimated_heights, estimated_widths, heights_of, is_empty}
pub use Rattle.tabled_set.specs.Common.{is_stored, line_columns, lines_of, text_columns, total_height, total_width, widths_of}
unfoldable pub use Rattle.tabled_set.specs.Common.{filled_height, filled_width}
pub use Rattle.tabled_set.specs.Extremes.{picked}
pub use Rattle.tabled_set.specs.HeightFrame.{frame_height}
pub use Rattle.tabled_set.specs.Increased.{IsGrownBy}
pub use Rattle.tabled_set.specs.Minimums.{emptied, minimums, side_columns, side_padding}
pub use Rattle.tabled_set.specs.Narrowed.{NarrowingOutOfRange, Narrows, permitted_width}
pub use Rattle.tabled_set.specs.Priorities.{Shrinks}
pub use Rattle.tabled_set.specs.TextLines.{filled_line}
pub use Rattle.tabled_set.specs.Truncated.{HasEndedLines, IsAdditiveLimit, IsCutAt, IsEnded, IsTruncated, SuffixLimit, suffix_columns}
pub use Rattle.tabled_size.proofs.ShrunkTotals.{frame_width}
pub use Rattle.tabled_size.proofs.Totalling.{heights_length, widths_length}
pub use Rattle.tabled_size.specs.Estimates.{needed_width}
pub use Rattle.tabled_size.specs.Reached.{reached}
unfoldable pub use Rattle.tabled_size.specs.Totals.{part_height}
pub use Rattle.tabled_text.specs.Lines.{lines_left}
