-- The names of the crates below, and of the definitions of this one, that its proofs use. Declares
-- nothing.
pub use Rattle.std.proofs.Common.{Bool, List, None, Option, Some, [], ap, append-nil, append_assoc, arith, cond, drop, false, get_or, inl}
pub use Rattle.std.proofs.Common.{inr, length, length-append, map, max, refl, replicate, string_bytes, subst, suc, sym, take, true, zero, ℕ}
pub use Rattle.std.proofs.Common.{◌++◌, ◌+◌, ◌-◌, ◌<◌, ◌==◌, ◌∙◌, ◌∷◌, ◌≡◌, ◌≤◌}
pub use Rattle.std.proofs.Math.Seq.{drop-append_seam, take-length}
pub use Rattle.std.proofs.iter.runs.Lists.{Yields-both}
pub use Rattle.std.proofs.lemmas.Bool.{cases_lt}
pub use Rattle.std.proofs.lemmas.List.{drop-append-le, get_or-drop, get_or-take, get_or_append_left, length-drop, length-map, length-take}
pub use Rattle.std.proofs.lemmas.List.{map-append, take-append-le}
pub use Rattle.std.proofs.lemmas.List.Elements.{All-append, All-cons, All-head, All-map, All-nil, All-tail}
pub use Rattle.std.proofs.lemmas.List.Splits.{slice_split_none}
pub use Rattle.std.proofs.lemmas.Str.{IsCharBoundary-after_ascii, IsCharBoundary-at_seam}
pub use Rattle.std.specs.Int.{is_in_range}
pub use Rattle.std.specs.Iterator.{Count, Drains, HoldsAlong, IsFinite, IsFiniteIterable, Yields, size}
pub use Rattle.std.specs.List.{All, AllZip, slice_range}
pub use Rattle.std.specs.Str.{IsCharBoundary, IsUtf8}
pub use Rattle.tabled_base.proofs.LengthenedRows.{lengthened_rows-rectangular}
pub use Rattle.tabled_base.proofs.Lengthening.{length-lengthened}
pub use Rattle.tabled_base.specs.Cells.{IsRectangular, cell_at, columns, lengthened, lengthened_rows, with_record}
pub use Rattle.tabled_base.specs.Given.{Given}
pub use Rattle.tabled_base.specs.RowsGiven.{RowsBegin, RowsEnd, RowsGiven}
pub use Rattle.tabled_records.specs.Buffered.{BufBegin, cells_ahead}
pub use Rattle.tabled_records.specs.Joined.{AreKept, AreLines, AreRanges, HasNo, IsJoined, behind, longest_range, part, parts, rows_in}
pub use Rattle.tabled_records.specs.Joined.{texts_from}
unfoldable pub use Rattle.tabled_records.specs.Joined.{begin}
pub use Rattle.tabled_records.specs.Reading.{MayGive, Reads, ReadsTo, Walked}
pub use Rattle.tabled_records.specs.TextRows.{tab_separated, most_cells}
pub use Rattle.tabled_records.specs.Views.{AreChanged, changed_of, cut_cells_steps, first_cells_steps, with_widths}
pub use Rattle.tabled_text.specs.Measure.{greatest, lines_of, text_columns}
