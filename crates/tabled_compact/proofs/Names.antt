-- The names of the crates below, and of the definitions of this one, that its proofs use. Declares
-- nothing.
pub use Rattle.std.proofs.Common.{Bool, Err, IfOk, IfSome, List, None, Ok, OnOk, Option, Result, Some, [], ap, append-nil, append_assoc}
pub use Rattle.std.proofs.Common.{arith, false, if◌then◌else◌, inl, inr, length, map, min, refl, rules, subst, suc, sym, take, true, zero}
pub use Rattle.std.proofs.Common.{ℕ, ⊎_elim, ◌*◌, ◌++◌, ◌+◌, ◌-◌, ◌<◌, ◌==◌, ◌∙◌, ◌∷◌, ◌≡◌, ◌≤◌, ◌⊎◌}
pub use Rattle.std.proofs.iter.Next.{Yields-more}
pub use Rattle.std.proofs.lemmas.Bool.Decides.{nat_tests}
pub use Rattle.std.proofs.lemmas.List.{length-append, length-map, map-append}
pub use Rattle.std.proofs.lemmas.List.Elements.{All-pop}
pub use Rattle.std.specs.Iterator.{IsFiniteIterable}
pub use Rattle.std.specs.List.{flat_map, range_with_len, slice_index}
pub use Rattle.std.specs.Result.{IsErrAnd}
pub use Rattle.tabled_base.specs.Given.{Given}
pub use Rattle.tabled_base.specs.declared.error.TableError.{TableError}
pub use Rattle.tabled_compact.specs.CompactCells.{CompactSheet, compact_columns, sheet_by}
unfoldable pub use Rattle.tabled_compact.specs.CompactCells.{compact_cell, compact_piece, compact_row, row_front}
unfoldable pub use Rattle.tabled_compact.specs.CompactLines.{above, part_front, row_part, rows_lines, tail_lines}
pub use Rattle.tabled_compact.specs.Fitting.{fitting_width, widest_cell}
pub use Rattle.tabled_compact.specs.Printed.{FailsToPrintCompact, PrintsCompact, PutsRows}
pub use Rattle.tabled_compact.specs.Shown.{IsSpent, has_rows, in_window, spanned, window_after}
pub use Rattle.tabled_compact.specs.declared.columns.Window.{Window}
pub use Rattle.tabled_line.proofs.Leading.{lines-finished, lines-stopped-first}
pub use Rattle.tabled_line.proofs.Sending.{finished, further, stopped, stopped-first}
pub use Rattle.tabled_line.specs.Leading.{WritesLines, begun_after}
pub use Rattle.tabled_line.specs.Row.{right_edge}
pub use Rattle.tabled_line.specs.Sent.{Sends, Sent, Stops, Writes}
pub use Rattle.tabled_priority.specs.Sums.{sum_below}
