-- The names of the crates below that most clauses and proofs cite, passed on from one place.
-- Declares nothing.
pub use Rattle.tabled_base.specs.Cells.{IsInside, IsRectangular, cell_at, columns}
pub use Rattle.tabled_base.specs.declared.error.TableError.{TableError}
pub use Rattle.tabled_base.specs.declared.error.TableError.TheVariants.{Memory, Range}
pub use Rattle.tabled_base.specs.declared.position.Entity.{Entity}
pub use Rattle.tabled_base.specs.declared.position.Entity.TheVariants.{Cell, Global, Row}
pub use Rattle.tabled_config.specs.declared.spanned.SpannedConfig.{SpannedConfig}
pub use Rattle.tabled_entity.specs.Changes.{covers}
pub use Rattle.tabled_priority.specs.Permitted.{FitsMinimums, IsPermitted, IsTakenFrom, at}
pub use Rattle.tabled_size.specs.Cleared.{AreCleared}
pub use Rattle.tabled_size.specs.Effective.{effective, effective_sizes}
pub use Rattle.tabled_size.specs.Estimates.{IsTooHigh, IsTooWide, estimated_heights, estimated_widths}
pub use Rattle.tabled_size.specs.FilledIn.{HasNoEstimate, IsFilledIn}
pub use Rattle.tabled_size.specs.Holds.{Holds, IsSized}
pub use Rattle.tabled_size.specs.PlainCells.{AreAdditive}
pub use Rattle.tabled_size.specs.Sheet.{Sheet, estimated, is_empty}
pub use Rattle.tabled_size.specs.Stored.{heights_of, is_stored, widths_of}
pub use Rattle.tabled_size.specs.TextCells.{AreTexts}
pub use Rattle.tabled_size.specs.Totals.{total_height, total_width}
unfoldable pub use Rattle.tabled_size.specs.Totals.{filled_height, filled_width}
pub use Rattle.tabled_size.specs.declared.complete_dimension.CompleteDimension.{CompleteDimension}
pub use Rattle.tabled_text.specs.Cut.{IsCut, NeedsFill}
pub use Rattle.tabled_text.specs.Exact.{IsExactLine}
pub use Rattle.tabled_text.specs.Fitting.{FitsIn}
pub use Rattle.tabled_text.specs.Longest.{IsLongestCut}
pub use Rattle.tabled_text.specs.Measure.{line_columns, lines_of, text_columns}
pub use Rattle.tabled_text.specs.Plain.{IsAdditive, IsAdditiveColumn}
