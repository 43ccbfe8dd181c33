-- The names that the proofs use, of the crates below and of this one. Declares nothing.
pub use Rattle.std.proofs.Common.{Bool, List, None, Option, Some, [], add-one, ap, append-nil, append_assoc, arith, cond, drop, encode_utf8}
pub use Rattle.std.proofs.Common.{false, get_or, if◌then◌else◌, inl, inr, length, ltb, map, max, refl, replicate, rules, slice_get}
pub use Rattle.std.proofs.Common.{string_bytes, subst, suc, sym, take, true, unwrap_or, zero, ℕ, ⊎_elim, ◌&&◌, ◌*◌, ◌++◌, ◌+◌, ◌-◌, ◌<◌}
pub use Rattle.std.proofs.Common.{◌==◌, ◌||◌, ◌∙◌, ◌∷◌, ◌≡◌, ◌≤◌, ◌⊎◌}
pub use Rattle.std.proofs.Math.Seq.{drop-cons}
pub use Rattle.std.proofs.lemmas.Bool.Decides.{nat_tests}
pub use Rattle.std.proofs.lemmas.Grind.{common_steps}
pub use Rattle.std.proofs.lemmas.List.{length-map, length-replicate, map-append}
pub use Rattle.std.proofs.lemmas.List.FromFn.{get_or-map-range_with_len, length-map-range_with_len}
pub use Rattle.std.proofs.lemmas.Option.{slice_get-get_or, slice_get-map, slice_get_read}
pub use Rattle.std.proofs.lemmas.Str.{IsUtf8-nil}
pub use Rattle.std.specs.List.{All, flat_map, range_with_len}
pub use Rattle.std.specs.Option.{option_map}
pub use Rattle.std.specs.Str.{IsUtf8}
pub use Rattle.tabled_config.specs.Compact.{each_side}
pub use Rattle.tabled_config.specs.Frame.{has_left}
pub use Rattle.tabled_config.specs.declared.borders.Borders.{Borders}
pub use Rattle.tabled_config.specs.declared.sides.Indent.{Indent}
pub use Rattle.tabled_config.specs.declared.sides.Sides.{Sides}
pub use Rattle.tabled_config.specs.declared.spanned.CellStyle.{CellStyle}
pub use Rattle.tabled_line.proofs.Each.{each-more}
pub use Rattle.tabled_line.proofs.Leading.{lines-further, lines-stopped}
pub use Rattle.tabled_line.proofs.Sending.{finished, further, stopped, stopped-first}
pub use Rattle.tabled_line.specs.Block.{columns_before, inner_width}
unfoldable pub use Rattle.tabled_line.specs.Block.{cell_line}
pub use Rattle.tabled_line.specs.Fill.{fill, indent}
pub use Rattle.tabled_line.specs.Leading.{LineSends}
pub use Rattle.tabled_line.specs.Additive.{EachLineTakes}
pub use Rattle.tabled_line.specs.Sent.{Sends}
pub use Rattle.tabled_pool.specs.Around.{across, around_at, around_part, around_text, beside, is_last_row, run_side}
pub use Rattle.tabled_pool.specs.Block.{text_line, without_sides}
unfoldable pub use Rattle.tabled_pool.specs.Block.{leaf_line, pool_block}
pub use Rattle.tabled_pool.specs.Boxes.{Box, IsSize, Part, behind_border, border_kind, border_part, border_size, box_across}
pub use Rattle.tabled_pool.specs.Boxes.{box_along, box_of, box_step, first_part, given_size, is_line_kind, joined_box, leaf_box}
pub use Rattle.tabled_pool.specs.Boxes.{list_box, needed_by, part_of, pick, place_along, rest_part, sized, AreLeft}
pub use Rattle.tabled_pool.specs.Boxes.{boxes_left, contains, is_border, is_border_above, is_border_before, is_line, owner, Fits, drawn_part}
pub use Rattle.tabled_pool.specs.Boxes.{AreTiles, covering, within}
pub use Rattle.tabled_pool.specs.Plain.{EachCharacter, EachFill}
pub use Rattle.tabled_pool.specs.Colours.{Mark, coloured, line_marks_of, marks_of, no_mark, Around, nothing_around, within_marks}
pub use Rattle.tabled_pool.specs.Colours.{AreNoMarks}
pub use Rattle.tabled_pool.specs.Drawn.{IsAt, owned_text, part_text, Tiled}
unfoldable pub use Rattle.tabled_pool.specs.Drawn.{border_char, border_text, drawn, drawn_line, place_text}
pub use Rattle.tabled_pool.specs.Inherited.{BlockSheet, block_sheet_of, drawn_block_line, widened, InheritedSheet, drawer, has_zero_width}
pub use Rattle.tabled_pool.specs.Inherited.{inheriting_box, inner_text, run_char, run_text}
pub use Rattle.tabled_pool.specs.Tree.{left_in, nodes, nodes_in, EachText, Tree, leaf, tree_of, trees}
pub use Rattle.tabled_pool.specs.Pool.{margin_line, with_margin, within_margin, HasColumns, borders_of, frame_of, frame_place}
pub use Rattle.tabled_pool.specs.Pool.{framed_height, framed_width, margin_marks, margin_of, marks_for, spacing_of}
pub use Rattle.tabled_pool.specs.Numbers.{AreSized, IsSized}
pub use Rattle.tabled_pool.specs.Plan.{DrawingPlan, has_top, whole, plan_of}
unfoldable pub use Rattle.tabled_pool.specs.Pool.{plan, pool_lines}
pub use Rattle.tabled_pool.specs.TableLines.{sheet_of}
unfoldable pub use Rattle.tabled_pool.specs.Boxes.{framed, spans}
pub use Rattle.tabled_pool.specs.declared.color_marks.RunSide.{RunSide}
pub use Rattle.tabled_pool.specs.declared.color_marks.RunSide.TheVariants.{Before, Behind, Outside}
pub use Rattle.tabled_pool.specs.declared.kind.Kind.{Kind}
pub use Rattle.tabled_pool.specs.declared.kind.Kind.TheVariants.{Bar, Leaf, Rule}
pub use Rattle.tabled_pool.specs.declared.piece.Piece.{Piece}
pub use Rattle.tabled_pool.specs.declared.rectangle.Rectangle.{Rectangle}
pub use Rattle.tabled_pool.specs.declared.pool_table.PoolTable.{PoolTable}
pub use Rattle.tabled_pool.specs.declared.sizes.BoxSpacing.{BoxSpacing}
pub use Rattle.tabled_pool.specs.declared.sizes.Direction.{Direction}
pub use Rattle.tabled_pool.specs.declared.sizes.Direction.TheVariants.{Across, Down}
pub use Rattle.tabled_pool.specs.declared.tree.TableValue.{TableValue}
pub use Rattle.tabled_pool.specs.declared.tree.TableValue.TheFolds.{fold-roll-TableValue, ind-TableValue, map-TableValue, the_lemmas}
pub use Rattle.tabled_pool.specs.declared.tree.TableValue.TheOpen.{Cell, Column, Row}
pub use Rattle.tabled_pool.specs.declared.tree.TableValue.TheViews.{roll-TableValue}
pub use Rattle.tabled_text.proofs.Ends.{Closes, closes-append, closes-frame, closes-framed, frame-nil}
pub use Rattle.tabled_text.proofs.LineLaws.{frame-one, line-frame}
pub use Rattle.tabled_text.proofs.PlainLines.{plain_column-space, plain_line-append}
pub use Rattle.tabled_text.specs.FramedLines.{IsLine, IsSeparatorColumn}
pub use Rattle.tabled_text.specs.Measure.{line_columns, lines_of, text_columns}
pub use Rattle.tabled_text.specs.Plain.{IsAdditive, IsAdditiveColumn, IsAdditiveLine, IsPlain}
