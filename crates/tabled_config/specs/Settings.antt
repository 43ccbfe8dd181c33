-- The settings of each cell and line. The crates above read a configuration only through these
-- definitions.
use Rattle.std.specs.Prelude.{◌≡◌, ℕ, Bool, Option, Some, None, Result, OnOk, OnErr, IfErr, IsOk}
use Rattle.tabled_base.specs.declared.error.TableError.{TableError}
use Rattle.tabled_base.specs.declared.error.TableError.TheVariants.{Memory}
use Rattle.tabled_base.specs.declared.position.Entity.{Entity}
use Rattle.tabled_config.specs.declared.borders.HorizontalLine.{HorizontalLine}
use Rattle.tabled_config.specs.declared.alignment.AlignmentHorizontal.{AlignmentHorizontal}
use Rattle.tabled_config.specs.declared.alignment.AlignmentVertical.{AlignmentVertical}
use Rattle.tabled_config.specs.declared.borders.Frame.{Frame}
use Rattle.tabled_config.specs.declared.sides.Indent.{Indent}
use Rattle.tabled_config.specs.declared.sides.Sides.{Sides}
use Rattle.tabled_config.specs.declared.spanned.CellStyle.{CellStyle}
use Rattle.tabled_config.specs.declared.spanned.SpannedConfig.{SpannedConfig}
use Rattle.tabled_entity.specs.Changes.{setting_at, shared}
use Rattle.tabled_entity.specs.ChangeIndex.{IsWhole}
use Rattle.tabled_config.specs.Frame.{border_at, frame_of}
use Rattle.tabled_config.specs.Lines.{line_set}

-- the padding and the alignment of a cell
unfoldable pub style_at : SpannedConfig → ℕ → ℕ → CellStyle
style_at config row column =
    record {
      padding = setting_at config.padding row column;
      horizontal = setting_at config.alignment_horizontal row column;
      vertical = setting_at config.alignment_vertical row column;
      line_alignment = setting_at config.line_alignment row column;
    }

-- a style, if all its parts are known
abbrev pub style_if : Option (Sides Indent) → Option AlignmentHorizontal → Option AlignmentVertical → Option Bool → Option CellStyle
style_if (Some padding) (Some horizontal) (Some vertical) (Some line_alignment) =
    Some (record { padding = padding; horizontal = horizontal; vertical = vertical; line_alignment = line_alignment })
style_if _ _ _ _ = None

-- the style of all cells, if none was set for a row, a column or a cell
unfoldable pub shared_style : SpannedConfig → Option CellStyle
shared_style config =
    style_if (shared config.padding) (shared config.alignment_horizontal) (shared config.alignment_vertical) (shared config.line_alignment)

-- a line set by index, else the borders' line
abbrev pub in_place_of : Option HorizontalLine → Option HorizontalLine → Option HorizontalLine
in_place_of (Some line) border = Some line
in_place_of None border = border

-- the horizontal line above row i of `rows` rows, or below the last row for i = rows
unfoldable pub rule_at : SpannedConfig → ℕ → ℕ → Option HorizontalLine
rule_at config rows i = in_place_of (line_set config.lines i) (border_at config.borders rows i)

-- the margin and the vertical lines; lines set by index draw no vertical line
abbrev pub frame : SpannedConfig → Frame
frame config = frame_of config.borders config.margin

-- the outcome of setting a value for an entity: the settings with it, or the old ones and the error
-- `Memory`. For the whole table it always succeeds.
pub record IsSetFor {T : Type 0} (entity : Entity) (result : Result T TableError)
    (old new with_it : SpannedConfig) : Type 0 where
  pub ok : OnOk result (new ≡ with_it)
  pub err : OnErr result (new ≡ old)
  pub only : IfErr result (λ e. e ≡ Memory)
  pub whole : IsWhole entity → IsOk result
