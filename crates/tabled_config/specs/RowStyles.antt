-- The styles of a row's cells.
use Rattle.std.specs.Prelude.{ℕ, ◌≡◌, false}
use Rattle.std.specs.List.{slice_index_or}
use Rattle.tabled_config.specs.declared.alignment.AlignmentHorizontal.TheVariants.{Left}
use Rattle.tabled_config.specs.declared.alignment.AlignmentVertical.TheVariants.{Top}
use Rattle.tabled_config.specs.declared.spanned.CellStyle.{CellStyle}
use Rattle.tabled_config.specs.declared.spanned.row_styles.RowStyles.{RowStyles}
use Rattle.tabled_config.specs.declared.spanned.row_styles.RowStyles.TheVariants.{Alike, Listed, Set}
use Rattle.tabled_config.specs.declared.spanned.row_styles.SetStyles.{SetStyles}
use Rattle.tabled_config.specs.Compact.{each_side, no_indent}
use Rattle.tabled_config.specs.Settings.{style_at}
use Rattle.tabled_entity.specs.RowValues.{value_at}

-- the style of a cell without settings
abbrev pub plain_style : CellStyle
plain_style =
    record {
      padding = each_side no_indent;
      horizontal = Left;
      vertical = Top;
      line_alignment = false;
    }

-- the style set for the cell in a column
abbrev pub set_style : SetStyles → ℕ → CellStyle
set_style styles column =
    record {
      padding = value_at styles.padding column;
      horizontal = value_at styles.horizontal column;
      vertical = (style_at styles.config.now styles.row column).vertical;
      line_alignment = (style_at styles.config.now styles.row column).line_alignment;
    }

-- the style of the cell in a column
abbrev pub style_in : RowStyles → ℕ → CellStyle
style_in (Alike style) column = style
style_in (Listed styles) column = slice_index_or styles.now column plain_style
style_in (Set styles) column = set_style styles column

-- the style of each column is that of `style`
pub record DescribesStyles (styles : RowStyles) (style : ℕ → CellStyle) : Type 0 where
  pub at : (column : ℕ) → style_in styles column ≡ style column
