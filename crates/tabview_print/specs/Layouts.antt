-- The settings of a layout.
use Rattle.std.specs.Prelude.{ℕ, ◌+◌, List, [], ◌∷◌, map, slice_index_or}
use Rattle.tabled_base.specs.declared.position.Entity.TheVariants.{Column as OfColumn}
use Rattle.tabled_config.specs.declared.alignment.AlignmentHorizontal.{AlignmentHorizontal}
use Rattle.tabled_config.specs.declared.alignment.AlignmentHorizontal.TheVariants.{Center, Left, Right}
use Rattle.tabled_config.specs.declared.spanned.SpannedConfig.{SpannedConfig}
use Rattle.tabled_config.specs.declared.style.Style.{Style}
use Rattle.tabled_config.specs.Options.{with_style}
use Rattle.tabled_entity.specs.Changes.{with_change}
use Rattle.tabled_table.specs.NewConfig.{new_config}
use Rattle.tabview_print.specs.declared.layout.Column.{Column}

-- how a column is aligned, at the left past the last one
abbrev pub side_at : List Column → ℕ → AlignmentHorizontal
side_at columns i = slice_index_or (map (λ c. c.side) columns) i Left

-- a column that is aligned to a side. By default it is at the left
abbrev pub with_side : SpannedConfig → ℕ → AlignmentHorizontal → SpannedConfig
with_side config column Left = config
with_side config column Center = record config { alignment_horizontal = with_change config.alignment_horizontal (OfColumn column) Center }
with_side config column Right = record config { alignment_horizontal = with_change config.alignment_horizontal (OfColumn column) Right }

-- the sides of some columns, of which the first has an index
abbrev pub with_sides : SpannedConfig → ℕ → List Column → SpannedConfig
with_sides config index [] = config
with_sides config index (column ∷ columns) = with_sides (with_side config index column.side) (index + 1) columns

-- a style, and the sides of all columns
abbrev pub settings_of : Style → List Column → SpannedConfig
settings_of style columns = with_style (with_sides new_config 0 columns) style
