-- A table that is printed with a minimum width and an alignment, without being changed.
use Rattle.std.specs.Prelude.{ℕ, ◌+◌, ◌-◌, ◌/◌, ◌==◌, ◌||◌, Bool, Option, Some, None, if◌then◌else◌, is_some, nat_lt, not, unwrap_or}
use Rattle.tabled_base.specs.declared.position.Entity.TheVariants.{Global}
use Rattle.tabled_config.specs.declared.sides.Indent.{Indent}
use Rattle.tabled_config.specs.declared.sides.Sides.{Sides}
use Rattle.tabled_config.specs.declared.alignment.AlignmentHorizontal.{AlignmentHorizontal}
use Rattle.tabled_config.specs.declared.alignment.AlignmentHorizontal.TheVariants.{Left, Center, Right}
use Rattle.tabled_config.specs.declared.spanned.SpannedConfig.{SpannedConfig}
use Rattle.tabled_entity.specs.Changes.{Changes, with_change}
use Rattle.tabled_size.specs.Sheet.{Sheet}
use Rattle.tabled_size.specs.Effective.{effective}
use Rattle.tabled_size.specs.Stored.{is_stored}
use Rattle.tabled_size.specs.Totals.{total_width}
use Rattle.tabled_table.specs.TableSheet.{cells_of, sheet}
use Rattle.tabled_table.specs.declared.table.Table.{Table}

-- the columns that a total lacks to a width; 0 if none is asked for
abbrev pub missing_to : Option ℕ → ℕ → ℕ
missing_to None whole = 0
missing_to (Some width) whole = width - whole

-- how many of the missing columns are added on the left: all for `Left` or no alignment, the
-- smaller half for `Center`, none for `Right`
abbrev pub left_part : Option AlignmentHorizontal → ℕ → ℕ
left_part None missing = missing
left_part (Some Left) missing = missing
left_part (Some Center) missing = missing / 2
left_part (Some Right) missing = 0

-- the fill of the side margins: a space instead of U+0000
abbrev pub shown_fill : ℕ → ℕ
shown_fill fill = if fill == 0 then 32 else fill

-- an indent with more columns and this fill
abbrev pub grown : Indent → ℕ → ℕ → Indent
grown indent more fill = record { size = indent.size + more; fill = shown_fill fill }

-- a margin with the missing columns added to its sides; unchanged if none are missing
abbrev pub widened : Sides Indent → Option AlignmentHorizontal → ℕ → ℕ → Sides Indent
widened margin align fill missing =
    if missing == 0 then margin
    else (record margin {
      left = grown margin.left (left_part align missing) fill;
      right = grown margin.right (missing - left_part align missing) fill;
    })

-- the alignments, with one for the whole table if it is given
abbrev pub aligned : Changes AlignmentHorizontal → Option AlignmentHorizontal → Changes AlignmentHorizontal
aligned changes None = changes
aligned changes (Some alignment) = with_change changes Global alignment

-- the settings that a table is printed with
abbrev pub shown_config : SpannedConfig → Option AlignmentHorizontal → ℕ → ℕ → SpannedConfig
shown_config config align fill missing =
    record config {
      margin = widened config.margin align fill missing;
      alignment_horizontal = aligned config.alignment_horizontal align;
    }

-- the columns that a table lacks to a width
abbrev pub missing_columns : Table → Option ℕ → ℕ
missing_columns table width = missing_to width (total_width (sheet table))

-- the sheet that is printed: the cells and effective sizes of a table, with these settings
abbrev pub overridden_sheet : Table → Option ℕ → Option AlignmentHorizontal → ℕ → Sheet
overridden_sheet table width align fill =
    effective (cells_of table) (shown_config table.config.config align fill (missing_columns table width)) table.dimension

-- the width that is asked for; 0 if none is
abbrev pub asked : Option ℕ → ℕ
asked width = unwrap_or width 0

-- whether printing allocates: to copy settings that have to change, or to estimate sizes that
-- aren't stored
abbrev pub takes_memory : Table → Option ℕ → Option AlignmentHorizontal → Bool
takes_memory table width align = (is_some align || nat_lt 0 (missing_columns table width)) || not (is_stored table.dimension)
