-- New configurations, and those converted from compact ones.
use Rattle.std.specs.Prelude.{false, []}
use Rattle.tabled_config.specs.declared.alignment.AlignmentHorizontal.TheVariants.{Left}
use Rattle.tabled_config.specs.declared.alignment.AlignmentVertical.TheVariants.{Top}
use Rattle.tabled_config.specs.declared.compact.CompactConfig.{CompactConfig}
use Rattle.tabled_config.specs.declared.compact.CompactMultilineConfig.{CompactMultilineConfig}
use Rattle.tabled_config.specs.declared.spanned.SpannedConfig.{SpannedConfig}
use Rattle.tabled_entity.specs.Changes.{for_all}
use Rattle.tabled_config.specs.Compact.{each_side, no_indent}
use Rattle.tabled_config.specs.Frame.{no_borders}

-- no borders, margin, padding or lines; text at the left and the top, with no flag set
abbrev pub new_spanned : SpannedConfig
new_spanned =
    record {
      borders = no_borders;
      margin = each_side no_indent;
      padding = for_all (each_side no_indent);
      alignment_horizontal = for_all Left;
      alignment_vertical = for_all Top;
      line_alignment = for_all false;
      trim_horizontal = for_all false;
      trim_vertical = for_all false;
      lines = [];
    }

-- a compact configuration for all cells; the other settings are those of a new configuration
abbrev pub spanned_of_compact : CompactConfig → SpannedConfig
spanned_of_compact compact =
    record new_spanned {
      borders = compact.borders;
      margin = compact.margin;
      padding = for_all compact.padding;
      alignment_horizontal = for_all compact.alignment_horizontal;
    }

-- a compact configuration for cells of several lines, with its vertical alignment and flags
abbrev pub spanned_of_multiline : CompactMultilineConfig → SpannedConfig
spanned_of_multiline multiline =
    record (spanned_of_compact multiline.config) {
      alignment_vertical = for_all multiline.alignment_vertical;
      line_alignment = for_all multiline.formatting.allow_lines_alignment;
      trim_horizontal = for_all multiline.formatting.horizontal_trim;
      trim_vertical = for_all multiline.formatting.vertical_trim;
    }
