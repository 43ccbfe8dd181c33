-- The values of new compact configurations.
use Rattle.std.specs.Prelude.{◌≡◌, false, []}
use Rattle.tabled_config.specs.declared.alignment.AlignmentHorizontal.TheVariants.{Left}
use Rattle.tabled_config.specs.declared.alignment.AlignmentVertical.TheVariants.{Top}
use Rattle.tabled_config.specs.declared.colored.ANSIStr.{ANSIStr}
use Rattle.tabled_config.specs.declared.sides.Indent.{Indent}
use Rattle.tabled_config.specs.declared.sides.Sides.{Sides}
use Rattle.tabled_config.specs.declared.compact.CompactConfig.{CompactConfig}
use Rattle.tabled_config.specs.declared.compact.CompactMultilineConfig.{CompactMultilineConfig}
use Rattle.tabled_config.specs.Frame.{no_borders}

-- the same value on each side
abbrev pub each_side : {T : Type 0} → T → Sides T
each_side value = record { left = value; right = value; top = value; bottom = value }

-- no columns or lines, filled with spaces
abbrev pub no_indent : Indent
no_indent = record { size = 0; fill = 32 }

-- nothing is written before or after
pub record IsColorless (mark : ANSIStr) : Type 0 where
  pub prefix : mark.prefix.now ≡ []
  pub suffix : mark.suffix.now ≡ []

-- no side has a colour
pub record AreColorless (sides : Sides ANSIStr) : Type 0 where
  pub left : IsColorless sides.left
  pub right : IsColorless sides.right
  pub top : IsColorless sides.top
  pub bottom : IsColorless sides.bottom

-- no borders, padding, margin or colours; text at the left
pub record IsPlainCompact (config : CompactConfig) : Type 0 where
  pub margin : config.margin ≡ each_side no_indent
  pub padding : config.padding ≡ each_side no_indent
  pub borders : config.borders ≡ no_borders
  pub borders_color : config.borders_color ≡ no_borders
  pub margin_color : AreColorless config.margin_color
  pub padding_color : AreColorless config.padding_color
  pub alignment_horizontal : config.alignment_horizontal ≡ Left

-- a compact configuration, with text at the top and no flag set
abbrev pub with_no_flag : CompactConfig → CompactMultilineConfig
with_no_flag config =
    record {
      config = config;
      alignment_vertical = Top;
      formatting = record { horizontal_trim = false; vertical_trim = false; allow_lines_alignment = false };
    }

-- a new compact configuration, with text at the top and no flag set
pub record IsPlainMultiline (multiline : CompactMultilineConfig) : Type 0 where
  pub config : IsPlainCompact multiline.config
  pub rest : multiline ≡ with_no_flag multiline.config
