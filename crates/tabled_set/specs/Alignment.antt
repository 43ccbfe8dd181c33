-- What an alignment changes in the settings of a table.
use Rattle.tabled_base.specs.declared.position.Entity.{Entity}
use Rattle.tabled_config.specs.declared.compact.CompactConfig.{CompactConfig}
use Rattle.tabled_config.specs.declared.compact.CompactMultilineConfig.{CompactMultilineConfig}
use Rattle.tabled_config.specs.declared.spanned.SpannedConfig.{SpannedConfig}
use Rattle.tabled_entity.specs.Changes.{with_change}
use Rattle.tabled_set.specs.declared.alignment.Alignment.{Alignment}
use Rattle.tabled_set.specs.declared.alignment.Alignment.TheVariants.{Horizontal, Vertical}

-- an alignment is set for an entity
abbrev pub aligned : Alignment → Entity → SpannedConfig → SpannedConfig
aligned (Horizontal alignment) entity config =
    record config { alignment_horizontal = with_change config.alignment_horizontal entity alignment }
aligned (Vertical alignment) entity config =
    record config { alignment_vertical = with_change config.alignment_vertical entity alignment }

-- or for all cells of one line, which have no vertical one
abbrev pub aligned_compact : Alignment → CompactConfig → CompactConfig
aligned_compact (Horizontal alignment) config = record config { alignment_horizontal = alignment }
aligned_compact (Vertical alignment) config = config

-- or for all cells of several lines
abbrev pub aligned_multiline : Alignment → CompactMultilineConfig → CompactMultilineConfig
aligned_multiline (Horizontal alignment) config =
    record config { config = record config.config { alignment_horizontal = alignment } }
aligned_multiline (Vertical alignment) config = record config { alignment_vertical = alignment }
