use Rattle.tabled_text.proofs.LineLaws.{additive_column-splits, columns-between, columns-meet, columns-separator}
use Rattle.tabled_text.proofs.general_laws.separators.Goals as goal

pub returns : goal.returns
returns g = record { additive = additive_column-splits; first = columns-separator; between = columns-between; meet = columns-meet }
