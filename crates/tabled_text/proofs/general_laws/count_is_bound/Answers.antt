use Rattle.tabled_text.proofs.CountBound.{columns-count}
use Rattle.tabled_text.proofs.general_laws.count_is_bound.Goals as goal

pub returns : goal.returns
returns g = columns-count
