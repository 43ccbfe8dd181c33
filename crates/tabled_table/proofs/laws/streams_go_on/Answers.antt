use Rattle.tabled_table.proofs.Stream.WholeTexts.{goes_on}
use Rattle.tabled_table.proofs.laws.streams_go_on.Goals as goal

pub returns : goal.returns
returns g = λ settings config ahead_rows shown rest t s u w some. goes_on shown rest t s u w some
