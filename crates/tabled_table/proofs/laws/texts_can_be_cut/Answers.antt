use Rattle.tabled_table.proofs.Stream.WholeTexts.{cut_exists, cut_row_exists}
use Rattle.tabled_table.proofs.laws.texts_can_be_cut.Goals as goal

pub returns : goal.returns
returns g = record { text = cut_exists; row = cut_row_exists }
