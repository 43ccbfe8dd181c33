use Rattle.tabled_line.proofs.ApartLines.{row_line_takes}
use Rattle.tabled_line.proofs.laws.rows_of_any_text.Goals as goal

pub returns : goal.returns
returns g = row_line_takes
