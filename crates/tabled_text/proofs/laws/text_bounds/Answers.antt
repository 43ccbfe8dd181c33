use Rattle.tabled_text.proofs.PlainLines.{count_lines-le, text_columns-le_bytes}
use Rattle.tabled_text.proofs.laws.text_bounds.Goals as goal

pub returns : goal.returns
returns g = record { lines = count_lines-le; columns = text_columns-le_bytes }
