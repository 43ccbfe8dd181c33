use Rattle.tabled_text.proofs.Bridge.{count_lines-join, lines_of-feed, lines_of-join, text_columns-feed, text_columns-join}
use Rattle.tabled_text.proofs.laws.joined_lines.Goals as goal

pub returns : goal.returns
returns g = record { lines = lines_of-feed; columns = text_columns-feed; each = lines_of-join; count = count_lines-join; widest = text_columns-join }
