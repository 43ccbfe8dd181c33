use Rattle.tabled_text.proofs.Names.{chars}
use Rattle.tabled_text.proofs.ExactLines.{width-count}
use Rattle.tabled_text.proofs.PlainLemmas.{line_columns-plain}
use Rattle.tabled_text.proofs.WrapRoom.{plain_replacement}
use Rattle.tabled_text.proofs.laws.additive_columns.Goals as goal

pub returns : goal.returns
returns g = record {
  sum = λ line h. line_columns-plain (chars line) h;
  count = λ line h. width-count (chars line) h;
  replacement = record { character = plain_replacement.0; columns = plain_replacement.1 };
}
