use Rattle.tabled_text.proofs.PlainLines.{plain_line-append, plain_line-each, plain_line-one}
use Rattle.tabled_text.proofs.laws.additive_lines.Goals as goal

pub returns : goal.returns
returns g = record { one = plain_line-one; joined = λ front back m n p q. plain_line-append p q; each = plain_line-each }
