use Rattle.tabled_text.proofs.Names.{chars, ◌∙◌}
use Rattle.tabled_text.proofs.PlainLemmas.{line_columns-plain}
use Rattle.tabled_text.proofs.laws.additive_line_width.Goals as goal

pub returns : goal.returns
returns c = c.line_width.ensures.value ∙ line_columns-plain (chars c.args.line.now) c.requires
