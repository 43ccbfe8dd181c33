use Rattle.tabled_text.proofs.Names.{sym, ◌∙◌}
use Rattle.tabled_text.proofs.PlainLemmas.{is_additive-listed}
use Rattle.tabled_text.proofs.character.is_additive_char.Goals as goal

pub returns-then-is_listed_or_drawn : goal.returns-then-is_listed_or_drawn
returns-then-is_listed_or_drawn c =
    c.has_plain_width.ensures ∙ is_additive-listed c.args.c (sym c.is_listed_or_drawn.ensures ∙ c.if-is_listed_or_drawn.true)
