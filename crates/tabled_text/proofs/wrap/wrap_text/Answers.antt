use Rattle.tabled_text.proofs.Names.{string_bytes}
use Rattle.tabled_text.proofs.FewestLines.{fewest-wrapped}
use Rattle.tabled_text.proofs.OwnBreaking.{least_breaking}
use Rattle.tabled_text.proofs.wrap.wrap_text.Goals as goal

pub returns-clause-fewest : goal.returns-clause-fewest
returns-clause-fewest c =
    fewest-wrapped c.args.n c.args.words c.args.text.now (string_bytes c.wrap_into.new.out) c.in_ok-wrap_into.ensures.wrapped

pub returns-clause-least : goal.returns-clause-least
returns-clause-least c = λ pos fits.
    least_breaking c.args.n c.args.words c.args.text.now (string_bytes c.wrap_into.new.out) pos fits c.in_ok-wrap_into.ensures.wrapped
