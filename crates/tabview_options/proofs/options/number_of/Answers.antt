use Rattle.tabview_options.proofs.Numbers.{writes}
use Rattle.tabview_options.proofs.options.number_of.Goals as goal

pub returns : goal.returns
returns c = record {
  missing = c.get_one.ensures.none;
  there = λ text e. writes text c.get_one.result (c.get_one.ensures.value text e);
}
