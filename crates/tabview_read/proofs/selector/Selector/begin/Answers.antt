use Rattle.std.proofs.Common.{None, Some, ap, option_map}
use Rattle.tabview_read.proofs.Lines.{HasRows-begun}
use Rattle.tabview_read.proofs.selector.Selector.begin.Goals as goal

pub returns-in-None : goal.returns-in-None
returns-in-None c = HasRows-begun _ _ None _ _ (ap (option_map _) c.in-None.is) c.new-collector.ensures c.of.ensures.collector c.of.ensures.last c.of.ensures.count c.of.ensures.has_names

pub returns-in_ok-write_names-in-Some : goal.returns-in_ok-write_names-in-Some
returns-in_ok-write_names-in-Some c = HasRows-begun _ _ _ _ _ (ap (option_map _) c.in-Some.is) (c.in_ok-write_names-in-Some.ensures _ c.new-collector.ensures) c.of-in-Some.ensures.collector c.of-in-Some.ensures.last c.of-in-Some.ensures.count c.of-in-Some.ensures.has_names
