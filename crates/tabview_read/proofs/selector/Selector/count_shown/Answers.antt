use Rattle.std.proofs.Common.{◌∙◌, refl}
use Rattle.tabview_read.proofs.Lines.{shown-first, shown-last, tail-is}
use Rattle.tabview_read.proofs.selector.Selector.count_shown.Goals as goal

pub returns-in-Some : goal.returns-in-Some
returns-in-Some c = λ w names rows has.
    let self = c.args.self.now in
    c.len.ensures ∙ shown-last w names rows self _ has (tail-is w names rows self self.collector _ has refl c.in-Some.is)

pub returns-in-None : goal.returns-in-None
returns-in-None c = λ w names rows has.
    let self = c.args.self.now in
    shown-first w names rows self _ has (tail-is w names rows self self.collector _ has refl c.in-None.is) c.count_first.ensures
