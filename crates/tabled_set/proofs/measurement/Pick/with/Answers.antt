use Rattle.tabled_set.proofs.Names.{subst, sym, ◌∙◌}
use Rattle.tabled_set.proofs.Picking.{Picks, greatest_next, least_next}
use Rattle.tabled_set.proofs.measurement.Pick.with.Goals as goal

pub returns-in-Greatest : goal.returns-in-Greatest
returns-in-Greatest c =
    subst (λ pick. Picks pick c.args.n c.args.best c.args.next c.max.result) (sym c.in-Greatest.is)
    (λ f b q. c.max.ensures ∙ greatest_next f c.args.n c.args.best c.args.next b q)

pub returns-else-n-eq0 : goal.returns-else-n-eq0
returns-else-n-eq0 c =
    subst (λ pick. Picks pick c.args.n c.args.best c.args.next c.min.result) (sym c.in-Least.is)
    (λ f b q. c.min.ensures ∙ least_next f c.args.n c.args.best c.args.next c.if-n-eq0.false b q)
