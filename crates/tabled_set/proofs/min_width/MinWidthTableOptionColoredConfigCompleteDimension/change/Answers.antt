use Rattle.tabled_set.proofs.Names.{IfErr-weaker, on_ok_weaker, refl}
use Rattle.tabled_set.proofs.PromisedSizes.{widens}
use Rattle.tabled_set.proofs.min_width.MinWidthTableOptionColoredConfigCompleteDimension.change.Goals as goal

pub returns-clause-promised : goal.returns-clause-promised
returns-clause-promised g c =
    on_ok_weaker c.increase_width.result (λ h left cleared. widens _ _ _ _ _ _ _ left h cleared)
    (rw c.as_ref.ensures at c.increase_width.ensures.ok)

pub returns-clause-err : goal.returns-clause-err
returns-clause-err g c =
    IfErr-weaker c.increase_width.result _ _ (λ e h. (h.0, h.1, (refl, refl))) (rw c.as_ref.ensures at c.increase_width.ensures.err)
