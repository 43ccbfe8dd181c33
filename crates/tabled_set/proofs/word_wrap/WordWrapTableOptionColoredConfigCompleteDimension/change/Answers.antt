use Rattle.tabled_set.proofs.Names.{IfErr-weaker, on_ok_weaker, refl}
use Rattle.tabled_set.proofs.ExactTotals.{word_wraps}
use Rattle.tabled_set.proofs.word_wrap.WordWrapTableOptionColoredConfigCompleteDimension.change.Goals as goal

pub returns-clause-promised : goal.returns-clause-promised
returns-clause-promised g c =
    on_ok_weaker c.narrow_table.result
    (λ h left. word_wraps _ _ _ _ _ _ _ _ left c.narrow_table.ensures.rectangular h)
    (rw c.as_ref.ensures at c.narrow_table.ensures.ok)

pub returns-clause-err : goal.returns-clause-err
returns-clause-err g c =
    IfErr-weaker c.narrow_table.result _ _ (λ e h. (h.0, h.1, refl)) (rw c.as_ref.ensures at c.narrow_table.ensures.err)
