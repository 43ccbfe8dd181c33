use Rattle.tabled_set.proofs.Names.{IfErr-weaker, refl}
use Rattle.tabled_set.proofs.ChangingCells.{stops-before}
use Rattle.tabled_set.proofs.resize.ResizeCellOptionColoredConfig.change.Goals as goal

pub returns-clause-err : goal.returns-clause-err
returns-clause-err g c =
    let stopped = stops-before _ _ _ _ _ _ c.change_cells.result c.change_cells.ensures.err c.change_cells.ensures.only in
    IfErr-weaker c.change_cells.result _ _ (λ e h. (h, refl)) (rw (c.filter.ensures, c.in_ok-n.ensures.ok, c.as_ref.ensures) at stopped)
