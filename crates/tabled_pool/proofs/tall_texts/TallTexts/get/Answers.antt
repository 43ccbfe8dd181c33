use Rattle.tabled_pool.proofs.Names.{rules, subst, sym}
use Rattle.tabled_pool.specs.TallTexts.{IsTall}
use Rattle.tabled_pool.proofs.tall_texts.TallTexts.get.Goals as goal

pub returns : goal.returns
returns c = λ t y all.
    let found = rw c.deref-2.ensures.value at c.in_ok-text.ensures.lookup in
    (search rules, subst (IsTall t y) (sym found.1) (all _ c.in_ok-text.text.now found.3.0))
