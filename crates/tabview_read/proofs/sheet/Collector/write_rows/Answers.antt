use Rattle.std.proofs.Common.{[], ◌∷◌, ◌++◌, ℕ, refl}
use Rattle.tabview_read.proofs.Lines.{HasLines-begun, HasLines-done, HasLines-next, HasLines-row, popped-last, popped-one}
use Rattle.tabview_read.specs.declared.row.Row.{Row}
use Rattle.tabview_read.proofs.sheet.Collector.write_rows.Goals as goal

pub loop-number-init : goal.loop-number-init
loop-number-init c = ([], refl, λ w lines has. HasLines-begun w lines _ has)

pub loop-number-preserved : goal.loop-number-preserved
loop-number-preserved c =
    let i = c.loop-number.invariant in
    let row : ℕ × Row = (c.in-Some.number, c.in-Some.row) in (
      i.0 ++ row ∷ [],
      popped-one _ i.0 _ _ row c.pop_front.result (cc) i.1 c.pop_front.ensures.items,
      λ w lines has. HasLines-next w lines i.0 row _ (HasLines-row w _ row _ _ (i.2 w lines has) c.write_row.ensures.wanted c.write_row.ensures.columns c.in_ok-write_row.ensures.texts),
    )

pub returns : goal.returns
returns c =
    let i = c.loop-number.invariant in
    λ w lines has. HasLines-done w lines i.0 _ _ (popped-last _ i.0 _ _ c.pop_front.result (cc) i.1 c.pop_front.ensures.items c.pop_front.ensures.rest) (i.2 w lines has)
