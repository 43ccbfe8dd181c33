use Rattle.std.proofs.Common.{arith, Some, subst, sym}
use Rattle.json.specs.Tree.{HasNumbers}
use Rattle.json.specs.Value.{value_view}
use Rattle.tabview_read.proofs.AddedCells.{AddsCells-none, AddsCells-next, AddsCells-all}
use Rattle.tabview_read.proofs.Parts.{item-HasNumbers}
use Rattle.tabview_read.proofs.json_cells.push_items.Goals as goal

pub push_value-requires : goal.push_value-requires
push_value-requires c =
    let x = c.item-item.result in
    subst (λ y. HasNumbers (value_view y)) (sym c.item-item.is) (item-HasNumbers c.args.items.now c.loop-item.item-index x c.requires c.loop-item-test.true)

pub loop-item-init : goal.loop-item-init
loop-item-init c = AddsCells-none _

pub loop-item-preserved : goal.loop-item-preserved
loop-item-preserved c =
    let x = c.item-item.result in
    AddsCells-next (λ v. Some (value_view v)) c.args.items.now c.loop-item.item-index x x _ _ _ c.loop-item-test.true c.item-item.is c.loop-item.invariant c.in_ok-push_value.ensures

pub returns : goal.returns
returns c = AddsCells-all (λ v. Some (value_view v)) c.args.items.now c.loop-item.item-index _ _ (omega arith) c.loop-item.invariant
