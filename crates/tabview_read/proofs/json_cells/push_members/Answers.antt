use Rattle.std.proofs.Common.{[], arith, subst}
use Rattle.csv.specs.Records.{fields_of}
use Rattle.json.specs.Find.{get}
use Rattle.json.specs.Value.{value_view}
use Rattle.tabview_read.specs.Cells.{AddsCell}
use Rattle.tabview_read.proofs.AddedCells.{AddsCells-none, AddsCells-next, AddsCells-all}
use Rattle.tabview_read.proofs.Parts.{get-HasNumbers}
use Rattle.tabview_read.proofs.json_cells.push_members.Goals as goal

pub push_member-requires : goal.push_member-requires
push_member-requires c = get-HasNumbers c.get.result _ _ c.requires c.get.ensures

pub loop-column-init : goal.loop-column-init
loop-column-init c = AddsCells-none _

pub loop-column-preserved : goal.loop-column-preserved
loop-column-preserved c =
    AddsCells-next (λ name. get name (value_view c.args.object.now)) (fields_of c.args.names.now) c.loop-column.column [] c.name_at-name.result.now _ _ _ (omega arith) c.name_at-name.ensures c.loop-column.invariant
    (subst (λ o. AddsCell o c.loop-column.row c.push_member.new.row) c.get.ensures c.in_ok-push_member.ensures)

pub returns : goal.returns
returns c = AddsCells-all (λ name. get name (value_view c.args.object.now)) (fields_of c.args.names.now) c.loop-column.column _ _ (omega arith) c.loop-column.invariant
