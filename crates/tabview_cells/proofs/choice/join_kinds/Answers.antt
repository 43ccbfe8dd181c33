use Rattle.std.proofs.Common.{[], ◌∙◌, ap, refl, sym}
use Rattle.std.specs.Int.{is_in_range}
use Rattle.std.specs.List.{list_all}
use Rattle.std.specs.Prelude.{unwrap_or}
use Rattle.csv.specs.Records.{fields_of}
use Rattle.tabview_cells.specs.Choice.{counting, counting_cell}
use Rattle.tabview_cells.specs.Kinds.{joined_at}
use Rattle.tabview_cells.specs.Graphic.{is_graphic}
use Rattle.tabview_cells.proofs.Choosing.{cell-text}
use Rattle.tabview_cells.proofs.JoinedKinds.{counting-all, joined-more, joined-none}
use Rattle.tabview_cells.proofs.Printed.{all-field}
use Rattle.tabview_cells.proofs.choice.join_kinds.Goals as goal

pub loop-index-init : goal.loop-index-init
loop-index-init c = joined-none c.args.kinds.now

pub join_kind-requires : goal.join_kind-requires
join_kind-requires c = λ graphic.
    let row = c.args.row.now in
    let own = cell-text c.get.result _ c.unwrap_or-cell.result refl c.unwrap_or-cell.ensures ∙ ap (λ o. unwrap_or o []) c.get.ensures.value in
    ap is_graphic c.counting.ensures
    ∙ counting-all (is_in_range 0x21 0x7E) c.args.blank.now c.unwrap_or-cell.result.now
    (ap (list_all (is_in_range 0x21 0x7E)) own
    ∙ all-field (is_in_range 0x21 0x7E) 0 row.ends row.bytes _ (sym c.is_graphic_row-graphic.ensures ∙ graphic))

pub loop-index-preserved : goal.loop-index-preserved
loop-index-preserved c =
    let row = c.args.row.now in
    let columns = c.args.columns.now in
    let i = c.loop-index.index in
    let own = cell-text c.get.result _ c.unwrap_or-cell.result refl c.unwrap_or-cell.ensures ∙ ap (λ o. unwrap_or o []) c.get.ensures.value in
    c.join_kind.ensures
    ∙ ap (λ kinds. joined_at kinds i c.counting.result.now) c.loop-index.invariant
    ∙ joined-more (counting_cell c.args.blank.now (fields_of row)) columns i c.args.kinds.now c.counting.result.now c.loop-index-test.true
    (c.counting.ensures ∙ ap (counting c.args.blank.now) own)
