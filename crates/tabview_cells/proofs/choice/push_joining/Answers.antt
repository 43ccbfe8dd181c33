use Rattle.std.proofs.Common.{◌+◌, [], ◌∙◌, ap, map, refl, sym, take}
use Rattle.std.specs.Int.{is_in_range}
use Rattle.std.specs.List.{list_all}
use Rattle.std.specs.Prelude.{unwrap_or}
use Rattle.csv.specs.Records.{fields_of}
use Rattle.tabled_records.proofs.CutLent.{printable-columns, printable-lines}
use Rattle.tabled_records.specs.Joined.{Written, with_text}
use Rattle.tabview_cells.specs.Choice.{cell_of, shown_cell, shown_text}
use Rattle.tabview_cells.specs.Kinds.{joined_at}
use Rattle.tabview_cells.specs.declared.choice.Shown.TheVariants.{Raw}
use Rattle.tabview_cells.proofs.Choosing.{begun-more, begun-none, cell-text, chosen-more}
use Rattle.tabview_cells.proofs.JoinedKinds.{joined-more, joined-none}
use Rattle.tabview_cells.proofs.Printed.{all-field, shown-printable}
use Rattle.tabview_cells.proofs.choice.push_joining.Goals as goal

pub loop-index-init : goal.loop-index-init
loop-index-init c = record { texts = λ shown. sym (begun-none c.args.out.now); kinds = joined-none c.args.kinds.now }

pub join_kind-requires : goal.join_kind-requires
join_kind-requires c = λ graphic.
    let row = c.args.row.now in
    let own = cell-text c.get.result _ c.unwrap_or-cell.result refl c.unwrap_or-cell.ensures ∙ ap (λ o. unwrap_or o []) c.get.ensures.value in
    ap (list_all (is_in_range 0x21 0x7E)) own ∙ all-field (is_in_range 0x21 0x7E) 0 row.ends row.bytes _ (c.requires.graphic graphic)

pub push-requires-clause-columns : goal.push-requires-clause-columns
push-requires-clause-columns c =
    let row = c.args.row.now in
    let own = cell-text c.get.result _ c.unwrap_or-cell.result refl c.unwrap_or-cell.ensures ∙ ap (λ o. unwrap_or o []) c.get.ensures.value in
    sym (printable-columns c.unwrap_or-cell.result.now (ap (list_all (is_in_range 0x20 0x7E)) own ∙ all-field (is_in_range 0x20 0x7E) 0 row.ends row.bytes _ c.requires.printable))

pub push-requires-clause-lines : goal.push-requires-clause-lines
push-requires-clause-lines c =
    let row = c.args.row.now in
    let own = cell-text c.get.result _ c.unwrap_or-cell.result refl c.unwrap_or-cell.ensures ∙ ap (λ o. unwrap_or o []) c.get.ensures.value in
    sym (printable-lines c.unwrap_or-cell.result.now (ap (list_all (is_in_range 0x20 0x7E)) own ∙ all-field (is_in_range 0x20 0x7E) 0 row.ends row.bytes _ c.requires.printable))

pub returns-in_err-push-clause-ended : goal.returns-in_err-push-clause-ended
returns-in_err-push-clause-ended c = ap (λ (w : Written). w.rows) (c.in_err-push.ensures.err ∙ c.loop-index.invariant.texts Raw)

pub loop-index-preserved : goal.loop-index-preserved
loop-index-preserved c =
    let row = c.args.row.now in
    let cell = c.unwrap_or-cell.result.now in
    let own = cell-text c.get.result _ c.unwrap_or-cell.result refl c.unwrap_or-cell.ensures ∙ ap (λ o. unwrap_or o []) c.get.ensures.value in
    let printable = ap (list_all (is_in_range 0x20 0x7E)) own ∙ all-field (is_in_range 0x20 0x7E) 0 row.ends row.bytes _ c.requires.printable in
    let columns = c.args.columns.now in
    let i = c.loop-index.index in
    record {
      texts = λ shown.
          let f = shown_cell shown (fields_of row) in
          c.in_ok-push.ensures.ok
          ∙ ap (λ (w : Written). with_text w cell) (c.loop-index.invariant.texts shown)
          ∙ begun-more c.args.out.now (map f (take i columns)) (map f (take (i + 1) columns)) cell
          (chosen-more f columns i cell c.loop-index-test.true (shown-printable shown cell printable ∙ ap (shown_text shown) own));
      kinds = c.join_kind.ensures ∙ ap (λ kinds. joined_at kinds i cell) c.loop-index.invariant.kinds
          ∙ joined-more (cell_of (fields_of row)) columns i c.args.kinds.now cell c.loop-index-test.true own;
    }

pub returns-clause-ended : goal.returns-clause-ended
returns-clause-ended c = ap (λ (w : Written). w.rows) (c.loop-index.invariant.texts Raw)
