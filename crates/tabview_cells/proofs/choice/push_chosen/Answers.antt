use Rattle.std.proofs.Common.{◌+◌, [], ◌∙◌, ap, map, refl, sym, take}
use Rattle.std.specs.Int.{is_in_range}
use Rattle.std.specs.Prelude.{unwrap_or}
use Rattle.csv.specs.Records.{fields_of, text_of}
use Rattle.tabled_records.specs.Joined.{Written, with_text}
use Rattle.tabview_cells.specs.Choice.{shown_cell, shown_text}
use Rattle.tabled_base.specs.Printable.{is_printable}
use Rattle.tabview_cells.proofs.Choosing.{begun-more, cell-text, chosen-more}
use Rattle.tabview_cells.proofs.Printed.{all-field}
use Rattle.tabview_cells.proofs.choice.push_chosen.Goals as goal

pub push_shown-requires : goal.push_shown-requires
push_shown-requires c = λ printable.
    let row = c.args.row.now in
    let own = cell-text c.get.result _ c.unwrap_or-cell.result refl c.unwrap_or-cell.ensures ∙ ap (λ o. unwrap_or o []) c.get.ensures.value in
    let bytes = ap is_printable (sym (c.as_slice.ensures ∙ ap text_of c.as_byte_record.ensures)) ∙ sym c.is_printable-printable.ensures ∙ printable in
    ap is_printable own ∙ all-field (is_in_range 0x20 0x7E) 0 row.ends row.bytes _ bytes

pub loop-column-preserved : goal.loop-column-preserved
loop-column-preserved c =
    let cell = c.unwrap_or-cell.result.now in
    let own = cell-text c.get.result _ c.unwrap_or-cell.result refl c.unwrap_or-cell.ensures ∙ ap (λ o. unwrap_or o []) c.get.ensures.value in
    let f = shown_cell c.args.shown (fields_of c.args.row.now) in
    let shown = shown_text c.args.shown cell in
    let columns = c.args.columns.now in
    let i = c.loop-column.column-index in
    c.in_ok-push_shown.ensures.ok
    ∙ ap (λ (w : Written). with_text w shown) c.loop-column.invariant
    ∙ begun-more c.args.out.now (map f (take i columns)) (map f (take (i + 1) columns)) shown
    (chosen-more f columns i shown c.loop-column-test.true (ap (shown_text c.args.shown) own))
