use Rattle.std.proofs.Common.{ap, arith, length, map, rules, subst, sym, ◌∙◌, ◌≡◌}
use Rattle.std.specs.List.{All}
use Rattle.std.specs.Str.{IsUtf8}
use Rattle.std.proofs.lemmas.Grind.{common_steps}
use Rattle.std.proofs.lemmas.List.{length-map}
use Rattle.std.proofs.lemmas.Str.{IsCharBoundary-start}
use Rattle.tabled_c.specs.Asked.{IsCounted}
use Rattle.tabled_c.specs.Cells.{in_rows, texts_at}
use Rattle.tabled_c.specs.Printed.{AreCells, IsCellsCause, unpacked_cells}
use Rattle.tabled_c.proofs.CellEnds.{now, texts_count, texts_utf8}
use Rattle.tabled_c.proofs.Given.{cells_failed, cells_given, no_texts, unread_cells}
use Rattle.tabled_c.proofs.Returning.{passed_on}
use Rattle.tabled_c.proofs.formatting.cells_table.Goals as goal

pub returns-in_err-format-clause-err : goal.returns-in_err-format-clause-err
returns-in_err-format-clause-err c =
    passed_on (IsCellsCause c.args.cells.now c.args.layout.now) _ _ c.from_residual.ensures.1
    (unread_cells c.args.cells.now c.args.layout.now _ c.in_err-format.ensures.err)

pub returns-in_err-texts-clause-err : goal.returns-in_err-texts-clause-err
returns-in_err-texts-clause-err c =
    let packed = c.args.cells.now in
    let layout = c.args.layout.now in
    passed_on (IsCellsCause packed layout) _ _ c.from_residual-in_err-texts.ensures.1
    (no_texts (unpacked_cells packed layout) layout c.in_ok-format.format c.in_ok-format.ensures.ok packed _ c.in_err-texts.ensures.err)

pub texts_table-requires-clause-texts : goal.texts_table-requires-clause-texts
texts_table-requires-clause-texts c =
    let packed = c.args.cells.now in
    let layout = c.args.layout.now in
    let read = c.in_ok-texts.ensures in
    let same : map now c.deref.result.now ≡ texts_at layout.null.now packed.text.now 0 packed.ends.now = ap (map now) c.deref.ensures.value ∙ read.ok in
    subst (All IsUtf8) (sym same)
    (texts_utf8 layout.null.now 0 packed.text.now packed.ends.now read.null read.utf8 (IsCharBoundary-start packed.text.now read.utf8) read.ends)

pub texts_table-requires-clause-count : goal.texts_table-requires-clause-count
texts_table-requires-clause-count c =
    let packed = c.args.cells.now in
    let layout = c.args.layout.now in
    let given = c.deref.result.now in
    let same : map now given ≡ texts_at layout.null.now packed.text.now 0 packed.ends.now = ap (map now) c.deref.ensures.value ∙ c.in_ok-texts.ensures.ok in
    let counts : IsCounted packed.rows packed.columns (length packed.ends.now) (length layout.alignments.now) = first_of (search rules, grind (arith, common_steps)) in
    sym (length-map given now) ∙ ap length same ∙ texts_count layout.null.now 0 packed.text.now packed.ends.now ∙ counts.product

pub returns-clause-ok : goal.returns-clause-ok
returns-clause-ok c =
    let packed = c.args.cells.now in
    let layout = c.args.layout.now in
    let given = c.deref.result.now in
    let read = c.in_ok-texts.ensures in
    let same : map now given ≡ texts_at layout.null.now packed.text.now 0 packed.ends.now = ap (map now) c.deref.ensures.value ∙ read.ok in
    let counts : IsCounted packed.rows packed.columns (length packed.ends.now) (length layout.alignments.now) = first_of (search rules, grind (arith, common_steps)) in
    let are : AreCells packed layout = record { utf8 = read.utf8; null = read.null; in_order = read.ends; counts = counts } in
    cells_given (in_rows packed.rows packed.columns (map now given)) layout c.in_ok-format.format c.in_ok-format.ensures.ok packed
    (ap (in_rows packed.rows packed.columns) same) are c.texts_table.result c.texts_table.ensures.ok

pub returns-clause-err : goal.returns-clause-err
returns-clause-err c =
    let packed = c.args.cells.now in
    let layout = c.args.layout.now in
    let given = c.deref.result.now in
    let same : map now given ≡ texts_at layout.null.now packed.text.now 0 packed.ends.now = ap (map now) c.deref.ensures.value ∙ c.in_ok-texts.ensures.ok in
    cells_failed (in_rows packed.rows packed.columns (map now given)) layout c.in_ok-format.format c.in_ok-format.ensures.ok packed
    (ap (in_rows packed.rows packed.columns) same) c.texts_table.result c.texts_table.ensures.err
