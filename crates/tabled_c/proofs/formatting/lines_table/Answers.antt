use Rattle.std.proofs.Common.{ap, length, subst, sym, ◌∙◌, string_bytes}
use Rattle.std.specs.Prelude.{IfErr, IfOk}
use Rattle.tabled_base.specs.Cells.{IsRectangular}
use Rattle.tabled_records.specs.TextRows.{text_rows}
use Rattle.tabled_size.specs.Sheet.{Sheet}
use Rattle.tabled_size.specs.TextCells.{AreTexts}
use Rattle.tabled.proofs.Outputs.{text_rectangular, texts_of_text}
use Rattle.tabled_c.specs.Sends.{HasPrinted, IsPrintCause}
use Rattle.tabled_c.proofs.Given.{same_format}
use Rattle.tabled_c.proofs.formatting.lines_table.Goals as goal

pub rows_text-requires-clause-texts : goal.rows_text-requires-clause-texts
rows_text-requires-clause-texts c = subst AreTexts (sym c.in-Ok.ensures.ok) (texts_of_text c.args.text.now c.utf8.text)

pub rows_text-requires-clause-rectangular : goal.rows_text-requires-clause-rectangular
rows_text-requires-clause-rectangular c = subst IsRectangular (sym c.in-Ok.ensures.ok) (text_rectangular c.args.text.now)

pub returns-clause-ok : goal.returns-clause-ok
returns-clause-ok c =
    let rows = c.in-Ok.rows in
    let cells = text_rows c.args.text.now in
    let same = same_format rows cells c.as_ref.result.now c.drawn-style.result c.count_rows.result c.args.alignments.now c.args.format c.in-Ok.ensures.ok
    (c.as_ref.ensures ∙ c.in-Ok-settings_of.ensures.ok) c.drawn-style.ensures (c.count_rows.ensures ∙ ap length c.in-Ok.ensures.ok) in
    subst (λ (t : Sheet). IfOk c.rows_text.result (λ table. HasPrinted c.args.format.plan t (string_bytes table))) same c.rows_text.ensures.ok

pub returns-clause-err : goal.returns-clause-err
returns-clause-err c =
    let rows = c.in-Ok.rows in
    let cells = text_rows c.args.text.now in
    let same = same_format rows cells c.as_ref.result.now c.drawn-style.result c.count_rows.result c.args.alignments.now c.args.format c.in-Ok.ensures.ok
    (c.as_ref.ensures ∙ c.in-Ok-settings_of.ensures.ok) c.drawn-style.ensures (c.count_rows.ensures ∙ ap length c.in-Ok.ensures.ok) in
    subst (λ (t : Sheet). IfErr c.rows_text.result (IsPrintCause c.args.format.plan t)) same c.rows_text.ensures.err
