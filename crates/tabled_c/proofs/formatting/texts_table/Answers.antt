use Rattle.std.proofs.Common.{subst, sym, ◌∙◌, ◌≡◌, ◌*◌, length, map, string_bytes}
use Rattle.std.specs.Prelude.{IfErr, IfOk}
use Rattle.std.proofs.lemmas.List.{length-map}
use Rattle.tabled_base.specs.Cells.{IsRectangular}
use Rattle.tabled_size.specs.Sheet.{Sheet}
use Rattle.tabled_size.specs.TextCells.{AreTexts}
use Rattle.tabled_c.specs.Cells.{in_rows}
use Rattle.tabled_c.specs.Sends.{HasPrinted, IsPrintCause}
use Rattle.tabled_c.proofs.CellEnds.{now, rows_count, rows_rectangular, rows_utf8}
use Rattle.tabled_c.proofs.Given.{same_format}
use Rattle.tabled_c.proofs.formatting.texts_table.Goals as goal

pub new-requires : goal.new-requires
new-requires c =
    let cells = c.args.cells.now in
    let texts = map now c.args.texts.now in
    let count : length texts ≡ cells.rows * cells.columns = length-map c.args.texts.now now ∙ c.requires.count in
    subst IsRectangular (sym c.in-Ok.ensures.ok) (rows_rectangular cells.rows cells.columns texts count)

pub records_text-requires-clause-rectangular : goal.records_text-requires-clause-rectangular
records_text-requires-clause-rectangular c =
    let cells = c.args.cells.now in
    let texts = map now c.args.texts.now in
    let count : length texts ≡ cells.rows * cells.columns = length-map c.args.texts.now now ∙ c.requires.count in
    subst IsRectangular (sym (c.new.ensures ∙ c.in-Ok.ensures.ok)) (rows_rectangular cells.rows cells.columns texts count)

pub records_text-requires-clause-texts : goal.records_text-requires-clause-texts
records_text-requires-clause-texts c =
    let cells = c.args.cells.now in
    let texts = map now c.args.texts.now in
    subst AreTexts (sym (c.new.ensures ∙ c.in-Ok.ensures.ok)) (rows_utf8 cells.rows cells.columns texts c.requires.texts)

pub returns-clause-ok : goal.returns-clause-ok
returns-clause-ok c =
    let cells = in_rows c.args.cells.now.rows c.args.cells.now.columns (map now c.args.texts.now) in
    let rows = c.args.cells.now.rows in
    let count : rows ≡ length cells = sym (rows_count rows c.args.cells.now.columns (map now c.args.texts.now)) in
    let same = same_format c.new.result cells c.in-Ok-settings_of.settings.config c.drawn-style.result rows c.args.alignments.now c.args.format
    (c.new.ensures ∙ c.in-Ok.ensures.ok) c.in-Ok-settings_of.ensures.ok c.drawn-style.ensures count in
    subst (λ (t : Sheet). IfOk c.records_text.result (λ table. HasPrinted c.args.format.plan t (string_bytes table))) same c.records_text.ensures.ok

pub returns-clause-err : goal.returns-clause-err
returns-clause-err c =
    let cells = in_rows c.args.cells.now.rows c.args.cells.now.columns (map now c.args.texts.now) in
    let rows = c.args.cells.now.rows in
    let count : rows ≡ length cells = sym (rows_count rows c.args.cells.now.columns (map now c.args.texts.now)) in
    let same = same_format c.new.result cells c.in-Ok-settings_of.settings.config c.drawn-style.result rows c.args.alignments.now c.args.format
    (c.new.ensures ∙ c.in-Ok.ensures.ok) c.in-Ok-settings_of.ensures.ok c.drawn-style.ensures count in
    subst (λ (t : Sheet). IfErr c.records_text.result (IsPrintCause c.args.format.plan t)) same c.records_text.ensures.err
