use Rattle.std.proofs.Common.{List, ap, decimal, sym, ℕ, ◌∙◌}
use Rattle.csv.specs.Records.{fields_of}
use Rattle.tabled_records.specs.Joined.{with_row_ended}
use Rattle.tabview_cells.specs.Choice.{with_texts}
use Rattle.tabview_read.proofs.ShownCells.{shown_all, texts-same}
use Rattle.tabview_read.specs.Shown.{number_of, shown_cells, texts_of}
use Rattle.tabview_read.proofs.sheet.Collector.write_apart.Goals as goal

pub returns-then-has_no_null-clause-texts : goal.returns-then-has_no_null-clause-texts
returns-then-has_no_null-clause-texts c =
    let self = c.args.self.now in
    let w = self.wanted.now in
    let row = c.args.row.now in
    let name = c.deref.result.now in
    let whole = shown_all w.null.now row (sym c.has_no_null.ensures ∙ c.if-has_no_null.true) in
    let number = ap (number_of w.numbers) c.deref.ensures ∙ c.in_ok-text.ensures in
    c.in_ok-write.ensures.texts
    ∙ ap (λ (columns : List ℕ). with_row_ended (with_texts self.writer (texts_of w.numbers name w.shown (fields_of row.cells) columns))) c.join_kinds.ensures.columns
    ∙ ap (λ (texts : List (List ℕ)). with_row_ended (with_texts self.writer texts))
    (texts-same w.numbers w.shown name (decimal c.args.number) (fields_of row.cells) (shown_cells w.null.now row) self.chosen.columns.items number (sym whole))
