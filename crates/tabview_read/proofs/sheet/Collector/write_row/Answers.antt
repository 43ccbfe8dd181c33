use Rattle.std.proofs.Common.{List, ap, decimal, length, refl, sym, ◌==◌, ◌&&◌, ℕ, ◌∙◌}
use Rattle.std.proofs.lemmas.Bool.{and_parts}
use Rattle.csv.specs.Records.{fields_of, text_of}
use Rattle.tabled_records.specs.Joined.{with_row_ended}
use Rattle.tabview_cells.specs.Choice.{with_texts}
use Rattle.tabled_base.specs.Printable.{is_printable}
use Rattle.tabview_read.proofs.ShownCells.{shown_all, texts-same}
use Rattle.tabview_read.specs.Shown.{shown_cells}
use Rattle.tabview_read.proofs.sheet.Collector.write_row.Goals as goal

pub write_joining-requires : goal.write_joining-requires
write_joining-requires c =
    let row = c.args.row.now in
    let blank = length c.args.self.now.wanted.now.blank.now == 0 in
    let parts = and_parts (length row.nulls.items == 0) (blank && is_printable (text_of row.cells)) (sym c.is_joinable.ensures ∙ c.if-is_joinable.true) in
    (and_parts blank (is_printable (text_of row.cells)) parts.1).1

pub returns-then-is_joinable-clause-texts : goal.returns-then-is_joinable-clause-texts
returns-then-is_joinable-clause-texts c =
    let self = c.args.self.now in
    let w = self.wanted.now in
    let row = c.args.row.now in
    let blank = length w.blank.now == 0 in
    let parts = and_parts (length row.nulls.items == 0) (blank && is_printable (text_of row.cells)) (sym c.is_joinable.ensures ∙ c.if-is_joinable.true) in
    let whole = shown_all w.null.now row parts.0 in
    let name = decimal c.args.number in
    c.in_ok-write_joining.ensures.texts
    ∙ ap (λ (texts : List (List ℕ)). with_row_ended (with_texts self.writer texts))
    (texts-same w.numbers w.shown name name (fields_of row.cells) (shown_cells w.null.now row) self.chosen.columns.items refl (sym whole))
