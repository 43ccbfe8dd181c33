-- The rows that the table was made of are those of the report.
use Rattle.std.proofs.Common.{string_bytes, subst, sym, ◌<◌, ◌∙◌}
use Rattle.tabled_table.specs.NewTable.{IsNew}
use Rattle.tabled_table.specs.TableSheet.{sheet}
use Rattle.example_report.specs.Report.{cells_from}
use Rattle.example_report.proofs.Reports.{reported, same_shape, total_is, wider_new}
use Rattle.example_report.proofs.report.Goals as goal

pub returns : goal.returns
returns g c =
    let before = c.in_ok-table.table in
    let after = c.wrap.new.table in
    let made = c.in_ok-table.ensures.ok in
    let cells = cells_from made.0 in
    let new : IsNew cells before = made.2 in
    let first = total_is (sheet before) c.in_ok-before.before c.in_ok-before.ensures.empty c.in_ok-before.ensures.filled in
    let wider = wider_new cells before new (subst (λ n. 80 < n) first c.if-before-le80.false) in
    let last = total_is (sheet after) c.in_ok-after.after c.in_ok-after.ensures.empty c.in_ok-after.ensures.filled in
    let shape = same_shape c.shape.result.0 c.shape.result.1 c.shape-shape.result.0 c.shape-shape.result.1 c.if-ne.ensures in (
      made.0,
      made.1,
      reported cells before after (string_bytes c.in_ok-to_text.field-0) new (record {
        texts = c.in_ok-wrap.ensures.texts wider (c.tables_of_strings.ensures.owned made.0 before new);
        best = c.in_ok-wrap.ensures.best wider;
        heights = c.in_ok-wrap.ensures.heights;
        rows = sym c.shape.ensures.rows ∙ shape.0 ∙ c.shape-shape.ensures.rows;
        columns = sym c.shape.ensures.columns ∙ shape.1 ∙ c.shape-shape.ensures.columns;
        apart = c.is_apart.ensures.0 c.if-not-is_apart.false;
        total = sym last ∙ c.if-after-ne80.false;
        printed = c.in_ok-to_text.ensures.ok;
        lines = c.in_ok-to_text.ensures.lines;
        shows = c.in_ok-to_text.ensures.cells;
      }) (c.printed_tables.ensures.some after) (c.printed_tables.ensures.apart after),
    )
