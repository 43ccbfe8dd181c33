use Rattle.tabled_table.proofs.Names.{sheet, subst, sym, total_width, List, ℕ, ◌∙◌}
use Rattle.tabled_table.proofs.Titles.{nothing-titled, prints-titled, stops-titled, title_lines_columns}
use Rattle.tabled_table.specs.Titled.{IsFitted}
use Rattle.tabled_table.proofs.table.Table.write_titled.Goals as goal

pub returns-then-is_empty-clause-printed : goal.returns-then-is_empty-clause-printed
returns-then-is_empty-clause-printed g c =
    nothing-titled c.args.title (sheet c.args.self.now) _ (sym c.is_empty.ensures ∙ c.if-is_empty.true)

pub returns-in_err-write_title-clause-printed : goal.returns-in_err-write_title-clause-printed
returns-in_err-write_title-clause-printed g c =
    let title = c.args.title in
    let all = c.in_ok-all.all in
    stops-titled title (sheet c.args.self.now) c.deref.result.now all.width
    (record {
      filled = sym c.is_empty.ensures ∙ c.if-is_empty.false;
      printable = c.in_ok-all.ensures.printable;
      width = c.in_ok-all.ensures.width;
      is_fitted = subst (λ (fitted : List ℕ). IsFitted title.fit all.width title.text.now fitted) (sym c.deref.ensures.value) c.in_ok-all.ensures.title;
    })
    (g.S.TextSink.sent c.args.sink.now) (g.S.TextSink.sent c.write_title.new.sink) c.from_residual-in_err-write_title.result _
    c.in_err-write_title.ensures c.from_residual-in_err-write_title.ensures.1

pub returns-clause-printed : goal.returns-clause-printed
returns-clause-printed g c =
    let title = c.args.title in
    let all = c.in_ok-all.all in
    prints-titled title (sheet c.args.self.now) c.deref.result.now all.width
    (record {
      filled = sym c.is_empty.ensures ∙ c.if-is_empty.false;
      printable = c.in_ok-all.ensures.printable;
      width = c.in_ok-all.ensures.width;
      is_fitted = subst (λ (fitted : List ℕ). IsFitted title.fit all.width title.text.now fitted) (sym c.deref.ensures.value) c.in_ok-all.ensures.title;
    })
    (g.S.TextSink.sent c.args.sink.now) (g.S.TextSink.sent c.write_title.new.sink) (g.S.TextSink.sent c.write_text.new.self) c.write_text.result
    c.deref-2.result.now (c.deref-2.ensures ∙ c.in_ok-all.ensures.text) c.in_ok-write_title.ensures c.write_text.ensures.written

-- ---- the lines of the title are as wide as the table, whatever was printed

pub returns-then-is_empty-clause-lines : goal.returns-then-is_empty-clause-lines
returns-then-is_empty-clause-lines g c = λ fitted.
    title_lines_columns c.args.title.fit c.args.title.alignment (total_width (sheet c.args.self.now)) c.args.title.text.now fitted

pub returns-in_err-all-clause-lines : goal.returns-in_err-all-clause-lines
returns-in_err-all-clause-lines g c = λ fitted.
    title_lines_columns c.args.title.fit c.args.title.alignment (total_width (sheet c.args.self.now)) c.args.title.text.now fitted

pub returns-in_err-write_title-clause-lines : goal.returns-in_err-write_title-clause-lines
returns-in_err-write_title-clause-lines g c = λ fitted.
    title_lines_columns c.args.title.fit c.args.title.alignment (total_width (sheet c.args.self.now)) c.args.title.text.now fitted

pub returns-clause-lines : goal.returns-clause-lines
returns-clause-lines g c = λ fitted.
    title_lines_columns c.args.title.fit c.args.title.alignment (total_width (sheet c.args.self.now)) c.args.title.text.now fitted
