use Rattle.tabled_line.proofs.Names.{WritesLines, map, range_with_len, refl, row_line, row_lines, subst, sym, ◌∙◌}
use Rattle.tabled_line.proofs.line_printer.LinePrinter.write_row.Goals as goal

pub returns-then-height-eq1-clause-printed : goal.returns-then-height-eq1-clause-printed
unfolding row_lines
returns-then-height-eq1-clause-printed g c =
    let sheet = g.R.Row.sheet c.args.row.now in
    let only = rw c.only.ensures.first at c.write_row_line.ensures.printed in
    subst (λ n. WritesLines (g.S.TextSink.sent c.args.sink.now) c.args.self.now.begun c.write_row_line.result (g.S.TextSink.sent c.write_row_line.new.sink) c.write_row_line.new.self.begun (map (row_line sheet) (range_with_len 0 n)))
    (sym c.if-height-eq1.true ∙ c.height-height.ensures) only

pub write_row_line-requires : goal.write_row_line-requires
write_row_line-requires g c = λ κs.
    ((refl, tt), (c.requires.kept, (c.requires.over, c.only.ensures.line _ (sym c.height-height.ensures ∙ c.if-height-eq1.true))))
