use Rattle.tabled_line.proofs.Names.{AreAt, WritesLines, ap, arith, map, range_with_len, refl, row_line, row_lines, subst, sym, ◌+◌, ◌-◌}
use Rattle.tabled_line.proofs.Names.{◌∙◌, ◌≡◌}
use Rattle.tabled_line.proofs.Each.{map-more, map-rest}
use Rattle.tabled_line.proofs.Leading.{lines-further, lines-stopped}
use Rattle.tabled_line.proofs.line_printer.LinePrinter.write_lines.Goals as goal

pub returns-in_err-write_row_line-clause-printed : goal.returns-in_err-write_row_line-clause-printed
unfolding row_lines
returns-in_err-write_row_line-clause-printed g c =
    let f = row_line (g.R.Row.sheet c.args.row.now) in
    subst (λ n. WritesLines (g.S.TextSink.sent c.args.sink.now) c.args.self.now.begun c.from_residual.result (g.S.TextSink.sent c.write_row_line.new.sink) c.write_row_line.new.self.begun (map f (range_with_len 0 n)))
    c.requires.height
    (lines-stopped _ _ _ _ _ c.lines.invariant.printed c.in_err-write_row_line.ensures.printed c.from_residual.ensures.1 (map-rest f _ _ c.lines-test.true))

pub lines-preserved : goal.lines-preserved
lines-preserved g c =
    let next : c.lines.index ≡ c.lines.index + 1 - 1 = omega arith in
    record {
      printed = lines-further c.lines.invariant.printed c.in_ok-write_row_line.ensures.printed (map-more (row_line (g.R.Row.sheet c.args.row.now)) _);
      same = c.in_ok-write_row_line.ensures.same ∙ c.lines.invariant.same;
      kept = c.in_ok-write_row_line.ensures.kept;
      cursors = subst (λ i. AreAt (g.R.Row.sheet c.args.row.now) i c.advance_cursors.new.cursors) next (c.advance_cursors.ensures (g.R.Row.sheet c.args.row.now) c.lines.invariant.cursors);
    }

pub write_row_line-requires : goal.write_row_line-requires
write_row_line-requires g c = λ κs. (
  (refl, tt),
  (
    c.lines.invariant.kept,
    (
      c.requires.over ∙ ap g.C.TableColumns.sheet (sym c.lines.invariant.same),
      record {
        index_in = c.lines-test.true;
        height_is = c.requires.height;
        top_is = c.are_top-top.ensures;
        cursors_are = c.advance_cursors.ensures (g.R.Row.sheet c.args.row.now) c.lines.invariant.cursors;
      },
    ),
  ),
)
