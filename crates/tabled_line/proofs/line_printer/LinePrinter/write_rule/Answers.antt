use Rattle.tabled_line.proofs.Names.{ap, drop, rule_line, sym, ◌∙◌, ◌∷◌, ◌≡◌}
use Rattle.tabled_line.proofs.Leading.{lines-none, one-line, one-line-stopped}
use Rattle.tabled_line.proofs.LeadingFeeds.{lines_after-parts}
use Rattle.tabled_line.proofs.line_printer.LinePrinter.write_rule.Goals as goal

pub returns-in_default-clause-printed : goal.returns-in_default-clause-printed
returns-in_default-clause-printed g c = rw c.in_default.is (lines-none _ _)

pub write_feed_and_line-requires : goal.write_feed_and_line-requires
write_feed_and_line-requires g c = lines_after-parts _ _ (c.text.ensures ∙ c.update.ensures.text c.if-update.true)

pub returns-then-update-clause-printed : goal.returns-then-update-clause-printed
returns-then-update-clause-printed g c =
    let e : c.text.result.now ≡ 10 ∷ rule_line (g.C.TableColumns.sheet c.args.self.now.columns) c.in-Some.line =
    c.text.ensures ∙ c.update.ensures.text c.if-update.true in
    rw c.in-Some.is (rw (sym (ap (drop 1) e)) c.write_feed_and_line.ensures)

pub returns-in_err-write_break-clause-printed : goal.returns-in_err-write_break-clause-printed
returns-in_err-write_break-clause-printed g c =
    rw c.in-Some.is (one-line-stopped _ _ _ _ _ c.in_err-write_break.ensures.printed c.from_residual.ensures.1)

pub returns-clause-printed : goal.returns-clause-printed
returns-clause-printed g c =
    rw c.in-Some.is (one-line _ _ _ _ _ c.in_ok-write_break.ensures.printed c.write_rule_line.ensures c.write_break.ensures.after)
