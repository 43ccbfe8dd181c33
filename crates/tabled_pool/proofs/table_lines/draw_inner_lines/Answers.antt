use Rattle.tabled_pool.proofs.Names.{arith, lines-further, lines-stopped, marks_of, rules, sheet_of, subst, within_margin, ◌+◌, ◌-◌, ◌≡◌}
use Rattle.tabled_pool.specs.TableLines.{IsSwept}
use Rattle.tabled_pool.proofs.BlockLines.{texts-more, texts-rest}
use Rattle.tabled_pool.proofs.table_lines.draw_inner_lines.Goals as goal

pub returns-in_err-draw_next : goal.returns-in_err-draw_next
returns-in_err-draw_next g c =
    lines-stopped _ _ _ _ _ c.lines.invariant.sent c.in_err-draw_next.ensures c.from_residual.ensures.1
    (texts-rest (within_margin c.args.margin.now.indent (marks_of c.args.margin.now.colors)) (sheet_of c.args.lines).lines _ _
    (rw c.size-height.ensures.height at c.lines-test.true) c.line.ensures)

pub lines-init : goal.lines-init
lines-init g c = record { sent = search rules; swept = c.sweep-sweep.ensures }

pub line-requires-clause-swept : goal.line-requires-clause-swept
line-requires-clause-swept g c = c.advance.ensures c.lines.invariant.swept

pub lines-preserved : goal.lines-preserved
lines-preserved g c = record {
  sent = lines-further c.lines.invariant.sent c.in_ok-draw_next.ensures
      (texts-more (within_margin c.args.margin.now.indent (marks_of c.args.margin.now.colors)) (sheet_of c.args.lines).lines _ _
      (rw c.size-height.ensures.height at c.lines-test.true) c.line.ensures);
  swept =
      let same : c.lines.y ≡ c.lines.y + 1 - 1 = omega arith in
      subst (λ y. IsSwept c.args.lines y c.advance.new.sweep) same (c.advance.ensures c.lines.invariant.swept);
}
