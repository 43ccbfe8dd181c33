use Rattle.tabled_base.proofs.Names.{ap, arith, drop, sym, ◌∙◌, ◌∷◌, ◌≡◌}
use Rattle.std.proofs.Common.{rules, slice_get}
use Rattle.tabled_base.proofs.Contents.{only-columns, only-line}
use Rattle.tabled_base.proofs.PassedLines.{drop-next, line-at, none-past}
use Rattle.tabled_base.specs.Content.{content_text}
use Rattle.tabled_text.specs.LineEnds.{ended_lines}
use Rattle.tabled_text.specs.Measure.{lines_of}
use Rattle.tabled_base.proofs.content.Content.line.Goals as goal

pub returns-then-index-eq0-clause-line : goal.returns-then-index-eq0-clause-line
returns-then-index-eq0-clause-line c =
    let content = c.args.self.now in
    sym (ap (slice_get (lines_of (content_text content))) c.if-index-eq0.true
    ∙ ap (λ ls. slice_get ls 0) (only-line content c.if-self-eq1.true))

pub returns-then-index-eq0-clause-columns : goal.returns-then-index-eq0-clause-columns
returns-then-index-eq0-clause-columns c = only-columns c.args.self.now c.if-self-eq1.true

pub lines-preserved : goal.lines-preserved
lines-preserved c =
    let ends = c.args.self.now.ends in
    let first = c.first_line.ensures in
    let rest = c.in_ok-rest.was in
    record {
      utf8 = search rules;
      left = drop-next (lines_of (content_text c.args.self.now)) c.lines._before c.first_line.result.0.now _
          (sym (ap (λ r. c.first_line.result.0.now ∷ ended_lines ends r) rest) ∙ sym first.lines ∙ c.lines.invariant.left);
      ends = rw rest at first.ends_are;
    }

pub returns-in_err-rest-clause-line : goal.returns-in_err-rest-clause-line
returns-in_err-rest-clause-line c =
    let line = c.first_line.result.0.now in
    let last = ap (λ r. line ∷ ended_lines c.args.self.now.ends r) c.in_err-rest.was in
    rw c.from_residual.ensures
    (none-past (lines_of (content_text c.args.self.now)) c.lines._before c.args.index line
    (sym last ∙ sym c.first_line.ensures.lines ∙ c.lines.invariant.left) c.lines-test.true)

pub returns-clause-line : goal.returns-clause-line
returns-clause-line c =
    let whole = lines_of (content_text c.args.self.now) in
    let all : c.lines._before ≡ c.args.index = omega (arith, c.lines-test.false, c.lines.auto._before-end) in
    line-at whole c.args.index c.first_line-columns.result.0.now _
    (sym c.first_line-columns.ensures.lines ∙ c.lines.invariant.left ∙ ap (λ k. drop k whole) all)
