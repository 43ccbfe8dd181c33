use Rattle.tabled_table.proofs.Names.{List, ap, map, subst, sym, ◌∙◌, ℕ}
use Rattle.tabled_line.proofs.Sending.{took-none}
use Rattle.tabled_line.specs.Sent.{Took}
use Rattle.tabled_text.specs.Lines.{lines_left}
use Rattle.tabled_table.proofs.Titles.{line-stopped-in, line-written, lines-written}
use Rattle.tabled_table.specs.Titled.{text_with_feeds, title_line, title_lines}
use Rattle.tabled_table.proofs.titled.write_title.Goals as goal

pub loop-line-init : goal.loop-line-init
loop-line-init g c =
    let f = title_line c.args.alignment c.args.width in
    let sink = g.S.TextSink.sent c.args.sink.now in
    let whole = text_with_feeds (title_lines c.args.alignment c.args.width c.args.fitted.now) in
    subst (λ (lines : List (List ℕ)). Took sink sink whole (text_with_feeds (map f lines)))
    (sym (ap lines_left c.into_iter-line-iterator.ensures.into_iter_gives ∙ c.lines-line-items.ensures)) (took-none sink whole)

pub loop-line-preserved : goal.loop-line-preserved
loop-line-preserved g c =
    line-written (title_line c.args.alignment c.args.width) c.in-Some.ensures.steps c.loop-line.invariant c.in_ok-write_title_line.ensures

pub returns-in_err-write_title_line : goal.returns-in_err-write_title_line
returns-in_err-write_title_line g c =
    line-stopped-in (title_line c.args.alignment c.args.width) c.in-Some.ensures.steps c.loop-line.invariant c.from_residual.result _
    c.in_err-write_title_line.ensures c.from_residual.ensures.1

pub returns : goal.returns
returns g c = lines-written (title_line c.args.alignment c.args.width) c.in-None.ensures.steps.0 c.loop-line.invariant
