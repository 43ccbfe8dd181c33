use Rattle.std.proofs.Common.{ap, string_bytes, ◌++◌, ◌∙◌}
use Rattle.tabled_text.specs.Lines.{lines_left}
use Rattle.tabview_records.proofs.NarrowedTexts.{narrowed-all, narrowed-more, narrowed-none}
use Rattle.tabview_records.proofs.narrowed.narrowed_text.Goals as goal

pub loop-line-init : goal.loop-line-init
loop-line-init c =
    narrowed-none c.args.cuts c.args.n c.args.text.now _ _ (ap lines_left c.into_iter-line-iterator.ensures.into_iter_gives ∙ c.lines-line-items.ensures)
    c.new-out.ensures.bytes

pub loop-line-preserved : goal.loop-line-preserved
loop-line-preserved c =
    let pushed = c.in_ok-push_line.ensures in
    narrowed-more c.args.cuts c.args.n c.args.text.now (lines_left c.loop-line.line-iterator) (lines_left c.next.new.self) (string_bytes c.loop-line.out)
    c.loop-line.begun c.in-Some.line.now pushed.0 (string_bytes c.push_line.new.out) c.loop-line.invariant c.in-Some.ensures.steps pushed.1
    (pushed.2 ∙ ap (λ o. o ++ pushed.0) c.in_ok-push_break.ensures)

pub returns : goal.returns
returns c =
    narrowed-all c.args.cuts c.args.n c.args.text.now (lines_left c.loop-line.line-iterator) (string_bytes c.loop-line.out) c.loop-line.begun
    c.loop-line.invariant c.in-None.ensures.steps.0
