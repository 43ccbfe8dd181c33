use Rattle.tabled_set.proofs.Names.{ap, false, filled_line, join_with_byte, lines_left, map, ◌++◌, ◌∙◌}
use Rattle.tabled_set.proofs.JoinedLines.{appended, appended-all}
use Rattle.tabled_set.proofs.min_width.FillingTextTransform.apply.Goals as goal

pub loop-line-init : goal.loop-line-init
loop-line-init c =
    let each = map (filled_line c.args.self.now.fill c.args.content_size) in
    let all = ap lines_left c.into_iter-line-iterator.ensures.into_iter_gives ∙ c.lines-line-items.ensures in
    ap (λ bytes. bytes ++ appended false (each (lines_left c.into_iter-line-iterator.result))) c.clear.ensures.bytes
    ∙ appended-all (each (lines_left c.into_iter-line-iterator.result))
    ∙ ap (λ lines. join_with_byte 10 (each lines)) all
