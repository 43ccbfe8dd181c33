use Rattle.tabled_table.proofs.Names.{map}
use Rattle.tabled_line.specs.Sent.{Took}
use Rattle.tabled_text.specs.Lines.{lines_left}
use Rattle.tabled_table.specs.Titled.{text_with_feeds, title_line, title_lines}
use Rattle.tabled_table.proofs.titled.write_title.Given as goal

-- what is left to be written are the lines that are left
abbrev pub invariant-loop-line : goal.invariant-loop-line
invariant-loop-line g l =
    Took (g.S.TextSink.sent l.initial.sink) (g.S.TextSink.sent l.sink) (text_with_feeds (title_lines l.alignment l.width l.fitted))
    (text_with_feeds (map (title_line l.alignment l.width) (lines_left l.line-iterator)))
