use Rattle.tabled_line.proofs.Names.{ap, break, drop, refl, sym, ◌++◌, ◌∙◌}
use Rattle.tabled_line.proofs.LeadingFeeds.{lines_after-boundary, lines_after-line}
use Rattle.tabled_line.proofs.line_printer.write_feed_and_line.Goals as goal

pub returns-then-begun : goal.returns-then-begun
returns-then-begun g c =
    lines_after-line _ _ _ _ _ _ _ (c.requires ∙ ap (λ p. break p ++ drop 1 c.args.led.now) (sym c.if-begun.true)) c.if-begun.true c.write_text.ensures.written

pub range_from-requires : goal.range_from-requires
range_from-requires g c = λ some. lines_after-boundary _ c.utf8.led c.requires

pub returns : goal.returns
returns g c =
    lines_after-line _ _ _ _ _ _ _ (c.range_from.ensures.value ∙ ap (λ p. break p ++ drop 1 c.args.led.now) (sym c.if-begun.false)) refl c.write_text-2.ensures.written
