use Rattle.tabled_text.proofs.Names.{ap, chars, fits_line, lines_left, list_all, map, sym, ◌∙◌}
use Rattle.tabled_text.proofs.Bridge.{lines_of-chars}
use Rattle.tabled_text.proofs.FitLemmas.{fits-wide}
use Rattle.tabled_text.proofs.fewest_lines.units_fit.Goals as goal

pub loop-line-init : goal.loop-line-init
loop-line-init c =
    ap (list_all (fits_line c.args.n c.args.words))
    (ap (map chars) (ap lines_left c.into_iter-line-iterator.ensures.into_iter_gives ∙ c.lines-line-items.ensures) ∙
    sym (lines_of-chars c.args.text.now c.utf8.text))

pub returns-then-n-ge-WIDEST : goal.returns-then-n-ge-WIDEST
returns-then-n-ge-WIDEST c = sym (fits-wide c.args.n c.if-n-ge-WIDEST.true c.args.words (chars c.args.text.now))
