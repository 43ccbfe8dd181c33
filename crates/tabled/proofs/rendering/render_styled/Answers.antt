use Rattle.tabled.proofs.Names.{AreTexts, IsRectangular, subst, sym}
use Rattle.tabled.proofs.Outputs.{text_rectangular, texts_of_text}
use Rattle.tabled.proofs.rendering.render_styled.Goals as goal

pub print_measured-requires-clause-texts : goal.print_measured-requires-clause-texts
print_measured-requires-clause-texts g c = subst AreTexts (sym c.in_ok-rows.ensures.ok) (texts_of_text c.args.text.now c.utf8.text)

pub print_measured-requires-clause-rectangular : goal.print_measured-requires-clause-rectangular
print_measured-requires-clause-rectangular g c = subst IsRectangular (sym c.in_ok-rows.ensures.ok) (text_rectangular c.args.text.now)
