use Rattle.tabled_c.specs.Asked.{Ascii, Modern, Sharp, Rounded, ModernRounded, AsciiRounded, Extended, Markdown, Psql, ReStructuredText, Blank, Empty}
use Rattle.tabled_c.proofs.layout.style_numbered.Goals as goal

pub returns-in-0 : goal.returns-in-0
returns-in-0 c = (Ascii, c.in-0.is, c.ascii.ensures)

pub returns-in-1 : goal.returns-in-1
returns-in-1 c = (Modern, c.in-1.is, c.modern.ensures)

pub returns-in-2 : goal.returns-in-2
returns-in-2 c = (Sharp, c.in-2.is, c.sharp.ensures)

pub returns-in-3 : goal.returns-in-3
returns-in-3 c = (Rounded, c.in-3.is, c.rounded.ensures)

pub returns-in-4 : goal.returns-in-4
returns-in-4 c = (ModernRounded, c.in-4.is, c.modern_rounded.ensures)

pub returns-in-5 : goal.returns-in-5
returns-in-5 c = (AsciiRounded, c.in-5.is, c.ascii_rounded.ensures)

pub returns-in-6 : goal.returns-in-6
returns-in-6 c = (Extended, c.in-6.is, c.extended.ensures)

pub returns-in-7 : goal.returns-in-7
returns-in-7 c = (Markdown, c.in-7.is, c.markdown.ensures)

pub returns-in-8 : goal.returns-in-8
returns-in-8 c = (Psql, c.in-8.is, c.psql.ensures)

pub returns-in-9 : goal.returns-in-9
returns-in-9 c = (ReStructuredText, c.in-9.is, c.re_structured_text.ensures)

pub returns-in-10 : goal.returns-in-10
returns-in-10 c = (Blank, c.in-10.is, c.blank.ensures)

pub returns-in-11 : goal.returns-in-11
returns-in-11 c = (Empty, c.in-11.is, c.empty.ensures)
