use Rattle.tabled_base.proofs.Names.{drop, ◌≡◌}
use denote.Text.{Utf8}
use denote.Shadow.{shadow}
use Rattle.tabled_text.specs.LineEnds.{AreEnds, ended_text}
use Rattle.tabled_text.specs.Measure.{lines_of}
use Rattle.tabled_base.proofs.content.Content.line.Given as goal

-- the lines of the rest are those of the whole text after the passed ones
abbrev pub invariant-lines : goal.invariant-lines
invariant-lines l = record {
  utf8 : shadow (Utf8 l.rest);
  left : lines_of (ended_text l.self.ends l.rest) ≡ drop l._before (lines_of (ended_text l.self.ends l.self.text.now));
  ends : AreEnds l.self.ends l.rest;
}
