use Rattle.std.proofs.Common.{◌≡◌, ◌++◌, map, drop}
use Rattle.std.specs.Str.{IsCharBoundary}
use Rattle.tabled_c.specs.Cells.{AreEnds, texts_at}
use Rattle.tabled_c.proofs.cells.texts_at.Given as goal

abbrev pub invariant-ends : goal.invariant-ends
invariant-ends l = record {
  boundary : IsCharBoundary l.text l.start;
  texts : map (λ t. t.now) l.texts.items ++ texts_at l.null l.text l.start (drop l.end-index l.ends) ≡ texts_at l.null l.text 0 l.ends;
  later : AreEnds l.text 0 l.ends → AreEnds l.text l.start (drop l.end-index l.ends);
  all : AreEnds l.text l.start (drop l.end-index l.ends) → AreEnds l.text 0 l.ends;
}
