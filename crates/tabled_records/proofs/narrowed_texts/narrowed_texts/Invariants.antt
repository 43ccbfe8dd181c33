use Rattle.tabled_records.proofs.Names.{length, ◌≡◌}
use Rattle.tabled_records.specs.NarrowedTexts.{AreKnown}
use Rattle.tabled_records.proofs.narrowed_texts.narrowed_texts.Given as goal

abbrev pub invariant-rows : goal.invariant-rows
invariant-rows g l = record {
  narrowing : l.narrower.narrowing ≡ l.fn.narrowing;
  widths : l.narrower.widths.now ≡ l.widths;
  known : AreKnown (g.N.Narrowing.makes l.fn.narrowing) (g.N.Narrowing.tells l.fn.narrowing) l.widths l.rows l.narrower.texts;
  count : length l.narrower.texts.ranges ≡ l.row;
}
