use Rattle.tabled_records.proofs.Names.{◌≡◌}
use Rattle.tabled_records.proofs.ToldTexts.{AreAdded}
use Rattle.tabled_records.proofs.narrowed_texts.CellNarrower.push_row.Given as goal

abbrev pub invariant-columns : goal.invariant-columns
invariant-columns g l = record {
  narrowing : l.self.narrowing ≡ l.fn.self.narrowing;
  widths : l.self.widths ≡ l.fn.self.widths;
  added : AreAdded (g.N.Narrowing.makes l.fn.self.narrowing) (g.N.Narrowing.tells l.fn.self.narrowing) l.fn.self.widths.now l.rows l.row l.start l.column
      l.fn.self.texts.ranges l.self.texts;
}
