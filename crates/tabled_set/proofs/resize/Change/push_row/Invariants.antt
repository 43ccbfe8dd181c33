use Rattle.tabled_set.proofs.Names.{for_content_size, if_taken, ◌≡◌}
use Rattle.tabled_set.specs.CellChanges.{AreMade}
use Rattle.tabled_set.proofs.resize.Change.push_row.Given as goal

abbrev pub invariant-columns : goal.invariant-columns
invariant-columns g l = record {
  rows : l.writer.rows ≡ l.fn.writer.rows;
  made :
      AreMade
      (for_content_size (if_taken l.self.cell_filter (g.T.TextTransform.makes l.self.transform.now)) (g.M.ContentSizes.content_size_at l.self.content_sizes.now))
      (g.R.ExactRecords.cells l.records) l.row l.column l.writer.begun;
}
