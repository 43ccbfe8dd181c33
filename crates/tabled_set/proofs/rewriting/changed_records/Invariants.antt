use Rattle.tabled_set.proofs.Names.{for_content_size, if_taken}
use Rattle.tabled_set.specs.CellChanges.{RowsAreMade}
use Rattle.tabled_set.proofs.rewriting.changed_records.Given as goal

abbrev pub invariant-rows : goal.invariant-rows
invariant-rows g l =
    RowsAreMade
    (for_content_size (if_taken l.by.cell_filter (g.T.TextTransform.makes l.by.transform.now)) (g.M.ContentSizes.content_size_at l.by.content_sizes.now))
    (g.R.ExactRecords.cells l.records) l.row l.writer
