use Rattle.tabled_set.proofs.Names.{AreChanged, covers, for_content_size, if_taken, precedes, ◌&&◌}
use Rattle.tabled_set.proofs.walk.change_cells.Given as goal

abbrev pub invariant-lines : goal.invariant-lines
invariant-lines g l =
    AreChanged (λ r c. covers l.fn.entity r c && precedes l.walked l.line 0 r c)
    (for_content_size (if_taken l.by.cell_filter (g.T.TextTransform.makes l.by.transform.now)) (g.M.ContentSizes.content_size_at l.by.content_sizes.now))
    (g.R.ExactRecords.cells l.fn.records) (g.R.ExactRecords.cells l.records)
