use Rattle.tabled_set.proofs.Names.{AreChanged, for_content_size, if_taken, on_line, precedes, ◌&&◌}
use Rattle.tabled_set.proofs.walk.change_line.Given as goal

abbrev pub invariant-places : goal.invariant-places
invariant-places g l =
    AreChanged (λ r c. on_line l.order l.line l.fn.band r c && precedes l.order l.line l.place r c)
    (for_content_size (if_taken l.by.cell_filter (g.T.TextTransform.makes l.by.transform.now)) (g.M.ContentSizes.content_size_at l.by.content_sizes.now))
    (g.R.ExactRecords.cells l.fn.records) (g.R.ExactRecords.cells l.records)
