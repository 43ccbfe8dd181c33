use Rattle.tabled_set.proofs.Names.{ByRow, NeedNoMemory, needs, on_line, precedes, ◌&&◌}
use Rattle.tabled_set.proofs.walk.are_cut_in_place_in.Given as goal

abbrev pub invariant-columns : goal.invariant-columns
invariant-columns g l =
    NeedNoMemory (λ r c. on_line ByRow l.row l.fn.band r c && precedes ByRow l.row l.column r c)
    (needs l.by.cell_filter (g.T.TextTransform.shortens l.by.transform.now) (g.M.ContentSizes.content_size_at l.by.content_sizes.now)) (g.R.ExactRecords.cells l.records)
