use Rattle.tabled_set.proofs.Names.{ByRow, NeedNoMemory, covers, needs, precedes, ◌&&◌}
use Rattle.tabled_set.proofs.walk.order_for.Given as goal

abbrev pub invariant-rows : goal.invariant-rows
invariant-rows g l =
    NeedNoMemory (λ r c. covers l.fn.entity r c && precedes ByRow l.row 0 r c)
    (needs l.by.cell_filter (g.T.TextTransform.shortens l.by.transform.now) (g.M.ContentSizes.content_size_at l.by.content_sizes.now)) (g.R.ExactRecords.cells l.records)
