use Rattle.tabled_serde.proofs.Yielding.{Started}
use Rattle.tabled_serde.proofs.rows.builder.Given as goal

abbrev pub invariant-rows : goal.invariant-rows
invariant-rows g l =
    Started g.I.IntoIterator.into_iter_gives g.I.IntoIter.Iterator.next_gives g.T.Described.writes g.T.OwnErrors.own_error l.fn.none l.fn.values l.row-iterator l.builder
