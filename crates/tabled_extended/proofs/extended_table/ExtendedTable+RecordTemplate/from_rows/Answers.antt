use Rattle.tabled_extended.proofs.Names.{Some, [], refl, ◌++◌, ◌∷◌}
use Rattle.std.proofs.iter.Next.{Yields-more}
use Rattle.std.proofs.lemmas.List.Elements.{All-pop}
use Rattle.std.specs.Iterator.{IsFiniteIterable}
use Rattle.tabled_extended.proofs.MadeRows.{made-more}
use Rattle.tabled_extended.proofs.extended_table.ExtendedTable+RecordTemplate.from_rows.Goals as goal

pub collect_row-requires : goal.collect_row-requires
collect_row-requires g c =
    let columns = g.I.IterColumns.IntoIterator in
    let cells = g.I.IterColumns.IntoIter.Iterator in
    let it = c.into_iter-row-iterator in
    let xs = c.loop-row.yielded in
    let x = c.in-Some.row in
    let more = Yields-more g.I.IterRows.IntoIter.Iterator.next_gives it.result xs c.loop-row.row-iterator x
    c.next.new.self c.loop-row.yielded_by c.in-Some.ensures.steps in
    let ends = c.iter_rows-row-items.ensures.ends c.requires in
    (All-pop (IsFiniteIterable columns.into_iter_gives cells.can_next cells.remaining) (xs ++ x ∷ []) xs (Some x) refl
    (ends.each it.result it.ensures.into_iter_gives (xs ++ x ∷ []) c.next.new.self more)).1

pub loop-row-preserved : goal.loop-row-preserved
loop-row-preserved g c =
    let came = c.in_ok-collect_row.ensures.ok in
    made-more c.loop-row.all.items c.push.new.self.items c.in_ok-collect_row.field-0
    c.loop-row.invariant c.in_ok-push.ensures.items came.1 came.2
