use Rattle.tabled_records.proofs.Names.{ap, length, refl, sym, ◌∙◌}
use Rattle.tabled_records.proofs.buffer.BufRowsIterator.next.Goals as goal

pub returns-in-Some-clause-steps : goal.returns-in-Some-clause-steps
returns-in-Some-clause-steps g c =
    let made = c.into_iter.ensures in (
      made.len ∙ c.in-Some.row.ok.0 ∙ sym (ap length made.rest),
      record { row = c.in-Some.row; taken = c.in-Some.ensures.cases; items = sym made.rest; same = refl },
    )
