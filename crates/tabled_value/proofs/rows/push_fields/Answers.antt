use Rattle.tabled_value.proofs.Names.{cow_str_bytes, row_texts}
use Rattle.tabled_value.proofs.FieldRows.{no_pair}
use Rattle.tabled_value.proofs.rows.push_fields.Goals as goal

pub returns-clause-ok : goal.returns-clause-ok
returns-clause-ok c =
    no_pair cow_str_bytes cow_str_bytes c.fields.name-iterator c.next.new.self c.next.result (row_texts c.fields.rows.items) _ c.in-None.is
    c.next.ensures.steps c.fields.invariant
