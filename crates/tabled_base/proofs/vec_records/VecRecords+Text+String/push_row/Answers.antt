use Rattle.tabled_base.proofs.Lengthening.{rectangular-after}
use Rattle.tabled_base.proofs.StoredRows.{rowed-whole, stored-rectangular}
use Rattle.tabled_base.proofs.vec_records.VecRecords+Text+String.push_row.Goals as goal

pub invariant_of-self : goal.invariant_of-self
invariant_of-self c = rectangular-after c.push_row.result _ _ _
    (rowed-whole (λ t. t) c.self.inside.stored c.in-InRows.rows c.in-InRows.is c.self.invariant) c.push_row.ensures.ok c.push_row.ensures.err

pub returns-in-InRows-clause-rectangular : goal.returns-in-InRows-clause-rectangular
returns-in-InRows-clause-rectangular c = rectangular-after c.push_row.result _ _ _
    (rowed-whole (λ t. t) c.self.inside.stored c.in-InRows.rows c.in-InRows.is c.self.invariant) c.push_row.ensures.ok c.push_row.ensures.err

pub returns-in_err-rows-clause-rectangular : goal.returns-in_err-rows-clause-rectangular
returns-in_err-rows-clause-rectangular c = stored-rectangular (λ t. t) c.self.inside.stored c.self.invariant

pub invariant_of-self-3 : goal.invariant_of-self-3
invariant_of-self-3 c = rectangular-after c.push_row-2.result _ _ _ c.in_ok-rows.ensures.rectangular
    c.push_row-2.ensures.ok c.push_row-2.ensures.err

pub returns-clause-rectangular : goal.returns-clause-rectangular
returns-clause-rectangular c = rectangular-after c.push_row-2.result _ _ _ c.in_ok-rows.ensures.rectangular
    c.push_row-2.ensures.ok c.push_row-2.ensures.err
