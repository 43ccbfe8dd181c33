use Rattle.tabled_base.proofs.Names.{◌∙◌}
use Rattle.tabled_base.proofs.LentSlices.{lent_slices_give}
use Rattle.tabled_base.proofs.vec_records.RefVecRecordsRecords.iter_rows.Goals as goal

pub returns-clause-gives : goal.returns-clause-gives
returns-clause-gives g c cells given =
    lent_slices_give g.T.CellText.text given (λ it same. same) (λ row it made. made.0) ∙ c.as_rows.ensures
