use Rattle.tabled_records.proofs.Names.{subst, texts_from}
use Rattle.tabled_records.proofs.Cutting.{rows-printable}
use Rattle.tabled_records.specs.CutLentRows.{ArePrintable}
use Rattle.tabled_records.proofs.joined_records.LentRows.is_printable.Goals as goal

pub returns : goal.returns
returns c p =
    let r = c.self.inside in
    subst ArePrintable c.self.view_is (rows-printable (texts_from 1 r.text.now 0 r.cells) r.rows (c.self.invariant.plain p))
