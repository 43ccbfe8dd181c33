use Rattle.tabled_text.proofs.Names.{arith, leb-true, length}
use Rattle.tabled_text.proofs.CutOnce.{no_fill}
use Rattle.tabled_text.proofs.CutWhole.{IsCut-counted, IsParted-short, count_of-bytes}
use Rattle.tabled_text.proofs.WrapKept.{IsWrapped-short}
use Rattle.tabled_text.proofs.wrap.fits_bytes.Goals as goal

pub returns-clause-wrapped : goal.returns-clause-wrapped
returns-clause-wrapped c = λ words yes some.
    IsWrapped-short c.args.n words c.args.text.now c.utf8.text some (leb-true (length c.args.text.now) c.args.n yes)

pub returns-clause-cut : goal.returns-clause-cut
returns-clause-cut c = λ yes.
    let le = leb-true (length c.args.text.now) c.args.n yes in
    IsCut-counted c.args.n c.args.text.now c.utf8.text (omega (arith, count_of-bytes c.args.text.now c.utf8.text))

pub returns-clause-unfilled : goal.returns-clause-unfilled
returns-clause-unfilled c = λ yes. no_fill (IsParted-short c.args.n c.args.text.now c.utf8.text (leb-true (length c.args.text.now) c.args.n yes))
