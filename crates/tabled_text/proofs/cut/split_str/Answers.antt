use Rattle.tabled_text.proofs.CutLemmas.{IsSplit-filled}
use Rattle.tabled_text.proofs.cut.split_str.Goals as goal

pub returns-clause-cut : goal.returns-clause-cut
returns-clause-cut c =
    let parts = c.part-missing.ensures in
    IsSplit-filled parts.front parts.after parts.parted c.in_ok-front.ensures.text
