use Rattle.tabled_text.proofs.Names.{IsParted, chars, subst}
use Rattle.tabled_text.proofs.CutOnce.{no_fill}
use Rattle.tabled_text.proofs.cut.cut_length.Goals as goal

-- no column is left
pub returns-then-missing-eq0-clause-some : goal.returns-then-missing-eq0-clause-some
returns-then-missing-eq0-clause-some c =
    let parts = c.part-missing.result in
    no_fill
    (subst (λ missing. IsParted c.args.n (chars c.args.text.now) (chars parts.0.now) missing (chars parts.2.now)) c.if-missing-eq0.true
    c.part-missing.ensures.parted)
