use Rattle.std.proofs.lemmas.Result.{IfOk-weaker}
use Rattle.tabled_set.proofs.ExactTotals.{wraps}
use Rattle.tabled_set.proofs.wrap.Wrap+W+P.narrowed.Goals as goal

pub returns-clause-promised : goal.returns-clause-promised
returns-clause-promised g c =
    IfOk-weaker c.narrowed_records.result _ _
    (λ changed h left. wraps _ _ _ _ _ _ _ _ left c.narrowed_records.ensures.rectangular c.args.self.transform.keep_words h)
    c.narrowed_records.ensures.ok
