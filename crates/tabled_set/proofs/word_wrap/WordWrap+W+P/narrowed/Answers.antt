use Rattle.std.proofs.lemmas.Result.{IfOk-weaker}
use Rattle.tabled_set.proofs.ExactTotals.{word_wraps}
use Rattle.tabled_set.proofs.word_wrap.WordWrap+W+P.narrowed.Goals as goal

pub returns-clause-promised : goal.returns-clause-promised
returns-clause-promised g c =
    IfOk-weaker c.narrowed_records.result _ _
    (λ changed h left. word_wraps _ _ _ _ _ _ _ _ left c.narrowed_records.ensures.rectangular h)
    c.narrowed_records.ensures.ok
