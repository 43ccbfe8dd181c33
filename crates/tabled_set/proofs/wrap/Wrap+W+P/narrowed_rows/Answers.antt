use Rattle.std.proofs.lemmas.Result.{IfOk-weaker}
use Rattle.tabled_set.proofs.ExactTotals.{wraps}
use Rattle.tabled_set.proofs.wrap.Wrap+W+P.narrowed_rows.Goals as goal

pub returns-then-is_some-clause-promised : goal.returns-then-is_some-clause-promised
returns-then-is_some-clause-promised g c =
    IfOk-weaker c.wrapped_rows.result _ _
    (λ changed h left. wraps _ _ _ _ _ _ _ _ left c.wrapped_rows.ensures.rectangular c.args.self.transform.keep_words h)
    c.wrapped_rows.ensures.ok

pub returns-in_default-clause-promised : goal.returns-in_default-clause-promised
returns-in_default-clause-promised g c left =
    wraps _ _ _ _ _ _ _ _ left c.in_ok-made.ensures.rectangular c.args.self.transform.keep_words (rw c.in_default.is at c.in_ok-made.ensures.ok)

pub returns-clause-ok : goal.returns-clause-ok
returns-clause-ok g c = rw c.in-Some.is at c.in_ok-made.ensures.ok

pub returns-clause-promised : goal.returns-clause-promised
returns-clause-promised g c left =
    wraps _ _ _ _ _ _ _ _ left c.in_ok-made.ensures.rectangular c.args.self.transform.keep_words (returns-clause-ok g c)
