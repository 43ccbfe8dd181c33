use Rattle.tabled_set.proofs.Names.{[], false, ◌≡◌}
use Rattle.std.proofs.Common.{arith, rules}
use Rattle.std.proofs.lemmas.Grind.{common_steps}
use Rattle.std.proofs.lemmas.Result.{IfOk-weaker}
use Rattle.tabled_set.proofs.ExactTotals.{truncates}
use Rattle.tabled_set.proofs.truncate.Truncate+W+P.narrowed.Goals as goal

pub returns-then-is_some-clause-ok : goal.returns-then-is_some-clause-ok
returns-then-is_some-clause-ok g c =
    let by = c.args.self.transform in
    let bare : by.suffix.now ≡ [] = grind (arith, common_steps, c.is_empty.ensures, c.if-is_empty.true) in
    let whole : by.multiline ≡ false = search rules in
    rw (bare, whole) c.cut_rows.ensures.ok

pub returns-then-is_some-clause-promised : goal.returns-then-is_some-clause-promised
returns-then-is_some-clause-promised g c =
    let by = c.args.self.transform in
    IfOk-weaker c.cut_rows.result _ _
    (λ changed h left. truncates _ _ _ _ _ _ _ _ left c.cut_rows.ensures.rectangular by.suffix.now by.limit by.multiline h)
    (returns-then-is_some-clause-ok g c)

pub returns-in_default-clause-promised : goal.returns-in_default-clause-promised
returns-in_default-clause-promised g c left =
    let by = c.args.self.transform in
    truncates _ _ _ _ _ _ _ _ left c.in_ok-made.ensures.rectangular by.suffix.now by.limit by.multiline
    (rw c.in_default.is at c.in_ok-made.ensures.ok)

pub returns-clause-promised : goal.returns-clause-promised
returns-clause-promised g c left =
    let by = c.args.self.transform in
    truncates _ _ _ _ _ _ _ _ left c.in_ok-made.ensures.rectangular by.suffix.now by.limit by.multiline
    (rw c.in-Some.is at c.in_ok-made.ensures.ok)
