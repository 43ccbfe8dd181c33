use Rattle.tabled.proofs.Noting.{none_spelled, notes_plan, some_spelled}
use Rattle.tabled.proofs.arguments.plan_of.Goals as goal

-- what is noted makes the plan that the words spell
told : goal.returns-clause-plan
told c plan =
    let same = notes_plan _ _ c.in_ok-arguments_of.ensures plan in
    (λ e. same.0 ((c.plan.ensures plan).0 e), λ h. (c.plan.ensures plan).1 (same.1 h))

pub returns-clause-plan : goal.returns-clause-plan
returns-clause-plan c = told c

pub returns-clause-none : goal.returns-clause-none
returns-clause-none c = none_spelled _ _ (told c)

pub returns-clause-spelled : goal.returns-clause-spelled
returns-clause-spelled c = some_spelled _ _ (told c)
