use Rattle.tabled.proofs.Names.{Err, ap, refl, ◌≡◌}
use Rattle.tabled.specs.declared.program.Fault.TheVariants.{Usage}
use Rattle.tabled.proofs.program.run.Goals as goal

pub returns-in-Usage-clause-usage : goal.returns-in-Usage-clause-usage
returns-in-Usage-clause-usage g c = let e : c.in-Err.fault ≡ Usage = c.in-Usage.is in (λ r. c.in-Err.ensures.usage.0 (ap Err e), λ h. refl)

pub returns-in-Usage-clause-unread : goal.returns-in-Usage-clause-unread
returns-in-Usage-clause-unread g c = λ r.
    let e : c.in-Err.fault ≡ Usage = c.in-Usage.is in c.in-Err.ensures.unread (c.in-Err.ensures.usage.0 (ap Err e))
