use Rattle.std.proofs.Common.{refl}
use Rattle.tabview_options.proofs.options.delimiter.Goals as goal

pub returns-in-Some-byte_of-clause-ok : goal.returns-in-Some-byte_of-clause-ok
returns-in-Some-byte_of-clause-ok c = rw c.in-Some.is ((c.in-Some-byte_of.ensures _).0 refl)

pub returns-in-None-clause-errors : goal.returns-in-None-clause-errors
returns-in-None-clause-errors c = (refl, rw c.in-Some.is (λ byte means. let e = (c.in-None.ensures byte).1 means in cc))
