use Rattle.tabled_c.proofs.Names.{NoText, inr, refl}
use Rattle.tabled_c.specs.declared.error_code.ErrorCode.TheVariants.{Memory}
use Rattle.tabled_c.proofs.exports.fanlightnard_core_wrap.Goals as goal

pub returns-in_default : goal.returns-in_default
returns-in_default c = inr (NoText, c.in_default.ensures.cases.0, record { code = rw c.code.ensures refl; buffer = refl })

pub returns-in-Err : goal.returns-in-Err
returns-in-Err c =
    inr (Memory, (c.in-Ok.ensures.cases.1, c.in-Err.ensures.memory.0), record { code = rw c.code-in-Err.ensures refl; buffer = refl })
