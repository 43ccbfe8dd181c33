use Rattle.tabled.proofs.BytesSince.{handed_more, handed_part}
use Rattle.tabled_line.proofs.Writers.{kept-none}
use Rattle.tabled.proofs.program.write_once.Goals as goal

pub taken-preserved : goal.taken-preserved
taken-preserved g c = handed_more _ _ _ _ _ _ _ c.taken.invariant c.in-Ok.ensures.bytes c.split_at.ensures.back

pub returns-in_default : goal.returns-in_default
returns-in_default g c = handed_part _ _ _ _ _ c.taken.invariant (kept-none _ _ c.in-Ok.n _ c.if-n-gt0.false c.in-Ok.ensures.bytes)
