use Rattle.tabled_line.proofs.Names.{fill, ◌-◌}
use Rattle.tabled_line.proofs.Sending.{further, stopped}
use Rattle.tabled_line.proofs.Fills.{fill-more, fill-one}
use Rattle.tabled_line.proofs.padding.write_copies.Goals as goal

pub returns-in_err-write_text : goal.returns-in_err-write_text
returns-in_err-write_text g c =
    stopped _ _ (fill c.args.c (c.args.count - c.copies._i - 1)) c.copies.invariant c.in_err-write_text.ensures.written c.from_residual.ensures.1
    (rw c.encode_utf8-text.ensures.value (fill-one _ _ _ c.copies-test.true))

pub copies-preserved : goal.copies-preserved
copies-preserved g c = further c.copies.invariant c.in_ok-write_text.ensures.written (rw (c.encode_utf8-text.ensures.value) (fill-more _ _))
