use Rattle.tabled_extended.proofs.Names.{IsTruncated, arith, refl}
use Rattle.tabled_extended.specs.Truncated.{StopsAtText}
use Rattle.tabled_extended.proofs.Stopped.{so_far-all, so_far-long, so_far-more, so_far-none, so_far-stopped}
use Rattle.tabled_extended.proofs.CutOff.{err-with}
use Rattle.tabled_extended.proofs.truncating.truncate_row.Goals as goal

pub texts-init : goal.texts-init
texts-init c = so_far-none (IsTruncated c.args.suffix.now c.args.width_limit) c.args.row.now.items

pub texts-preserved : goal.texts-preserved
texts-preserved c =
    let long = so_far-long c.texts.invariant in
    so_far-more c.texts.invariant (omega (arith, long)) c.index_mut.ensures.value c.in_ok-truncate_text.ensures.ok refl

pub returns-in_err-truncate_text-clause-err : goal.returns-in_err-truncate_text-clause-err
returns-in_err-truncate_text-clause-err c =
    let long = so_far-long c.texts.invariant in
    let stop = so_far-stopped (StopsAtText c.args.suffix.now c.args.width_limit) c.texts.invariant (omega (arith, long))
    c.index_mut.ensures.value
    c.in_err-truncate_text.ensures.err refl in
    err-with _ stop c.from_residual.ensures.0

pub returns-clause-ok : goal.returns-clause-ok
returns-clause-ok c = let long = so_far-long c.texts.invariant in so_far-all c.texts.invariant (omega (arith, long))
