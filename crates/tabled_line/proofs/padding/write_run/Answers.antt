use Rattle.tabled_line.proofs.Names.{IsCharBoundary, ap, arith, fill, slice_range, subst, sym, ◌-◌, ◌∙◌, ◌≡◌}
use Rattle.tabled_line.proofs.Sending.{further, sends-along, stopped}
use Rattle.tabled_line.proofs.Fills.{fill-add, fill-boundary, fill-parts, fill-range}
use Rattle.tabled_line.proofs.padding.write_run.Goals as goal

pub range-requires-clause-end_boundary : goal.range-requires-clause-end_boundary
range-requires-clause-end_boundary g c =
    let run = c.requires in
    subst (λ t. IsCharBoundary t c.min-part.result) (sym run.whole) (fill-boundary run.c c.min-part.result 64 run.ascii (omega arith))

pub returns-in_err-write_text : goal.returns-in_err-write_text
returns-in_err-write_text g c = λ run.
    let part : c.range.result.now ≡ fill run.c c.min-part.result =
    c.range.ensures.value ∙ ap (λ t. slice_range t 0 c.min-part.result) run.whole ∙ fill-range run.c c.min-part.result 64 run.ascii (omega arith) in
    stopped _ _ (fill run.c (c.loop-left.left - c.min-part.result)) (c.loop-left.invariant.sends run) c.in_err-write_text.ensures.written
    c.from_residual.ensures.1 (rw part (fill-parts run.c _ c.min-part.result _ _ (omega arith)))

pub loop-left-preserved : goal.loop-left-preserved
loop-left-preserved g c = record {
  sends = λ run.
      let part : c.range.result.now ≡ fill run.c c.min-part.result =
      c.range.ensures.value ∙ ap (λ t. slice_range t 0 c.min-part.result) run.whole ∙ fill-range run.c c.min-part.result 64 run.ascii (omega arith) in
      further (c.loop-left.invariant.sends run) c.in_ok-write_text.ensures.written (rw part (fill-add run.c _ c.min-part.result _ (omega arith)));
  within = omega arith;
}

pub returns : goal.returns
returns g c = λ run. sends-along _ _ _ _ (c.loop-left.invariant.sends run) (ap (fill run.c) (omega arith))
