use Rattle.tabled_line.proofs.Names.{ap, arith, fill, indent, refl, sym, ◌++◌, ◌∙◌}
use Rattle.tabled_line.proofs.Sending.{finished, sends-none, stopped-first}
use Rattle.tabled_line.proofs.Fills.{fill-add}
use Rattle.tabled_line.proofs.padding.write_indents.Goals as goal

pub returns : goal.returns
returns g c =
    let first = c.args.first in
    let second = c.args.second in
    finished _ _ _ _ (sends-none _) c.write_spaces.ensures
    (ap (λ f. fill f first.size ++ fill second.fill second.size) c.if-first-eq32.true
    ∙ ap (λ f. fill 32 first.size ++ fill f second.size) c.if-second-eq32.true
    ∙ sym (fill-add 32 first.size second.size c.in-Some.spaces (omega (arith, c.in-Some.ensures.1))))

pub returns-in_err-write_fill : goal.returns-in_err-write_fill
returns-in_err-write_fill g c =
    stopped-first _ _ (indent c.args.second) c.in_err-write_fill.ensures c.from_residual.ensures.1 refl

pub returns-2 : goal.returns-2
returns-2 g c = finished _ _ _ _ c.in_ok-write_fill.ensures c.write_fill-2.ensures refl
