use Rattle.tabled_line.proofs.Names.{ap, arith, fill, piece, refl, sym, ◌++◌, ◌∙◌}
use Rattle.tabled_line.proofs.Bars.{bar-before, bar-first}
use Rattle.tabled_line.proofs.Sending.{finished, sends-none, stopped-first}
use Rattle.tabled_line.proofs.spaced_line.write_separator.Goals as goal

pub returns-then-column-gt0 : goal.returns-then-column-gt0
returns-then-column-gt0 g c = λ frame bar.
    finished _ _ _ _ (sends-none _) c.write.ensures
    (ap (λ u. fill 32 c.args.line.now.behind ++ (u ++ fill 32 c.args.before))
    (ap (λ b. piece b frame.inner.main) (bar-before frame c.args.column c.if-column-gt0.true) ∙ ap (λ v. piece v.there v.main) (sym bar)))

pub returns-in_err-write_spaces : goal.returns-in_err-write_spaces
returns-in_err-write_spaces g c = λ frame bar. stopped-first _ _ _ c.in_err-write_spaces.ensures c.from_residual.ensures.1 refl

pub returns : goal.returns
returns g c = λ frame bar.
    finished _ _ _ _ c.in_ok-write_spaces.ensures c.write_spaces-2.ensures
    (ap (λ u. fill 32 c.args.line.now.behind ++ (u ++ fill 32 c.args.before))
    (ap (λ b. piece b frame.inner.main) (bar-first frame c.args.column (omega (arith, c.if-column-gt0.false)))))
