use Rattle.tabled_line.proofs.Names.{append_assoc, fill, indent, refl, ◌++◌}
use Rattle.tabled_line.proofs.Sending.{finished, further, stopped, stopped-first}
use Rattle.tabled_line.proofs.padding.write_padded_text.Goals as goal

pub returns-in_err-write_indents : goal.returns-in_err-write_indents
returns-in_err-write_indents g c =
    stopped-first _ _ (c.args.text.now ++ (fill 32 c.args.behind ++ indent c.args.padding.now.right))
    (rw c.spaced.ensures at c.in_err-write_indents.ensures) c.from_residual.ensures.1 (simp append_assoc)

pub returns-in_err-write_text : goal.returns-in_err-write_text
returns-in_err-write_text g c =
    stopped _ _ (fill 32 c.args.behind ++ indent c.args.padding.now.right) (rw c.spaced.ensures at c.in_ok-write_indents.ensures)
    c.in_err-write_text.ensures.written c.from_residual-in_err-write_text.ensures.1 (simp append_assoc)

pub returns : goal.returns
returns g c =
    finished _ _ _ _ (further (rw c.spaced.ensures at c.in_ok-write_indents.ensures) c.in_ok-write_text.ensures.written refl)
    (rw c.spaced-2.ensures at c.write_indents-2.ensures) (simp append_assoc)
