use Rattle.tabled_line.proofs.Names.{append_assoc, fill, piece, refl, sym, ◌++◌}
use Rattle.tabled_line.proofs.Sending.{finished, further, stopped, stopped-first}
use Rattle.tabled_line.proofs.column_separator.write_separator_text.Goals as goal

pub returns-in_err-write_spaces : goal.returns-in_err-write_spaces
returns-in_err-write_spaces g c =
    stopped-first _ _ (piece c.args.bar.there c.args.bar.main ++ fill 32 64) c.in_err-write_spaces.ensures c.from_residual.ensures.1 refl

pub returns-in_err-write_bar : goal.returns-in_err-write_bar
returns-in_err-write_bar g c =
    stopped _ _ (fill 32 64) c.in_ok-write_spaces.ensures c.in_err-write_bar.ensures c.from_residual-in_err-write_bar.ensures.1 refl

pub returns : goal.returns
returns g c =
    finished _ _ _ _ (further c.in_ok-write_spaces.ensures c.in_ok-write_bar.ensures refl) c.write_spaces-2.ensures
    (sym (append_assoc (fill 32 64) (piece c.args.bar.there c.args.bar.main) (fill 32 64)))
