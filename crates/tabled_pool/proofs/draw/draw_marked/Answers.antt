use Rattle.tabled_pool.proofs.Names.{append_assoc, finished, further, refl, stopped, stopped-first}
use Rattle.tabled_pool.proofs.draw.draw_marked.Goals as goal

pub returns-in_err-write_mark : goal.returns-in_err-write_mark
returns-in_err-write_mark g c =
    stopped-first _ _ _ c.in_err-write_mark.ensures c.from_residual.ensures.1 refl

pub returns-in_err-write_mark-2 : goal.returns-in_err-write_mark-2
returns-in_err-write_mark-2 g c =
    stopped _ _ _ c.in_ok-write_mark.ensures c.in_err-write_mark-2.ensures
    c.from_residual-in_err-write_mark-2.ensures.1 refl

pub returns-in_err-write_char : goal.returns-in_err-write_char
returns-in_err-write_char g c =
    stopped _ _ c.args.marks.behind.now (further c.in_ok-write_mark.ensures c.in_ok-write_mark-2.ensures refl)
    c.in_err-write_char.ensures c.from_residual-in_err-write_char.ensures.1 (simp append_assoc)

pub returns : goal.returns
returns g c =
    let opened = further c.in_ok-write_mark.ensures c.in_ok-write_mark-2.ensures refl in
    finished _ _ _ _ (further opened c.in_ok-write_char.ensures refl) c.write_mark-3.ensures
    (simp append_assoc)
