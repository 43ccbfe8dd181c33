use Rattle.tabled_pool.proofs.Names.{append_assoc, fill, finished, further, refl, stopped, stopped-first, sym, ◌++◌}
use Rattle.tabled_pool.proofs.color_marks.draw_colored_fill.Goals as goal

pub returns-in_err-write_text : goal.returns-in_err-write_text
returns-in_err-write_text g c =
    let opened = rw c.get_prefix.ensures at c.in_err-write_text.ensures.written in
    stopped-first _ _ (fill c.args.c c.args.count ++ c.args.color.suffix.now) opened c.from_residual.ensures.1 refl

pub returns-in_err-write_fill : goal.returns-in_err-write_fill
returns-in_err-write_fill g c =
    let opened = rw c.get_prefix.ensures at c.in_ok-write_text.ensures.written in
    stopped _ _ c.args.color.suffix.now opened c.in_err-write_fill.ensures c.from_residual-in_err-write_fill.ensures.1 refl

pub returns : goal.returns
returns g c =
    let opened = rw c.get_prefix.ensures at c.in_ok-write_text.ensures.written in
    let closed = rw c.get_suffix.ensures at c.write_text-2.ensures.written in
    finished _ _ _ _ (further opened c.in_ok-write_fill.ensures refl) closed
    (sym (append_assoc c.args.color.prefix.now (fill c.args.c c.args.count) c.args.color.suffix.now))
