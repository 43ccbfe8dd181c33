use Rattle.tabled_pool.proofs.Names.{append_assoc, coloured, finished, further, indent, refl, stopped, stopped-first, sym}
use Rattle.tabled_pool.specs.Colours.{mark_of, marks_of}
use Rattle.tabled_pool.proofs.PlainBlocks.{bare_line, inner_line}
use Rattle.tabled_pool.proofs.draw.draw_text_line.Goals as goal

pub returns-then-drawing : goal.returns-then-drawing
returns-then-drawing g c = λ whole e.
    let d = c.args.drawing.now in
    rw (bare_line d.style (marks_of d.padding_colors) c.args.width whole c.args.text.now.line.now _ _ (d.bare_padding c.if-drawing.true)
    (c.spaces_around-spaces.ensures.before whole e) c.spaces_around-spaces.ensures.behind) c.write_padded_text.ensures

pub returns-in_err-draw_colored_fill : goal.returns-in_err-draw_colored_fill
returns-in_err-draw_colored_fill g c = λ whole e. stopped-first _ _ _ c.in_err-draw_colored_fill.ensures c.from_residual.ensures.1 refl

pub returns-in_err-write_padded_text : goal.returns-in_err-write_padded_text
returns-in_err-write_padded_text g c = λ whole e.
    let d = c.args.drawing.now in
    let line = inner_line d.style c.args.width whole c.args.text.now.line.now _ _ (c.spaces_around-spaces.ensures.before whole e) c.spaces_around-spaces.ensures.behind in
    let sent = rw (c.filled-none.ensures, c.zero.ensures, ← line) at c.in_err-write_padded_text.ensures in
    stopped _ _ (coloured (mark_of d.padding_colors.right) (indent d.style.padding.right)) c.in_ok-draw_colored_fill.ensures sent
    c.from_residual-in_err-write_padded_text.ensures.1 refl

pub returns : goal.returns
returns g c = λ whole e.
    let d = c.args.drawing.now in
    let line = inner_line d.style c.args.width whole c.args.text.now.line.now _ _ (c.spaces_around-spaces.ensures.before whole e) c.spaces_around-spaces.ensures.behind in
    let sent = rw (c.filled-none.ensures, c.zero.ensures, ← line) at c.in_ok-write_padded_text.ensures in
    finished _ _ _ _ (further c.in_ok-draw_colored_fill.ensures sent refl) c.draw_colored_fill-2.ensures
    (sym (append_assoc (coloured (mark_of d.padding_colors.left) (indent d.style.padding.left)) _ _))
