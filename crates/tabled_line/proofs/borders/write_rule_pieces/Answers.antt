use Rattle.tabled_line.proofs.Names.{ap, append_assoc, arith, fill, flat_map, has_bar, piece, range_with_len, refl, rule_piece, sym}
use Rattle.tabled_line.proofs.Names.{unwrap_or, ◌++◌, ◌<◌, ◌∙◌}
use Rattle.tabled_line.proofs.Sending.{stopped, further, sends-along}
use Rattle.tabled_line.proofs.Each.{each-first, each-more, each-rest}
use Rattle.tabled_line.proofs.Bars.{no-piece}
use Rattle.tabled_line.proofs.borders.write_rule_pieces.Goals as goal

pub returns-in_err-write_bar : goal.returns-in_err-write_bar
unfolding rule_piece
returns-in_err-write_bar g c =
    let sheet = g.C.TableColumns.sheet c.args.columns.now in
    let line = c.args.line.now in
    let column = c.pieces.column in
    let drawn = c.count_drawn-column-end.ensures.within in
    let within : column < sheet.count = omega (arith, drawn, c.pieces-test.true) in
    stopped _ _ _ c.pieces.invariant (rw (c.has_bar-there.ensures, c.frame.ensures, c.unwrap_or.ensures) at c.in_err-write_bar.ensures) c.from_residual.ensures.1
    (each-rest (rule_piece sheet line) column sheet.count within
    ∙ ap (λ u. flat_map (rule_piece sheet line) (range_with_len 0 column) ++ u)
    (append_assoc (piece (has_bar sheet.frame column) (unwrap_or line.intersection 32)) (fill (unwrap_or line.main 32) (sheet.width column)) _))

pub returns-in_err-write_fill : goal.returns-in_err-write_fill
unfolding rule_piece
returns-in_err-write_fill g c =
    let sheet = g.C.TableColumns.sheet c.args.columns.now in
    let line = c.args.line.now in
    let column = c.pieces.column in
    let bar = piece (has_bar sheet.frame column) (unwrap_or line.intersection 32) in
    let before = flat_map (rule_piece sheet line) (range_with_len 0 column) in
    let drawn = c.count_drawn-column-end.ensures.within in
    let within : column < sheet.count = omega (arith, drawn, c.pieces-test.true) in
    stopped _ _ _
    (further c.pieces.invariant (rw (c.has_bar-there.ensures, c.frame.ensures, c.unwrap_or.ensures) at c.in_ok-write_bar.ensures) refl)
    (rw (c.unwrap_or-in-pieces.ensures, c.width.ensures) at c.in_err-write_fill.ensures) c.from_residual-in_err-write_fill.ensures.1
    (each-rest (rule_piece sheet line) column sheet.count within
    ∙ ap (λ u. before ++ u) (append_assoc bar (fill (unwrap_or line.main 32) (sheet.width column)) _)
    ∙ sym (append_assoc before bar _))

pub pieces-preserved : goal.pieces-preserved
unfolding rule_piece
pieces-preserved g c =
    let sheet = g.C.TableColumns.sheet c.args.columns.now in
    let line = c.args.line.now in
    let column = c.pieces.column in
    further
    (further c.pieces.invariant (rw (c.has_bar-there.ensures, c.frame.ensures, c.unwrap_or.ensures) at c.in_ok-write_bar.ensures) refl)
    (rw (c.unwrap_or-in-pieces.ensures, c.width.ensures) at c.in_ok-write_fill.ensures)
    (each-more (rule_piece sheet line) column
    ∙ sym (append_assoc _ (piece (has_bar sheet.frame column) (unwrap_or line.intersection 32)) (fill (unwrap_or line.main 32) (sheet.width column))))

pub returns : goal.returns
returns g c =
    let sheet = g.C.TableColumns.sheet c.args.columns.now in
    let drawn = c.count_drawn-column-end.ensures in
    let few = drawn.within in
    let reached = c.pieces.auto.column-end in
    sends-along _ _ _ _ c.pieces.invariant
    (sym (each-first (rule_piece sheet c.args.line.now) c.pieces.column sheet.count (omega (arith, few, reached))
    (λ k l m. let none = drawn.rest k (omega (arith, l)) m in no-piece sheet c.args.line.now k none.0 none.1)))
