use Rattle.tabled_compact.proofs.Names.{[], above, ap, append-nil, append_assoc, begun_after, compact_columns, further, part_front, refl}
use Rattle.tabled_compact.proofs.Names.{row_front, stopped, stopped-first, ◌++◌, ◌∙◌, ◌≡◌}
use Rattle.tabled_line.specs.Leading.{break}
use Rattle.tabled_compact.proofs.rows.RowPrinter.begin_row.Goals as goal

pub returns-in_err-write_above-clause-put : goal.returns-in_err-write_above-clause-put
unfolding part_front
returns-in_err-write_above-clause-put g c =
    let t = c.args.self.now.lines.columns in
    let b = c.args.self.now.lines.begun in
    stopped-first _ _ (break (begun_after b (above t b)) ++ row_front t [] 0) c.in_err-write_above.ensures.printed.stops
    c.from_residual.ensures.1 refl

pub returns-in_err-begin_line-clause-put : goal.returns-in_err-begin_line-clause-put
unfolding part_front
returns-in_err-begin_line-clause-put g c =
    let t = c.args.self.now.lines.columns in
    stopped _ _ (row_front t [] 0) c.in_ok-write_above.ensures.printed.sends c.in_err-begin_line.ensures.printed
    c.from_residual-in_err-begin_line.ensures.1 (rw c.in_ok-write_above.ensures.printed.after refl)

pub returns-in_err-write_left_edge-clause-put : goal.returns-in_err-write_left_edge-clause-put
unfolding part_front row_front
returns-in_err-write_left_edge-clause-put g c =
    let t = c.args.self.now.lines.columns in
    let same = c.in_ok-begin_line.ensures.same ∙ c.in_ok-write_above.ensures.same in
    let frame : c.frame-frame.result.now ≡ (compact_columns t).frame = c.frame-frame.ensures ∙ ap (λ k. (compact_columns k).frame) same in
    stopped _ _ []
    (further c.in_ok-write_above.ensures.printed.sends c.in_ok-begin_line.ensures.printed refl) c.in_err-write_left_edge.ensures
    c.from_residual-in_err-write_left_edge.ensures.1
    (rw (c.in_ok-write_above.ensures.printed.after, frame) (simp append_assoc))

pub returns-clause-put : goal.returns-clause-put
unfolding part_front row_front
returns-clause-put g c =
    let t = c.args.self.now.lines.columns in
    let same = c.in_ok-begin_line.ensures.same ∙ c.in_ok-write_above.ensures.same in
    let frame : c.frame-frame.result.now ≡ (compact_columns t).frame = c.frame-frame.ensures ∙ ap (λ k. (compact_columns k).frame) same in
    further (further c.in_ok-write_above.ensures.printed.sends c.in_ok-begin_line.ensures.printed refl) c.in_ok-write_left_edge.ensures
    (rw (c.in_ok-write_above.ensures.printed.after, frame) (simp (append_assoc, append-nil)))
