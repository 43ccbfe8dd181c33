use Rattle.tabled_compact.proofs.Names.{ap, append_assoc, arith, compact_columns, finished, further, part_front, right_edge, stopped, sym, ◌++◌}
use Rattle.tabled_compact.proofs.Names.{◌+◌, ◌<◌, ◌∙◌, ◌≤◌}
use Rattle.tabled_compact.proofs.RowPieces.{front-drawn, front-missing, front-rest, front-whole}
use Rattle.tabled_compact.proofs.columns.CompactColumns.end_row.Goals as goal

pub columns-init : goal.columns-init
columns-init g c = λ start begun row e h. h

pub returns-in_err-write_cell : goal.returns-in_err-write_cell
returns-in_err-write_cell g c = λ start begun row e h.
    let t = c.args.self.now in
    let n = c.columns.column in
    let after : c.args.from ≤ n = c.columns.auto.column in
    let drawn = c.count_drawn_cells.ensures.within in
    let within : n < t.count = omega (arith, c.max-end.ensures, c.columns-test.true, c.requires) in
    let rest = front-rest t begun row (n + 1) (omega arith) in
    stopped _ _ rest.0 (c.columns.invariant start begun row e h) c.in_err-write_cell.ensures c.from_residual.ensures.1
    (rest.1 ∙ ap (λ u. u ++ rest.0) (front-missing t begun row c.args.from n e after within)
    ∙ append_assoc (part_front t begun row n) _ rest.0)

pub columns-preserved : goal.columns-preserved
columns-preserved g c = λ start begun row e h.
    let t = c.args.self.now in
    let n = c.columns.column in
    let after : c.args.from ≤ n = c.columns.auto.column in
    let drawn = c.count_drawn_cells.ensures.within in
    let within : n < t.count = omega (arith, c.max-end.ensures, c.columns-test.true, c.requires) in
    further (c.columns.invariant start begun row e h) c.in_ok-write_cell.ensures
    (front-missing t begun row c.args.from n e after within)

pub returns : goal.returns
returns g c = λ start begun row e h.
    let t = c.args.self.now in
    let n = c.columns.column in
    let after : c.args.from ≤ n = c.columns.auto.column in
    let upto = c.columns.auto.column-end in
    let drawn = c.count_drawn_cells.ensures in
    let few = drawn.within in
    let within : n ≤ t.count = omega (arith, c.max-end.ensures, upto, c.requires) in
    finished _ _ _ _ (c.columns.invariant start begun row e h) c.write_right_edge.ensures
    (front-whole t begun row
    ∙ ap (λ u. u ++ (let f = (compact_columns t).frame in right_edge f f.right.main))
    (front-drawn t begun row c.args.from n e after within
    (λ k p q. drawn.rest k (omega (arith, c.max-end.ensures, c.columns-test.false, p)) q))
    ∙ ap (λ f. part_front t begun row n ++ right_edge f f.right.main) (sym c.frame-frame.ensures))
