use Rattle.tabled_base.proofs.Names.{Cell, [], ap, append_assoc, arith, between, map, sym, ◌++◌, ◌∙◌, ◌∷◌}
use Rattle.tabled_base.proofs.PickedCells.{between-end, map-between_more}
use Rattle.tabled_base.proofs.segment.push_row.Goals as goal

pub loop-column-preserved : goal.loop-column-preserved
loop-column-preserved c =
    let old = c.args.all.now.items in
    let from = c.args.columns.0 in
    let to = c.loop-column.column in
    let cell = Cell c.args.row in
    record {
      items =
          c.in_ok-push.ensures.items ∙ ap (λ l. l ++ cell to ∷ []) c.loop-column.invariant.items
          ∙ append_assoc old (map cell (between from to)) (cell to ∷ [])
          ∙ ap (λ l. old ++ l) (sym (map-between_more cell from to (omega arith)));
      reached = omega arith;
    }

pub returns-clause-ok : goal.returns-clause-ok
returns-clause-ok c =
    let old = c.args.all.now.items in
    let from = c.args.columns.0 in
    let cell = Cell c.args.row in
    c.loop-column.invariant.items ∙ ap (λ l. old ++ map cell l) (between-end from c.loop-column.column c.args.columns.1 (omega arith))
