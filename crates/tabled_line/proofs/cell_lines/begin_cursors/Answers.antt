use Rattle.tabled_line.proofs.Names.{IsCursor, arith, cases_eq, cursor_of, get_or-set_other, get_or-set_same, inl, inr, length}
use Rattle.tabled_line.proofs.Names.{length-set, nowhere, slice_set, subst, sym, ◌<◌, ◌∙◌}
use Rattle.tabled_line.proofs.cell_lines.begin_cursors.Goals as goal

pub columns-preserved : goal.columns-preserved
columns-preserved g c =
    let rs = g.R.Row.sheet c.args.row.now in
    let cursors = c.columns.cursors in
    let column = c.columns.column in
    let old = c.columns.invariant in
    let new = c.first_cursor.result in
    let inside : column < length cursors = omega (arith, old.same, c.columns-test.true) in
    record {
      same = length-set cursors column new ∙ old.same;
      begun = λ k within.
          elim (cases_eq k column) [
            | inl e ↦
                subst (λ j. IsCursor rs 0 j (cursor_of (slice_set cursors column new) j)) (sym e)
                (subst (IsCursor rs 0 column) (sym (get_or-set_same cursors column new nowhere inside)) c.first_cursor.ensures)
            | inr other ↦
                subst (IsCursor rs 0 k) (sym (get_or-set_other cursors column k new nowhere other)) (old.begun k (omega (arith, within, other)))
          ];
    }

pub returns : goal.returns
returns g c = λ column within. c.columns.invariant.begun column (omega (arith, within, c.columns-test.false, c.columns.invariant.same))
