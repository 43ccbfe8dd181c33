use Rattle.tabled_line.proofs.Names.{AreAt, IsAhead, IsAt, ap, arith, cases_eq, cursor_of, fill_above, get_or-set_other}
use Rattle.tabled_line.proofs.Names.{get_or-set_same, inl, inr, length, length-set, nowhere, slice_set, subst, sym, ◌+◌, ◌-◌, ◌<◌, ◌∙◌}
use Rattle.tabled_line.proofs.Names.{◌≡◌}
use Rattle.std.proofs.lemmas.List.{get_or_default}
use Rattle.tabled_line.proofs.cell_lines.advance_cursors.Goals as goal

pub returns-then-index-eq0 : goal.returns-then-index-eq0
returns-then-index-eq0 c = λ row at.
    let same : c.args.index - 1 ≡ c.args.index = omega (arith, c.if-index-eq0.true) in
    subst (λ i. AreAt row i c.args.cursors.now) same at

pub columns-preserved : goal.columns-preserved
columns-preserved c =
    let cursors = c.columns.cursors in
    let column = c.columns.column in
    let old = c.columns.invariant in
    let new = c.advance.new.self in
    let inside : column < length cursors = omega (arith, old.same, c.columns-test.true) in
    record {
      same = length-set cursors column new ∙ old.same;
      moved = λ k within text above index ahead.
          elim (cases_eq k column) [
            | inl e ↦
                let is : cursor_of (slice_set cursors column new) k ≡ new =
                ap (λ j. cursor_of (slice_set cursors column new) j) e ∙ get_or-set_same cursors column new nowhere inside in
                let was = sym (ap (λ j. cursor_of c.args.cursors.now j) e ∙ sym (old.left column (omega arith))) in
                subst (IsAt text above index) (sym is) (c.advance.ensures text above index (subst (IsAhead text above index) (sym was ∙ get_or_default cursors column nowhere c.index-cursors-column.result inside) ahead))
            | inr other ↦
                subst (IsAt text above index) (sym (get_or-set_other cursors column k new nowhere other))
                (old.moved k (omega (arith, within, other)) text above index ahead)
          ];
      left = λ k after.
          let other : (k ≡ column) → ⊥ = λ e. omega (arith, e, after) in
          get_or-set_other cursors column k new nowhere other ∙ old.left k (omega (arith, after));
    }

pub returns : goal.returns
returns c = λ row at column within.
    let all = c.columns.invariant in
    let next : c.args.index - 1 + 1 ≡ c.args.index = omega (arith, c.if-index-eq0.false) in
    let inside : column < length c.args.cursors.now = omega (arith, all.same, within) in
    let reached : column < c.columns.column = omega (arith, c.columns-test.false, all.same, within) in
    let text = row.text column in
    let above = fill_above (row.style column) row.height text in
    subst (λ i. IsAt text above i (cursor_of c.columns.cursors column)) next
    (all.moved column reached text above (c.args.index - 1 + 1) (at column inside).ahead)
