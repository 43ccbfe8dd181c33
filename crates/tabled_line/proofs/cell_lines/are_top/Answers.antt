use Rattle.tabled_line.proofs.Names.{IsTop, arith, cases_eq, inl, inr, rules, subst, sym, ◌<◌, ◌∙◌}
use Rattle.tabled_line.proofs.cell_lines.are_top.Goals as goal

pub columns-preserved : goal.columns-preserved
columns-preserved g c = λ k within.
    let rs = g.R.Row.sheet c.args.row.now in
    let column = c.columns.column in
    let inside : column < rs.columns.count = omega (arith, c.columns-test.true, c.count_columns-column-end.ensures) in
    let own : IsTop (rs.style column) = subst IsTop (c.at.ensures ∙ c.styles-styles.ensures column inside) (c.is_top-in-columns.ensures (let h = c.if-not-is_top.false in search rules)) in
    elim (cases_eq k column) [
      | inl e ↦ subst (λ j. IsTop (rs.style j)) (sym e) own
      | inr other ↦ c.columns.invariant k (omega (arith, within, other))
    ]
