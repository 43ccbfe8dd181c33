use Rattle.tabled_compact.proofs.Names.{ap, arith, subst, sum_below, sym, ℕ, ◌*◌, ◌+◌, ◌-◌, ◌∙◌, ◌≡◌, ◌≤◌}
use Rattle.std.proofs.Common.{◌≢◌, MatchOption}
use Rattle.tabled_compact.proofs.Widths.{sum-alike}
use Rattle.tabled_compact.proofs.sizes.sum_widths.Goals as goal

pub returns : goal.returns
returns g c =
    let sheet = g.C.TableColumns.sheet c.args.columns.now in
    let known = c.min-known.result in
    let times = c.count_columns-count.result - known in
    let within : known ≤ sheet.count = omega (arith, c.min-known.ensures, c.count_columns-count.ensures) in
    let apart : known ≢ sheet.count = λ e. c.if-known-count.false (e ∙ sym c.count_columns-count.ensures) in
    let end : sheet.count ≡ known + times = omega (arith, within, c.count_columns-count.ensures) in
    let from : c.alike_from.result ≡ known = omega (arith, c.min-known.ensures, apart, c.count_columns-count.ensures) in
    let summed : c.columns.total ≡ sum_below sheet.width known =
    c.columns.invariant ∙ ap (sum_below sheet.width) (let e : c.columns.column ≡ known = omega arith in e) in
    let alike = rw from at c.alike_from.ensures in
    let whole : sum_below sheet.width sheet.count ≡ c.columns.total + times * c.width-last.result =
    ap (sum_below sheet.width) end
    ∙ sum-alike sheet.width known times (sheet.width known) (λ k l m. alike k l (omega (arith, end, m)))
    ∙ ap (λ s. s + times * sheet.width known) (sym summed)
    ∙ ap (λ w. c.columns.total + times * w) (sym c.width-last.ensures) in
    subst (λ (k : ℕ). MatchOption c.add_times.result (18446744073709551616 ≤ k) (λ n. n ≡ k)) (sym whole) c.add_times.ensures
