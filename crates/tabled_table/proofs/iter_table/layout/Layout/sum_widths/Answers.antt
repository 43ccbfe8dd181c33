use Rattle.tabled_table.proofs.Names.{MatchOption, ap, arith, get_or_past, length, min, subst, sum_below, sum_step, sym, width_at}
use Rattle.tabled_table.proofs.Names.{ℕ, ◌*◌, ◌+◌, ◌-◌, ◌∙◌, ◌≡◌, ◌≤◌}
use Rattle.tabled_table.proofs.Stream.Widths.{none-of, sum-widths}
use Rattle.tabled_table.proofs.iter_table.layout.Layout.sum_widths.Goals as goal

pub returns-in_err-last : goal.returns-in_err-last
returns-in_err-last c =
    let layout = c.args.self.now in
    let known = c.min-known.result in
    let first : known ≡ min layout.count (length layout.contents.items) = omega (arith, c.min-known.ensures, c.len.ensures, layout.contents.ok.0) in
    let step = sum_step (width_at layout) known layout.count (omega (arith, c.if-known-self.false)) in
    let here = get_or_past layout.contents.items known layout.rest (omega (arith, c.if-known-self.false)) in
    none-of c.from_residual-in_err-last.result _ c.from_residual-in_err-last.ensures (omega (arith, step, here, c.in_err-last.ensures))

pub returns : goal.returns
returns c =
    let layout = c.args.self.now in
    let known = c.min-known.result in
    let sum = c.columns.sum in
    let first : known ≡ min layout.count (length layout.contents.items) = omega (arith, c.min-known.ensures, c.len.ensures, layout.contents.ok.0) in
    let e = sum-widths layout known (layout.count - known) first (omega arith) in
    let all : sum ≡ sum_below (width_at layout) known =
    c.columns.invariant ∙ ap (sum_below (width_at layout)) (let z : c.columns.column ≡ known = omega arith in z) in
    let same = ap (λ s. s + (layout.count - known) * (layout.rest + layout.side)) all ∙ sym e in
    let each = ap (λ w. sum + (layout.count - known) * w) c.in_ok-last.ensures.1 in
    subst (λ (k : ℕ). MatchOption c.add_times.result (18446744073709551616 ≤ k) (λ n. n ≡ k)) (each ∙ same) c.add_times.ensures
