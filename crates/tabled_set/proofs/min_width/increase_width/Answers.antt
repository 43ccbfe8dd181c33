use Rattle.tabled_set.proofs.Names.{IsGrownBy, List, Sheet, ap, arith, effective, err_from_is_err_and, false, inl, inr, is_empty, is_stored}
use Rattle.tabled_set.proofs.Names.{rules, subst, sum, total_width, ℕ, ◌-◌, ◌^◌, ◌≡◌, ◌≤◌}
use Rattle.tabled_set.proofs.PromisedSizes.{made-wider, wide-already, widths-fit}
use Rattle.tabled_set.proofs.NarrowingTables.{effective-filled, fails-lacking, if-err, stops-measuring}
use Rattle.tabled_set.proofs.min_width.increase_width.Goals as goal

pub returns-in_err-n-clause-err : goal.returns-in_err-n-clause-err
returns-in_err-n-clause-err g c =
    let p = err_from_is_err_and c.from_residual.result c.from_residual.ensures.1 in
    let some : is_empty (g.R.ExactRecords.cells c.args.records.now) ≡ false = search rules in
    rw p.1 (some, inl (stops-measuring p.0 _ c.args.sizes.now p.2 c.in_err-n.ensures.err.0))

pub returns-in_err-estimate-clause-err : goal.returns-in_err-estimate-clause-err
returns-in_err-estimate-clause-err g c =
    let old = c.args.sizes.now in
    let some : is_empty (g.R.ExactRecords.cells c.args.records.now) ≡ false = search rules in
    if-err _ c.from_residual-in_err-estimate.result _ c.from_residual-in_err-estimate.ensures.1
    (some, inl (record { lacking = λ _. fails-lacking (is_stored old) c.estimate.result _ c.estimate.ensures.stored c.in_err-estimate.was; same = c.in_err-estimate.ensures.err }))

pub returns-in_err-widths-clause-err : goal.returns-in_err-widths-clause-err
returns-in_err-widths-clause-err g c =
    let some : is_empty (g.R.ExactRecords.cells c.args.records.now) ≡ false = search rules in
    let range = c.in_err-widths.ensures.err.0 in
    if-err _ c.from_residual-in_err-widths.result _ c.from_residual-in_err-widths.ensures.1
    (some, inr (record { narrower = λ m. cc (m, range); filled = c.in_ok-estimate.ensures.ok }))

pub returns-in_err-widths-clause-only : goal.returns-in_err-widths-clause-only
returns-in_err-widths-clause-only g c =
    let cells = g.R.ExactRecords.cells c.args.records.now in
    let config = c.args.config.now in
    let some : is_empty cells ≡ false = search rules in
    let same = effective-filled cells config c.args.sizes.now c.estimate.new.self c.in_ok-estimate.ensures.ok in
    let wide = subst (λ (t : Sheet). 2 ^ 64 ≤ total_width t) same c.in_err-widths.ensures.err.1 in
    if-err _ c.from_residual-in_err-widths.result _ c.from_residual-in_err-widths.ensures.1
    (inr (c.in_err-widths.ensures.err.0, (some, inr (inr wide))))

pub returns-in_err-widths-2-clause-err : goal.returns-in_err-widths-2-clause-err
returns-in_err-widths-2-clause-err g c =
    let cells = g.R.ExactRecords.cells c.args.records.now in
    let config = c.args.config.now in
    let some : is_empty cells ≡ false = search rules in
    let same = ap total_width (effective-filled cells config c.args.sizes.now c.estimate.new.self c.in_ok-estimate.ensures.ok) in
    let total = c.in_ok-widths.ensures.total in
    if-err _ c.from_residual-in_err-widths-2.result _ c.from_residual-in_err-widths-2.ensures.1 (
      some,
      inr (record { narrower = λ _. omega (arith, same, total, c.in_ok-n.ensures.ok, c.if-n-total.false); filled = c.in_ok-estimate.ensures.ok }),
    )

pub returns-then-n-total-clause-ok : goal.returns-then-n-total-clause-ok
returns-then-n-total-clause-ok g c =
    let some : is_empty (g.R.ExactRecords.cells c.args.records.now) ≡ false = search rules in
    wide-already _ _ _ _ some c.in_ok-estimate.ensures.ok _ _ _
    (omega (arith, c.in_ok-n.ensures.ok, c.in_ok-widths.ensures.total, c.if-n-total.true))

pub grown-requires : goal.grown-requires
grown-requires g c =
    let cells = g.R.ExactRecords.cells c.args.records.now in
    let some : is_empty cells ≡ false = search rules in
    let total = c.in_ok-widths.ensures.total in
    let fits = widths-fit cells c.args.config.now c.estimate.new.self c.in_ok-n.n some (omega (arith, total, c.if-n-total.false)) (omega arith) in
    omega (arith, fits, total, ap sum c.in_ok-widths.ensures.widths)

pub returns-clause-ok : goal.returns-clause-ok
returns-clause-ok g c =
    let cells = g.R.ExactRecords.cells c.args.records.now in
    let config = c.args.config.now in
    let n = g.W.Measurement.measures c.args.option.size cells config in
    let t = effective cells config c.estimate.new.self in
    let some : is_empty cells ≡ false = search rules in
    let total = c.in_ok-widths.ensures.total in
    let list = c.in_ok-widths-2.widths.items in
    let grown = λ (ws : List ℕ) (by : ℕ). IsGrownBy g.P.Peaker.grows c.args.option.priority ws by list in
    made-wider _ _ _ _ some c.in_ok-estimate.ensures.ok _ _ n
    (omega (arith, c.in_ok-n.ensures.ok, total, c.if-n-total.false)) c.set_widths.new.self list
    (subst (λ k. grown t.widths (n - k)) total
    (subst (λ k. grown t.widths (k - c.in_ok-widths.total)) c.in_ok-n.ensures.ok
    (subst (λ ws. grown ws (c.in_ok-n.n - c.in_ok-widths.total)) c.in_ok-widths.ensures.widths c.in_ok-widths-2.ensures.grown)))
    c.set_widths.ensures.widths c.set_widths.ensures.heights
