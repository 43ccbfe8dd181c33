use Rattle.tabled_set.proofs.Names.{IfErr, IfErr-weaker, Memory, NarrowingOutOfRange, Range, err_from_is_err_and, false, inl, is_empty}
use Rattle.tabled_set.proofs.Names.{is_stored, rules, subst, ℕ, ◌≡◌, ◌⊎◌}
use Rattle.std.proofs.lemmas.Result.{IfOk-weaker}
use Rattle.tabled_set.proofs.NarrowingTables.{early-wider, fails-lacking, fits-already, has-widths, if-err, passes-before, stops-measuring}
use Rattle.tabled_set.proofs.narrowing.wanted_widths.Goals as goal

pub returns-in_err-n-clause-err : goal.returns-in_err-n-clause-err
returns-in_err-n-clause-err g c =
    let p = err_from_is_err_and c.from_residual.result c.from_residual.ensures.1 in
    let some : is_empty (g.R.ExactRecords.cells c.args.records.now) ≡ false = search rules in
    rw p.1 (record { some = some; left = inl (stops-measuring p.0 _ c.args.sizes.now p.2 c.in_err-n.ensures.err.0) })

pub returns-in_err-estimate-clause-err : goal.returns-in_err-estimate-clause-err
returns-in_err-estimate-clause-err g c =
    let old = c.args.sizes.now in
    let some : is_empty (g.R.ExactRecords.cells c.args.records.now) ≡ false = search rules in
    if-err _ c.from_residual-in_err-estimate.result _ c.from_residual-in_err-estimate.ensures.1
    (record {
      some = some;
      left = inl (record { lacking = λ _. fails-lacking (is_stored old) c.estimate.result _ c.estimate.ensures.stored c.in_err-estimate.was; same = c.in_err-estimate.ensures.err });
    })

pub returns-clause-none : goal.returns-clause-none
returns-clause-none g c =
    let some : is_empty (g.R.ExactRecords.cells c.args.records.now) ≡ false = search rules in
    IfOk-weaker c.narrowed_widths.result _ _ (fits-already _ c.in_ok-n.n _ _ _ _ c.in_ok-n.ensures.ok some c.in_ok-estimate.ensures.ok _) c.narrowed_widths.ensures.ok

pub returns-clause-some : goal.returns-clause-some
returns-clause-some g c =
    let some : is_empty (g.R.ExactRecords.cells c.args.records.now) ≡ false = search rules in
    IfOk-weaker c.narrowed_widths.result _ _
    (has-widths _ c.in_ok-n.n _ _ _ _ c.in_ok-n.ensures.ok some c.in_ok-estimate.ensures.ok g.P.Peaker.shrinks c.args.priority _)
    c.narrowed_widths.ensures.ok

pub returns-clause-err : goal.returns-clause-err
returns-clause-err g c =
    let some : is_empty (g.R.ExactRecords.cells c.args.records.now) ≡ false = search rules in
    early-wider _ c.in_ok-n.n _ _ _ _ c.in_ok-n.ensures.ok some c.in_ok-estimate.ensures.ok c.narrowed_widths.result c.narrowed_widths.ensures.wider

pub returns-clause-only : goal.returns-clause-only
returns-clause-only g c =
    let cells = g.R.ExactRecords.cells c.args.records.now in
    let config = c.args.config.now in
    let old = c.args.sizes.now in
    let over = g.W.Measurement.out_of_range c.args.size.now cells config in
    let some : is_empty cells ≡ false = search rules in
    let r = c.narrowed_widths.result in
    subst (λ (n : ℕ). IfErr r (λ e. (e ≡ Memory) ⊎ ((e ≡ Range) × NarrowingOutOfRange over n cells config old))) c.in_ok-n.ensures.ok
    (IfErr-weaker r _ _ (λ e h. passes-before over c.in_ok-n.n cells config old c.estimate.new.self e some c.in_ok-estimate.ensures.ok h) c.narrowed_widths.ensures.err)
