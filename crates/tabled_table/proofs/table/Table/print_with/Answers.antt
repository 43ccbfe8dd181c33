use Rattle.tabled_table.proofs.Names.{ap, is_some, nat_lt, not, overridden_sheet, shown_config, sym, ◌||◌, ◌∙◌}
use Rattle.tabled_grid.proofs.Printing.{prints_nothing}
use Rattle.tabled_table.proofs.Shown.{prints_changed, prints_unchanged, refused_missing}
use Rattle.tabled_table.proofs.table.Table.print_with.Goals as goal

pub returns-then-is_empty-clause-printed : goal.returns-then-is_empty-clause-printed
returns-then-is_empty-clause-printed g c =
    prints_nothing (overridden_sheet c.args.self.now c.args.width c.args.align c.args.fill) _ (sym c.is_empty.ensures.value ∙ c.if-is_empty.true)

pub returns-in_err-missing-clause-printed : goal.returns-in_err-missing-clause-printed
returns-in_err-missing-clause-printed g c =
    refused_missing c.args.self.now c.args.width c.args.align c.args.fill _ c.from_residual.result _
    (sym c.is_empty.ensures.value ∙ c.if-is_empty.false) c.in_err-missing.ensures.err c.from_residual.ensures.1

pub returns-then-missing-eq0-clause-printed : goal.returns-then-missing-eq0-clause-printed
returns-then-missing-eq0-clause-printed g c =
    let none = c.is_none.ensures ∙ ap not c.if-is_none.true in
    prints_unchanged c.args.self.now c.args.width c.args.align c.args.fill _ _ c.write_to.result
    (ap (λ n. is_some c.args.align || nat_lt 0 n) (sym c.in_ok-missing.ensures.ok ∙ c.if-missing-eq0.true) ∙ ap (λ b. b || nat_lt 0 0) none)
    c.write_to.ensures.printed

pub returns-clause-printed : goal.returns-clause-printed
returns-clause-printed g c =
    prints_changed c.args.self.now c.args.width c.args.align c.args.fill _ _ c.print_standing.result c.in_ok-config.config
    (c.in_ok-config.ensures.ok
    ∙ ap (λ k. shown_config k c.args.align c.args.fill c.in_ok-missing.missing) c.as_ref.ensures
    ∙ ap (λ n. shown_config c.args.self.now.config.config c.args.align c.args.fill n) c.in_ok-missing.ensures.ok)
    c.print_standing.ensures
