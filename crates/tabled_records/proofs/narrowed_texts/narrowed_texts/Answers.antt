use Rattle.tabled_records.proofs.Names.{ap, arith, length, refl, subst, ◌∙◌}
use Rattle.tabled_records.proofs.Joining.{on-err}
use Rattle.tabled_records.proofs.ToldTexts.{known-none}
use Rattle.tabled_records.specs.NarrowedTexts.{AreKnown}
use Rattle.tabled_records.proofs.narrowed_texts.narrowed_texts.Goals as goal

pub rows-init : goal.rows-init
rows-init g c = record {
  narrowing = refl;
  widths = refl;
  known = known-none (g.N.Narrowing.makes c.args.narrowing) (g.N.Narrowing.tells c.args.narrowing) c.args.widths.now c.args.rows.now _ c.new-3.ensures;
  count = ap length c.new-3.ensures;
}

pub rows-preserved : goal.rows-preserved
rows-preserved g c =
    let i = c.rows.invariant in
    let rows = c.args.rows.now in
    let new = c.push_row.new.self.texts in
    record {
      narrowing = c.in_ok-push_row.ensures.narrowing ∙ i.narrowing;
      widths = ap (λ widths. widths.now) c.in_ok-push_row.ensures.widths ∙ i.widths;
      known = subst (λ by. AreKnown (g.N.Narrowing.makes by) (g.N.Narrowing.tells by) c.args.widths.now rows new) i.narrowing
          (subst (λ widths. AreKnown (g.N.Narrowing.makes c.rows.narrower.narrowing) (g.N.Narrowing.tells c.rows.narrower.narrowing) widths rows new) i.widths
          c.in_ok-push_row.ensures.known);
      count = c.in_ok-push_row.ensures.next;
    }

pub returns-in_err-push_row-clause-some : goal.returns-in_err-push_row-clause-some
returns-in_err-push_row-clause-some g c = on-err c.from_residual.result (omega (arith, c.rows-test.true, c.count_rows-row-end.ensures))

pub returns-clause-known : goal.returns-clause-known
returns-clause-known g c = c.rows.invariant.known

pub returns-clause-count : goal.returns-clause-count
returns-clause-count g c =
    let i = c.rows.invariant in
    omega (arith, i.count, c.rows-test.false, c.rows.auto.row-end, c.count_rows-row-end.ensures)
