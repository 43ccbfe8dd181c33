use Rattle.tabled_base.proofs.Names.{Global, List, Vec, ap, arith, row_texts, vec_capacity, vec_len, ℕ, ◌∙◌}
use Rattle.tabled_base.proofs.RowLemmas.{texts_kept, roomy-more, short_row}
use Rattle.tabled_base.proofs.Lengthening.{on-err}
use Rattle.tabled_base.proofs.builder.reserve_rows.Goals as goal

pub returns-in_err-reserve-clause-items : goal.returns-in_err-reserve-clause-items
returns-in_err-reserve-clause-items c =
    texts_kept (λ t. t) c.loop-row.rows c.loop-row.row-index c.reserve.new.self c.row-item.result (omega arith) c.reserve.ensures.items
    ∙ c.loop-row.invariant.texts

pub returns-in_err-reserve-clause-short : goal.returns-in_err-reserve-clause-short
returns-in_err-reserve-clause-short c =
    on-err c.from_residual.result
    (short_row c.args.columns c.loop-row.rows (row_texts c.args.rows.now) c.loop-row.row-index c.row-item.result (omega arith)
    c.loop-row.invariant.texts c.row-item.is (omega (arith, c.in_err-reserve.ensures.full, ap (λ (v : Vec (List ℕ) Global). vec_len v) c.row-item.is, ap (λ (v : Vec (List ℕ) Global). vec_capacity v) c.row-item.is)))

pub loop-row-preserved : goal.loop-row-preserved
loop-row-preserved c = record {
  texts =
      texts_kept (λ t. t) c.loop-row.rows c.loop-row.row-index c.reserve.new.self c.row-item.result (omega arith) c.reserve.ensures.items
      ∙ c.loop-row.invariant.texts;
  roomy =
      roomy-more c.args.columns c.loop-row.rows c.loop-row.row-index c.reserve.new.self (omega arith) c.loop-row.invariant.roomy
      (omega (arith, c.in_ok-reserve.ensures.ok));
}
