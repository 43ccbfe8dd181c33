use Rattle.tabled_base.proofs.Names.{All, lengthened, texts_of, vec_capacity, ◌≡◌, ◌≤◌}
use Rattle.tabled_base.proofs.Lengthening.{mapped}
use Rattle.tabled_base.proofs.builder.lengthen_rows.Given as goal

abbrev pub invariant-loop-row : goal.invariant-loop-row
invariant-loop-row l = record {
  texts : texts_of (λ t. t) l.rows ≡ mapped (lengthened l.columns) l.row-index (texts_of (λ t. t) l.fn.rows);
  roomy : All (λ row. l.columns ≤ vec_capacity row) l.rows;
}
