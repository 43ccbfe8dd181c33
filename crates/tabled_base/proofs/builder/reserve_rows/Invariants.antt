use Rattle.tabled_base.proofs.Names.{Global, List, Vec, slice_index_or, texts_of, vec_capacity, ℕ, ◌<◌, ◌≡◌, ◌≤◌}
use Rattle.tabled_base.proofs.builder.reserve_rows.Given as goal

abbrev pub invariant-loop-row : goal.invariant-loop-row
invariant-loop-row l = record {
  texts : texts_of (λ t. t) l.rows ≡ texts_of (λ t. t) l.fn.rows;
  roomy : (k : ℕ) (d : Vec (List ℕ) Global) → k < l.row-index → l.columns ≤ vec_capacity (slice_index_or l.rows k d);
}
