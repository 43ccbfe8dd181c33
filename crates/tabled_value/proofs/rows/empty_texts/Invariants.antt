use Rattle.tabled_value.proofs.Names.{[], cow_str_bytes, map, vec_len, ◌≡◌}
use Rattle.std.proofs.Common.{replicate}
use Rattle.tabled_value.proofs.rows.empty_texts.Given as goal

abbrev pub invariant-empty : goal.invariant-empty
invariant-empty l = record {
  texts : map cow_str_bytes l.texts.items ≡ replicate l._field [];
  length : vec_len l.texts ≡ l._field;
}
