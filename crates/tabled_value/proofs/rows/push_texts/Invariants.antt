use Rattle.tabled_value.proofs.Names.{cow_str_bytes, length, map, vec_len, ◌++◌, ◌+◌, ◌≡◌}
use Rattle.tabled_value.proofs.rows.push_texts.Given as goal

abbrev pub invariant-texts : goal.invariant-texts
invariant-texts l = record {
  texts : l.row.items ≡ l.initial.row.items ++ map cow_str_bytes l.yielded;
  length : vec_len l.row ≡ vec_len l.initial.row + length l.yielded;
}
