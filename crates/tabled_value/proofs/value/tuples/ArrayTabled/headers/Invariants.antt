use Rattle.tabled_value.proofs.Names.{cow_str_bytes, map, range_with_len, vec_len, ◌≡◌}
use Rattle.std.specs.Prelude.{decimal}
use Rattle.tabled_value.proofs.value.tuples.ArrayTabled.headers.Given as goal

abbrev pub invariant-places : goal.invariant-places
invariant-places g l = record {
  texts : map cow_str_bytes l.names.items ≡ map decimal (range_with_len 0 l.place-counter);
  length : vec_len l.names ≡ l.place-counter;
}
