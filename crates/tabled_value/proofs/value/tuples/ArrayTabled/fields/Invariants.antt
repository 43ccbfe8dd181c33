use Rattle.tabled_value.proofs.Names.{AllZip, Says, cow_str_bytes, map, take, vec_len, ◌≡◌}
use Rattle.tabled_value.proofs.value.tuples.ArrayTabled.fields.Given as goal

abbrev pub invariant-items : goal.invariant-items
invariant-items g l = record {
  texts : AllZip (λ item text. Says (g.T.Display.output item) text) (take l.item-index l.self) (map cow_str_bytes l.texts.items);
  length : vec_len l.texts ≡ l.item-index;
}
