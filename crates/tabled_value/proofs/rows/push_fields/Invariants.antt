use Rattle.tabled_value.proofs.Names.{cow_str_bytes, into_iter_items, into_iter_len, iter_rest, length, map, pairs, row_texts, zip_first}
use Rattle.tabled_value.proofs.Names.{zip_second, ◌++◌, ◌≡◌}
use Rattle.tabled_value.proofs.rows.push_fields.Given as goal

-- what stands and what is to come is what stood and all pairs; the texts to come are counted
abbrev pub invariant-fields : goal.invariant-fields
invariant-fields l =
    (row_texts l.rows.items
    ++ pairs (map cow_str_bytes (iter_rest (zip_first l.name-iterator))) (map cow_str_bytes (into_iter_items (zip_second l.name-iterator)))
    ≡ row_texts l.initial.rows.items ++ pairs (map cow_str_bytes l.names) (map cow_str_bytes l.fn.texts.items))
    × (length (into_iter_items (zip_second l.name-iterator)) ≡ into_iter_len (zip_second l.name-iterator))
