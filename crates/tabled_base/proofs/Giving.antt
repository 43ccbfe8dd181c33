-- What cells give to a builder, where it is known what their iterator gives.
use Rattle.tabled_base.proofs.Names.{Given, List, Option, YieldsList, map, ◌≡◌}
use Rattle.std.proofs.lemmas.Iterator.{items_from_drains}

-- the items of cells whose every iterator gives one list
pub given_items : {U S A B : Type 0} {becomes : U → S → Type 0} {steps : S → Option A → S → Type 0} {cells : U}
    {items : List A} {v : A → B} {all : List B} → Given becomes steps cells items
    → ((it : S) → becomes cells it → YieldsList steps v it all) → map v items ≡ all
given_items {items = items} given road =
    let d = given.drained in
    items_from_drains items (d.1.0, d.1.1, λ _. (d.0, d.1.2)) (road given.iterator given.made)
