-- That the numbers of a value can be written has one proof.
use Rattle.std.specs.Coded.{×_prop, Unit-prop, Coded-set, coded_option, coded_list, coded_ℕ}
use Rattle.json.specs.Json.{Json, null, boolean, number, string, array, object, Items, no_items, item, Members, no_members, member}
use Rattle.json.specs.Tree.{HasNumbers, ItemsHaveNumbers, MembersHaveNumbers}

mutual
  pub HasNumbers-prop : (j : Json) → IsProp (HasNumbers j)
  HasNumbers-prop null = Unit-prop
  HasNumbers-prop (boolean b) = Unit-prop
  HasNumbers-prop (number s) = Coded-set (coded_option (coded_list coded_ℕ)) _ _
  HasNumbers-prop (string s) = Unit-prop
  HasNumbers-prop (array js) = ItemsHaveNumbers-prop js
  HasNumbers-prop (object ms) = MembersHaveNumbers-prop ms

  pub ItemsHaveNumbers-prop : (js : Items) → IsProp (ItemsHaveNumbers js)
  ItemsHaveNumbers-prop no_items = Unit-prop
  ItemsHaveNumbers-prop (item j js) = ×_prop (HasNumbers-prop j) (ItemsHaveNumbers-prop js)

  pub MembersHaveNumbers-prop : (ms : Members) → IsProp (MembersHaveNumbers ms)
  MembersHaveNumbers-prop no_members = Unit-prop
  MembersHaveNumbers-prop (member k j ms) = ×_prop (HasNumbers-prop j) (MembersHaveNumbers-prop ms)
