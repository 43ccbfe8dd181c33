use Rattle.tabled_entity.proofs.Names.{IsIndexed, reverse, take}
use Rattle.tabled_entity.proofs.entity_map.index_of.Given as goal

abbrev pub invariant-places : goal.invariant-places
invariant-places g l = IsIndexed l.places (reverse (take l.place l.changes))
