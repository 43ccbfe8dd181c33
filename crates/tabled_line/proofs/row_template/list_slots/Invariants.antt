use Rattle.tabled_line.proofs.Names.{map, offset_at, range_with_len, slot_at, ◌≡◌}
use Rattle.tabled_line.proofs.row_template.list_slots.Given as goal

abbrev pub invariant-slots : goal.invariant-slots
invariant-slots g l = record {
  listed : l.slots.items ≡ map (slot_at (g.C.TableColumns.sheet l.columns)) (range_with_len 0 l.column);
  next : l.place ≡ offset_at (g.C.TableColumns.sheet l.columns) l.column;
}
