use Rattle.std.proofs.Common.{rules, refl}
use Rattle.std.proofs.lemmas.Option.{slice_get_read}
use Rattle.tabview_read.proofs.tables.TableListRows.read.Goals as goal

pub returns-in_ok-put_listed-in-Some : goal.returns-in_ok-put_listed-in-Some
returns-in_ok-put_listed-in-Some c = record {
  table = c.in-Some.table.now;
  next = let found = c.in-Some.ensures.lookup in slice_get_read c.args.self.now.tables.items _ c.args.self.now.next c.in-Some.table.now refl (search (rules, found)) (search (rules, found));
  cells = c.in_ok-put_listed-in-Some.ensures.cells c.clear.ensures.cells;
  nulls = c.in_ok-put_listed-in-Some.ensures.nulls c.clear.ensures.cells c.clear.ensures.nulls;
  rest = refl;
  read = search rules;
}
