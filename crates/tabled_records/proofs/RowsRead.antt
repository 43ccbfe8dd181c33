-- Rows that are read of an iterator.
use Rattle.tabled_records.proofs.Names.{All-head, All-tail, Count, Given, IsFinite, IsFiniteIterable, List, MayGive, None, Option, Reads}
use Rattle.tabled_records.proofs.Names.{ReadsTo, RowsBegin, Some, Yields-both, [], arith, false, length, length-append, refl, true, ℕ, ◌++◌}
use Rattle.tabled_records.proofs.Names.{◌<◌, ◌∷◌}
use Rattle.tabled_records.proofs.Runs.{zip_append}
use Rattle.tabled_records.specs.Reading.{ReadsSome}

module _ {S W T A : Type 0} {steps : S → Option W → S → Type 0} {becomes : W → T → Type 0} {cell_steps : T → Option A → T → Type 0} where
  pub reads-none : (a : S) → Reads steps becomes cell_steps a [] a
  reads-none a = record { lists = []; yielded = refl; each = tt }

  pub reads-one : {a b : S} {w : W} {items : List A} → steps a (Some w) b → Given becomes cell_steps w items → Reads steps becomes cell_steps a (items ∷ []) b
  reads-one {a} {b} {w} {items} s given = record { lists = w ∷ []; yielded = (b, s, refl); each = (given, tt) }

  pub reads-both : {a b c : S} {xs ys : List (List A)} → Reads steps becomes cell_steps a xs b → Reads steps becomes cell_steps b ys c
      → Reads steps becomes cell_steps a (xs ++ ys) c
  reads-both {a} {b} {c} {xs} {ys} p q = record {
    lists = p.lists ++ q.lists;
    yielded = Yields-both steps p.lists q.lists a b c p.yielded q.yielded;
    each = zip_append (Given becomes cell_steps) p.lists q.lists xs ys p.each q.each;
  }

  -- a further row
  pub reads-some : {a b c : S} {xs : List (List A)} {x : List A} (most : ℕ) → Reads steps becomes cell_steps a xs b
      → Reads steps becomes cell_steps b (x ∷ []) c → length xs < most → ReadsSome steps becomes cell_steps a most c
  reads-some {xs = xs} {x = x} most p q h = record {
    cells = xs ++ x ∷ [];
    reads = reads-both p q;
    some = omega (arith, length-append xs (x ∷ []));
    within = omega (arith, length-append xs (x ∷ []));
  }

  pub reads-begun : {V : Type 0} {rows_become : V → S → Type 0} {rows : V} {it to : S} {xs : List (List A)} → rows_become rows it
      → Reads steps becomes cell_steps it xs to → RowsBegin rows_become steps becomes cell_steps rows xs false
  reads-begun {it = it} {to = to} made r = record {
    lists = r.lists;
    iterator = it;
    made = made;
    reached = to;
    yielded = r.yielded;
    each = r.each;
    ended = λ e. absurd (cc);
  }

  pub reads-open : {a b : S} {xs : List (List A)} → Reads steps becomes cell_steps a xs b → ReadsTo steps becomes cell_steps a xs false b
  reads-open {b = b} p = record { reached = b; reads = p; ended = λ e. absurd (cc); further = λ _. refl }

  pub reads-whole : {a b c : S} {xs : List (List A)} → Reads steps becomes cell_steps a xs b → steps b None c → ReadsTo steps becomes cell_steps a xs true c
  reads-whole {b = b} p s = record { reached = b; reads = p; ended = λ _. s; further = λ e. absurd (cc) }

module _ {S W T : Type 0} {can : S → Type 0} {steps : S → Option W → S → Type 0} {left : S → Count} {becomes : W → T → Type 0}
    {can_cell : T → Type 0} {cells_left : T → Count} where
  pub may-cells : {a b : S} {w : W} → MayGive can steps left becomes can_cell cells_left a → steps a (Some w) b → IsFiniteIterable becomes can_cell cells_left w
  may-cells {a} {b} {w} m s = All-head (IsFiniteIterable becomes can_cell cells_left) w [] (m.each (w ∷ []) b (b, s, refl))

  pub may-step : {a b : S} {w : W} → MayGive can steps left becomes can_cell cells_left a → steps a (Some w) b → can b → IsFinite (left b)
      → MayGive can steps left becomes can_cell cells_left b
  may-step {a} {b} {w} m s c f = record {
    can = c;
    ends = f;
    each = λ xs t y. All-tail (IsFiniteIterable becomes can_cell cells_left) w xs (m.each (w ∷ xs) t (b, s, y));
  }
