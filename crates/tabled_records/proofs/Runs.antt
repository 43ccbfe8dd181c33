-- Runs of rows, and rows that are made of those of a source, one of each.
use Rattle.tabled_records.proofs.Names.{All, All-cons, All-head, All-nil, All-tail, AllZip, AreChanged, Bool, Count, Given, IsFinite}
use Rattle.tabled_records.proofs.Names.{IsFiniteIterable, List, Option, RowsBegin, RowsEnd, RowsGiven, Yields, [], ap, map, refl, subst}
use Rattle.tabled_records.proofs.Names.{sym, true, ◌++◌, ◌∙◌, ◌∷◌, ◌≡◌}
use Rattle.tabled_records.specs.Views.{RowOfRow}

-- lists that go together, with others behind them
pub zip_append : {X Y : Type 0} (R : X → Y → Type 0) (xs us : List X) (ys vs : List Y) → AllZip R xs ys → AllZip R us vs → AllZip R (xs ++ us) (ys ++ vs)
zip_append R [] us [] vs h k = k
zip_append R [] us (y ∷ ys) vs h k = absurd h
zip_append R (x ∷ xs) us [] vs h k = absurd h
zip_append R (x ∷ xs) us (y ∷ ys) vs h k = (h.0, zip_append R xs us ys vs h.1 k)

-- what holds of the elements of one list holds, changed, of those of the other
pub zip_all : {X Y : Type 0} (R : X → Y → Type 0) (P : X → Type 0) (Q : Y → Type 0) → ((x : X) (y : Y) → R x y → P x → Q y)
    → (xs : List X) (ys : List Y) → AllZip R xs ys → All P xs → All Q ys
zip_all R P Q f [] [] h k = All-nil Q
zip_all R P Q f [] (y ∷ ys) h k = absurd h
zip_all R P Q f (x ∷ xs) [] h k = absurd h
zip_all R P Q f (x ∷ xs) (y ∷ ys) h k =
    All-cons Q y ys (f x y h.0 (All-head P x xs k)) (zip_all R P Q f xs ys h.1 (All-tail P x xs k))

-- of elements behind others
pub all_behind : {X : Type 0} (P : X → Type 0) (xs ys : List X) → All P (xs ++ ys) → All P ys
all_behind P [] ys h = h
all_behind P (x ∷ xs) ys h = all_behind P xs ys (All-tail P x (xs ++ ys) h)

-- rows that are given come first, and are the whole
pub given_whole : {V S W T A : Type 0} {rows_become : V → S → Type 0} {row_steps : S → Option W → S → Type 0}
    {cells_become : W → T → Type 0} {cell_steps : T → Option A → T → Type 0} {rows : V} {cells : List (List A)}
    → RowsGiven rows_become row_steps cells_become cell_steps rows cells → RowsBegin rows_become row_steps cells_become cell_steps rows cells true
given_whole g =
    record {
      lists = g.lists;
      iterator = g.all.iterator;
      made = g.all.made;
      reached = g.all.drained.1.0;
      yielded = g.all.drained.1.1;
      each = g.each;
      ended = λ _. (g.all.drained.0, g.all.drained.1.2);
    }

-- a state `N` that walks the rows of `S`, and makes of each another one by a relation that a setting tells
module _ {N S P W X : Type 0} (inner : N → S) (setting : N → P) (steps : S → Option W → S → Type 0) (makes : P → W → X → Type 0) where
  abbrev pub made_steps : N → Option X → N → Type 0
  made_steps s r t = (setting t ≡ setting s) × RowOfRow steps (makes (setting s)) (inner s) r (inner t)

  -- the rows that were walked, and what was made of them
  pub made_run : (s t : N) (xs : List X) → Yields made_steps s xs t
      → (lists : List W) × Yields steps (inner s) lists (inner t) × AllZip (makes (setting s)) lists xs
  made_run s t [] y = ([], ap inner y, tt)
  made_run s t (x ∷ xs) y =
      let row = y.1.1 in let more = made_run y.0 t xs y.2 in
      (row.0 ∷ more.0, (inner y.0, row.1, more.1), (row.2, subst (λ p. AllZip (makes p) more.0 xs) y.1.0 more.2))

  module _ {T U A B : Type 0} {cells_become : W → T → Type 0} {cell_steps : T → Option A → T → Type 0}
      {becomes : X → U → Type 0} {made_cell_steps : U → Option B → U → Type 0} (change : List A → List B) where
    -- the cells of each row, changed
    made_cells : (p : P) → ((row : W) (x : X) (items : List B) → makes p row x → Given becomes made_cell_steps x items
        → (all : List A) × Given cells_become cell_steps row all × (items ≡ change all))
        → (lists : List W) (xs : List X) (cells : List (List B)) → AllZip (makes p) lists xs → AllZip (Given becomes made_cell_steps) xs cells
        → (all : List (List A)) × AllZip (Given cells_become cell_steps) lists all × (cells ≡ map change all)
    made_cells p f [] [] [] h k = ([], tt, refl)
    made_cells p f [] [] (c ∷ cs) h k = absurd k
    made_cells p f [] (x ∷ xs) cs h k = absurd h
    made_cells p f (w ∷ ws) [] cs h k = absurd h
    made_cells p f (w ∷ ws) (x ∷ xs) [] h k = absurd k
    made_cells p f (w ∷ ws) (x ∷ xs) (c ∷ cs) h k =
        let one = f w x c h.0 k.0 in let more = made_cells p f ws xs cs h.1 k.1 in
        (one.0 ∷ more.0, (one.1, more.1), ap (λ r. r ∷ cs) one.2 ∙ ap (λ r. change one.0 ∷ r) more.2)

    -- so are the rows that come first
    pub made_begin : {V : Type 0} {rows_become : V → S → Type 0} {source : V} {cells : List (List B)} {whole : Bool} (rows : N)
        (rows_same : N → N → Type 0) → ((it : N) → rows_same rows it → it ≡ rows)
        → rows_become source (inner rows)
        → ((row : W) (x : X) (items : List B) → makes (setting rows) row x → Given becomes made_cell_steps x items
        → (all : List A) × Given cells_become cell_steps row all × (items ≡ change all))
        → RowsBegin rows_same made_steps becomes made_cell_steps rows cells whole
        → AreChanged (λ all. RowsBegin rows_become steps cells_become cell_steps source all whole) (map change) cells
    made_begin {cells = cells} rows rows_same same made f b =
        let e = same b.iterator b.made in
        let y = subst (λ s. Yields made_steps s b.lists b.reached) e b.yielded in
        let run = made_run rows b.reached b.lists y in
        let all = made_cells (setting rows) f run.0 b.lists cells run.2 b.each in
        record {
          all = all.0;
          given =
              record {
                lists = run.0;
                iterator = inner rows;
                made = made;
                reached = inner b.reached;
                yielded = run.1;
                each = all.1;
                ended = λ w. let last = b.ended w in (inner last.0, last.1.1);
              };
          changed = all.2;
        }

  -- the rows end, and the cells of each
  pub made_end : {V T U : Type 0} {rows_become : V → S → Type 0} {can_row : S → Type 0} {rows_left : S → Count} {cells_become : W → T → Type 0}
      {can_cell : T → Type 0} {cells_left : T → Count} {becomes : X → U → Type 0} {can_made : U → Type 0} {made_left : U → Count}
      (source : V) (rows : N) (rows_same : N → N → Type 0) → ((it : N) → rows_same rows it → it ≡ rows) → rows_become source (inner rows)
      → ((row : W) (x : X) → makes (setting rows) row x → IsFiniteIterable cells_become can_cell cells_left row → IsFiniteIterable becomes can_made made_left x)
      → RowsEnd rows_become can_row steps rows_left cells_become can_cell cells_left source
      → RowsEnd rows_same (λ s. can_row (inner s)) made_steps (λ s. rows_left (inner s)) becomes can_made made_left rows
  made_end {rows_become = rows_become} {can_row = can_row} {rows_left = rows_left} {cells_become = cells_become} {can_cell = can_cell} {cells_left = cells_left}
      {becomes = becomes} {can_made = can_made} {made_left = made_left} source rows rows_same same made f ends =
      record {
        all = λ it b. subst (λ s. can_row (inner s) × IsFinite (rows_left (inner s))) (sym (same it b)) (ends.all (inner rows) made);
        each = λ it b xs t y.
            let run = made_run rows t xs (subst (λ s. Yields made_steps s xs t) (same it b) y) in
            zip_all (makes (setting rows)) (IsFiniteIterable cells_become can_cell cells_left) (IsFiniteIterable becomes can_made made_left) f run.0 xs run.2
            (ends.each (inner rows) made run.0 (inner t) run.1);
      }
