-- The rows and cells of views: the first rows, later rows, the first cells, and cut cells.
use Rattle.tabled_records.proofs.Names.{All, AllZip, AreChanged, Bool, Count, Drains, Given, HoldsAlong, IsFinite, IsFiniteIterable, List}
use Rattle.tabled_records.proofs.Names.{MayGive, None, Option, RowsBegin, RowsEnd, Some, Walked, Yields, Yields-both, [], ap, arith}
use Rattle.tabled_records.proofs.Names.{cases_lt, cut_cells_steps, drop, drop-append_seam, false, first_cells_steps, inl, inr, length}
use Rattle.tabled_records.proofs.Names.{length-append, refl, size, subst, suc, sym, take, true, with_widths, zero, ℕ, ◌++◌, ◌+◌, ◌<◌, ◌∙◌}
use Rattle.tabled_records.proofs.Names.{◌∷◌, ◌≡◌, ◌≤◌}
use Rattle.std.specs.declared.iter.Take.{Take}
use Rattle.std.specs.Iterator.{at_most, count_min, MakesProgress, YieldsThen}
use Rattle.std.specs.Iterator.Adapters.{take_steps}
use Rattle.std.proofs.iter.Next.{least_first, Yields-more, on}
use Rattle.tabled_records.specs.Views.{IsLimited, TakesWidth, SkipsRows}
use Rattle.tabled_records.proofs.Runs.{zip_append, all_behind}
use Rattle.tabled_records.proofs.RowsRead.{may-cells, may-step}
use Rattle.std.proofs.Common.{add-one}
use Rattle.tabled_records.specs.declared.limits.FirstCells.{FirstCells}
use Rattle.tabled_records.specs.declared.truncate.CutCell.{CutCell}
use Rattle.tabled_records.specs.declared.truncate.CutCells.{CutCells}
use Rattle.std.proofs.lemmas.List.{drop_all}
use Rattle.std.proofs.lemmas.Slice.Zip.{AllZip-long}
use Rattle.tabled_records.specs.declared.limits.LaterRows.{LaterRows}

-- ---- the first rows of a source

module _ {S W : Type 0} (steps : S → Option W → S → Type 0) where
  -- a limited run is one of the source, and counts
  taken : (s t : Take S) (xs : List W) → Yields (take_steps steps) s xs t → Yields steps s.iter xs t.iter × (length xs + t.n ≡ s.n)
  taken s t [] y = (ap (λ v. v.iter) y, omega (arith, ap (λ v. v.n) y))
  taken s t (x ∷ xs) y = let more = taken y.0 t xs y.2 in ((y.0.iter, y.1.0, more.0), omega (arith, y.1.1, more.1))

  module _ {V T : Type 0} {rows_become : V → S → Type 0} {cells_become : W → T → Type 0} where
    -- what comes of limited rows are rows that come first
    pub limited_begin : {A : Type 0} {cell_steps : T → Option A → T → Type 0} (begins : List (List A) → Bool → Type 0) (source : V) (rows : Take S) (limit : ℕ)
        (rows_same : Take S → Take S → Type 0) → ((it : Take S) → rows_same rows it → it ≡ rows) → rows_become source rows.iter → rows.n ≡ limit
        → ((cells : List (List A)) (whole : Bool) → RowsBegin rows_become steps cells_become cell_steps source cells whole → begins cells whole)
        → (cells : List (List A)) (whole : Bool) → RowsBegin rows_same (take_steps steps) cells_become cell_steps rows cells whole
        → IsLimited begins limit cells whole
    limited_begin {cell_steps = cell_steps} begins source rows limit rows_same same made count begun cells whole b =
        let e = same b.iterator b.made in
        let y = subst (λ s. Yields (take_steps steps) s b.lists b.reached) e b.yielded in
        let run = taken rows b.reached b.lists y in
        let len = AllZip-long (Given cells_become cell_steps) b.lists cells b.each in
        let more : (end : Bool) → (end ≡ true → (last : S) × steps b.reached.iter None last) → begins cells end
        = λ end ended. begun cells end (record {
          lists = b.lists;
          iterator = rows.iter;
          made = made;
          reached = b.reached.iter;
          yielded = run.0;
          each = b.each;
          ended = ended;
        }) in
        elim (cases_lt (length cells) limit) [
          | inl less ↦ record {
            end = whole;
            first = more whole (λ w. let last = b.ended w in (last.0.iter, last.1 (omega (arith, less, len, count, run.1))));
            most = omega (arith, less);
            fewer = λ w _. w;
          }
          | inr full ↦ record {
            end = false;
            first = more false (λ f. absurd (let no : false ≡ true = f in cc));
            most = omega (arith, len, count, run.1);
            fewer = λ _ less. absurd (omega (arith, full, less));
          }
        ]

    -- they end
    pub limited_end : {can_row : S → Type 0} {rows_left : S → Count} {can_cell : T → Type 0} {cells_left : T → Count} (source : V) (rows : Take S)
        (rows_same : Take S → Take S → Type 0) → ((it : Take S) → rows_same rows it → it ≡ rows) → rows_become source rows.iter
        → RowsEnd rows_become can_row steps rows_left cells_become can_cell cells_left source
        → RowsEnd rows_same (λ s. can_row s.iter) (take_steps steps) (λ s. count_min (at_most s.n) (rows_left s.iter)) cells_become can_cell cells_left rows
    limited_end {can_row = can_row} {rows_left = rows_left} source rows rows_same same made ends =
        record {
          all = λ it b. let e = same it b in
              (subst (λ s. can_row s.iter) (sym e) (ends.all rows.iter made).0, least_first (at_most it.n) (rows_left it.iter) tt);
          each = λ it b xs t y.
              let run = taken rows t xs (subst (λ s. Yields (take_steps steps) s xs t) (same it b) y) in ends.each rows.iter made xs t.iter run.0;
        }

-- ---- what was walked so far, and what may still be

pub walked_more : {S A : Type 0} {can : S → Type 0} {steps : S → Option A → S → Type 0} {left : S → Count} {s t u : S} {r : Option A} (x : A)
    → r ≡ Some x → Walked can steps left s t → steps t r u → MakesProgress can left t r u → Walked can steps left s u
walked_more {can = can} {steps = steps} {left = left} {s = s} {t = t} {u = u} x e w step goes =
    let more = on {can = can} {left = left} x e goes w.finite in
    record {
      items = w.items ++ x ∷ [];
      yielded = Yields-more steps s w.items t x u w.yielded (subst (λ o. steps t o u) e step);
      may = more.0;
      finite = more.1;
    }

-- cells that were walked, and then the others to their end, are given
pub walked_given : {U S A : Type 0} {becomes : U → S → Type 0} {can : S → Type 0} {steps : S → Option A → S → Type 0} {left : S → Count} {cells : U}
    {it between last : S} → becomes cells it → Walked can steps left it between → (others : List A) × YieldsThen steps between others None last
    → (items : List A) × Given becomes steps cells items
walked_given {steps = steps} {it = it} {between} {last} made w (others, (to, yielded, ended)) =
    (w.items ++ others, record { iterator = it; made = made; drained = (last, (to, Yields-both steps w.items others it between to w.yielded yielded, ended)) })

module _ {S W T A : Type 0} (can_row : S → Type 0) (steps : S → Option W → S → Type 0) (rows_left : S → Count) (cells_become : W → T → Type 0)
    (can_cell : T → Type 0) (cell_steps : T → Option A → T → Type 0) (cells_left : T → Count) where
  abbrev May : S → Type 0
  May = MayGive can_row steps rows_left cells_become can_cell cells_left

  abbrev Ends : W → Type 0
  Ends = IsFiniteIterable cells_become can_cell cells_left

  -- rows were passed over, and more may be asked for
  pub record Passing (s t : LaterRows S) : Type 0 where
    pub lists : List W
    pub cells : List (List A)
    pub yielded : Yields steps s.rows lists t.rows
    pub each : AllZip (Given cells_become cell_steps) lists cells
    pub count : length lists + t.left ≡ s.left
    pub may : May t.rows
    pub fewer : size (rows_left t.rows) ≤ size (rows_left s.rows)

  pub none_passed : (s : LaterRows S) → May s.rows → Passing s s
  none_passed s may =
      record { lists = []; cells = []; yielded = refl; each = tt; count = omega arith; may = may; fewer = omega arith }

  -- a row came that may be walked, and behind it too rows may be asked for
  pub may_more : {s t : S} {r : Option W} (x : W) → r ≡ Some x → May s → steps s r t → MakesProgress can_row rows_left s r t → Ends x × May t
  may_more {s = s} {t = t} x e may step goes =
      let at = subst (λ o. steps s o t) e step in
      let more = on {can = can_row} {left = rows_left} x e goes may.ends in (
        may-cells may at,
        may-step may at more.0 more.1,
      )

  pub one_passed : {s t : LaterRows S} {u : S} {r : Option W} (n : ℕ) (x : W) → r ≡ Some x → Passing s t → steps t.rows r u
      → MakesProgress can_row rows_left t.rows r u → (items : List A) × Given cells_become cell_steps x items → n + 1 ≡ t.left
      → Passing s (record { rows = u; left = n })
  one_passed {s = s} {t = t} {u = u} n x e p step goes walked count =
      let more = on {can = can_row} {left = rows_left} x e goes p.may.ends in
      record {
        lists = p.lists ++ x ∷ [];
        cells = p.cells ++ walked.0 ∷ [];
        yielded = Yields-more steps s.rows p.lists t.rows x u p.yielded (subst (λ o. steps t.rows o u) e step);
        each = zip_append (Given cells_become cell_steps) p.lists (x ∷ []) p.cells (walked.0 ∷ []) p.each (walked.1, tt);
        count = omega (arith, length-append p.lists (x ∷ []), p.count, count);
        may = (may_more x e p.may step goes).1;
        fewer = omega (arith, more.2, p.fewer);
      }

  pub passed_goes : {s t : LaterRows S} {u : S} (n : ℕ) (r : Option W) → Passing s t → steps t.rows r u → MakesProgress can_row rows_left t.rows r u
      → MakesProgress (λ v. May v.rows) (λ v. rows_left v.rows) s r (record { rows = u; left = n })
  passed_goes n None p step goes = record { on = λ _. tt; keeps = tt; rests = λ _. goes.rests p.may.ends }
  passed_goes n (Some x) p step goes =
      let more = on {can = can_row} {left = rows_left} x refl goes p.may.ends in
      let may = (may_more x refl p.may step goes).1 in
      record { on = λ _. (may, more.1, omega (arith, more.2, p.fewer)); keeps = may; rests = λ _. tt }

-- ---- rows behind those that were passed over

module _ {S W T A : Type 0} (steps : S → Option W → S → Type 0) (cells_become : W → T → Type 0) (cell_steps : T → Option A → T → Type 0) where
  abbrev Skips : LaterRows S → Option W → LaterRows S → Type 0
  Skips = SkipsRows steps cells_become cell_steps

  abbrev Gave : W → List A → Type 0
  Gave = Given cells_become cell_steps

  no_step_before : (lists : List W) (s t : S) (r : Option W) → length lists ≡ 0 → YieldsThen steps s lists r t → steps s r t
  no_step_before [] s t r h y = subst (λ k. steps k r t) (sym y.1) y.2
  no_step_before (x ∷ xs) s t r h y = absurd (omega (arith, h))

  -- with none to pass over, a step is one of the source
  plain_step : (s t : LaterRows S) (r : Option W) → s.left ≡ 0 → Skips s r t → steps s.rows r t.rows × (t.left ≡ 0)
  plain_step s t r h k = (no_step_before k.lists s.rows t.rows r (omega (arith, h, k.count)) k.yielded, omega (arith, h, k.count))

  plain_run : (s t : LaterRows S) (xs : List W) → s.left ≡ 0 → Yields Skips s xs t → Yields steps s.rows xs t.rows × (t.left ≡ 0)
  plain_run s t [] h y = (ap (λ v. v.rows) y, omega (arith, h, ap (λ v. v.left) y))
  plain_run s t (x ∷ xs) h y =
      let one = plain_step s y.0 (Some x) h y.1 in let more = plain_run y.0 t xs one.1 y.2 in ((y.0.rows, one.0, more.0), more.1)

  later_all : (P : W → Type 0) (s t : LaterRows S) (xs : List W) → Yields Skips s xs t → HoldsAlong steps s.rows (All P) → All P xs
  later_all P s t [] y h = h [] s.rows refl
  later_all P s t (x ∷ xs) y h =
      let k = y.1 in
      let more = plain_run y.0 t xs k.done y.2 in
      all_behind P k.lists (x ∷ xs) (h (k.lists ++ x ∷ xs) t.rows
      (Yields-both steps k.lists (x ∷ xs) s.rows k.yielded.0 t.rows k.yielded.1 (y.0.rows, k.yielded.2, more.0)))

  module _ {V : Type 0} (rows_become : V → S → Type 0) (source : V) where
    abbrev Begun : Bool → List (List A) → Type 0
    Begun whole all = RowsBegin rows_become steps cells_become cell_steps source all whole

    later_begin : (rows reached : LaterRows S) (lists : List W) (cells : List (List A)) (whole : Bool) → rows_become source rows.rows
        → Yields Skips rows lists reached → AllZip Gave lists cells → (whole ≡ true → (last : LaterRows S) × Skips reached None last)
        → AreChanged (Begun whole) (drop rows.left) cells
    later_begin rows reached [] [] false made y each ended =
        record {
          all = [];
          given = record {
            lists = [];
            iterator = rows.rows;
            made = made;
            reached = rows.rows;
            yielded = refl;
            each = tt;
            ended = λ f. absurd (let no : false ≡ true = f in cc);
          };
          changed = sym (drop_all rows.left [] (omega arith));
        }
    later_begin rows reached [] [] true made y each ended =
        let last = ended refl in let k = last.1 in
        record {
          all = k.cells;
          given = record {
            lists = k.lists;
            iterator = rows.rows;
            made = made;
            reached = k.yielded.0;
            yielded = subst (λ v. Yields steps v.rows k.lists k.yielded.0) (sym y) k.yielded.1;
            each = k.each;
            ended = λ _. (last.0.rows, k.yielded.2);
          };
          changed = sym (drop_all rows.left k.cells (omega (arith, AllZip-long Gave k.lists k.cells k.each, k.count, ap (λ v. v.left) y)));
        }
    later_begin rows reached [] (c ∷ cs) whole made y each ended = absurd each
    later_begin rows reached (x ∷ xs) [] whole made y each ended = absurd each
    later_begin rows reached (x ∷ xs) (c ∷ cs) whole made y each ended =
        let k = y.1 in
        let more = plain_run y.0 reached xs k.done y.2 in
        record {
          all = k.cells ++ c ∷ cs;
          given = record {
            lists = k.lists ++ x ∷ xs;
            iterator = rows.rows;
            made = made;
            reached = reached.rows;
            yielded = Yields-both steps k.lists (x ∷ xs) rows.rows k.yielded.0 reached.rows k.yielded.1 (y.0.rows, k.yielded.2, more.0);
            each = zip_append Gave k.lists (x ∷ xs) k.cells (c ∷ cs) k.each each;
            ended = λ w. let last = ended w in (last.0.rows, (plain_step reached last.0 None more.1 last.1).0);
          };
          changed =
              let long : length k.cells ≡ rows.left = omega (arith, AllZip-long Gave k.lists k.cells k.each, k.count, k.done) in
              sym (ap (λ n. drop n (k.cells ++ c ∷ cs)) (sym long) ∙ drop-append_seam k.cells (c ∷ cs));
        }

    -- what comes are the rows behind those
    pub later_rows : {cells : List (List A)} {whole : Bool} (rows : LaterRows S) (rows_same : LaterRows S → LaterRows S → Type 0)
        → ((it : LaterRows S) → rows_same rows it → it ≡ rows) → rows_become source rows.rows
        → RowsBegin rows_same Skips cells_become cell_steps rows cells whole → AreChanged (Begun whole) (drop rows.left) cells
    later_rows {cells = cells} {whole = whole} rows rows_same same made b =
        later_begin rows b.reached b.lists cells whole made (subst (λ s. Yields Skips s b.lists b.reached) (same b.iterator b.made) b.yielded) b.each b.ended

    -- they end
    pub later_end : {can_row : S → Type 0} {rows_left : S → Count} {can_cell : T → Type 0} {cells_left : T → Count} (rows : LaterRows S)
        (rows_same : LaterRows S → LaterRows S → Type 0) → ((it : LaterRows S) → rows_same rows it → it ≡ rows) → rows_become source rows.rows
        → RowsEnd rows_become can_row steps rows_left cells_become can_cell cells_left source
        → RowsEnd rows_same (λ s. MayGive can_row steps rows_left cells_become can_cell cells_left s.rows) Skips (λ s. rows_left s.rows)
        cells_become can_cell cells_left rows
    later_end {can_row = can_row} {rows_left = rows_left} {can_cell = can_cell} {cells_left = cells_left} rows rows_same same made ends =
        let P : W → Type 0 = IsFiniteIterable cells_become can_cell cells_left in
        let base = ends.all rows.rows made in
        let may : MayGive can_row steps rows_left cells_become can_cell cells_left rows.rows
        = record { can = base.0; ends = base.1; each = ends.each rows.rows made } in
        record {
          all = λ it b. subst (λ s. MayGive can_row steps rows_left cells_become can_cell cells_left s.rows × IsFinite (rows_left s.rows))
              (sym (same it b)) (may, base.1);
          each = λ it b xs t y. later_all P rows t xs (subst (λ s. Yields Skips s xs t) (same it b) y) (ends.each rows.rows made);
        }

-- ---- the first cells of a row

take-cons : {A : Type 0} (n k : ℕ) (x : A) (xs : List A) → k + 1 ≡ n → take n (x ∷ xs) ≡ x ∷ take k xs
take-cons n k x xs e = ap (λ m. take m (x ∷ xs)) (sym e ∙ add-one k)

take-none : {A : Type 0} (n : ℕ) (xs : List A) → (0 < n → xs ≡ []) → [] ≡ take n xs
take-none zero xs h = refl
take-none (suc n) xs h = sym (ap (take (suc n)) (h (omega arith)))

module _ {S A : Type 0} (steps : S → Option A → S → Type 0) where
  first_run : (s t u : FirstCells S) (items : List A) → Yields (first_cells_steps steps) s items t → first_cells_steps steps t None u
      → (all : List A) × Drains steps s.cells all × (items ≡ take s.left all)
  first_run s t u [] y e =
      (e.0, subst (λ v. Drains steps v.cells e.0) (sym y) (u.cells, e.1), take-none s.left e.0 (λ h. e.2 (subst (λ v. 0 < v.left) y h)))
  first_run s t u (x ∷ xs) y e =
      let more = first_run y.0 t u xs y.2 e in
      let d = more.1 in
      (x ∷ more.0, (d.0, (d.1.0, (y.0.cells, y.1.0, d.1.1), d.1.2)), ap (λ r. x ∷ r) more.2 ∙ sym (take-cons s.left y.0.left x more.0 y.1.1))

  -- all cells were walked, and the first of them given
  pub first_drained : (s : FirstCells S) (items : List A) → Drains (first_cells_steps steps) s items
      → (all : List A) × Drains steps s.cells all × (items ≡ take s.left all)
  first_drained s items d = first_run s d.1.0 d.0 items d.1.1 d.1.2

-- ---- cells with the widths of their columns

with_widths-cons : {A : Type 0} (widths others : List ℕ) (width : Option ℕ) (cell : A) (cells : List A) → TakesWidth widths width others
    → with_widths widths (cell ∷ cells) ≡ record { cell = cell; width = width } ∷ with_widths others cells
with_widths-cons widths others None cell cells h =
    ap (λ w. with_widths w (cell ∷ cells)) h.taken.0 ∙ ap (λ w. record { cell = cell; width = None } ∷ with_widths w cells) (sym h.taken.1)
with_widths-cons widths others (Some n) cell cells h = ap (λ w. with_widths w (cell ∷ cells)) h.taken

with_widths-none : {A : Type 0} (widths : List ℕ) → with_widths {A = A} widths [] ≡ []
with_widths-none [] = refl
with_widths-none (w ∷ ws) = refl

module _ {S A : Type 0} (steps : S → Option A → S → Type 0) where
  cut_run : (s t u : CutCells S) (items : List (CutCell A)) → Yields (cut_cells_steps steps) s items t → cut_cells_steps steps t None u
      → (all : List A) × Drains steps s.cells all × (items ≡ with_widths s.widths.now all)
  cut_run s t u [] y e =
      ([], subst (λ v. Drains steps v.cells []) (sym y) (u.cells, (t.cells, refl, e)), sym (with_widths-none s.widths.now))
  cut_run s t u (x ∷ xs) y e =
      let more = cut_run y.0 t u xs y.2 e in
      let d = more.1 in (
        x.cell ∷ more.0,
        (d.0, (d.1.0, (y.0.cells, y.1.0, d.1.1), d.1.2)),
        ap (λ r. x ∷ r) more.2 ∙ sym (with_widths-cons s.widths.now y.0.widths.now x.width x.cell more.0 y.1.1),
      )

  -- all cells were walked, and given with their widths
  pub cut_drained : (s : CutCells S) (items : List (CutCell A)) → Drains (cut_cells_steps steps) s items
      → (all : List A) × Drains steps s.cells all × (items ≡ with_widths s.widths.now all)
  cut_drained s items d = cut_run s d.1.0 d.0 items d.1.1 d.1.2
