-- Records of which some rows were read ahead.
use Rattle.tabled_records.proofs.Names.{All, All-cons, All-head, All-nil, All-tail, AllZip, Bool, BufBegin, Count, Drains, Given}
use Rattle.tabled_records.proofs.Names.{HoldsAlong, IsFinite, IsFiniteIterable, List, None, Option, Reads, ReadsTo, RowsBegin, RowsEnd}
use Rattle.tabled_records.proofs.Names.{Some, Yields, [], ap, append-nil, arith, cells_ahead, false, length, refl, subst, sym, true, ◌++◌}
use Rattle.tabled_records.proofs.Names.{◌∙◌, ◌∷◌, ◌≡◌}
use Rattle.std.specs.Prelude.{MatchOption, ⊤}
use Rattle.std.specs.Vec.Iter.{into_iter_items, into_iter_len}
use Rattle.std.specs.declared.vec.Vec.{Vec}
use Rattle.std.specs.declared.vec.IntoIter.{IntoIter}
use Rattle.std.specs.declared.alloc.Global.{Global}
use Rattle.std.proofs.lemmas.List.{nil_from_length}
use Rattle.tabled_records.specs.Buffered.{MayGiveLater, ReadsLater, buf_cell_steps, buf_steps, can_cell, cells_left, rows_left}
use Rattle.tabled_records.specs.declared.buffer.BufCells.{BufCells}
use Rattle.tabled_records.specs.declared.buffer.BufCells.TheVariants.{Kept, Later}
use Rattle.tabled_records.specs.declared.buffer.BufRows.{BufRows}
use Rattle.tabled_records.proofs.RowsRead.{reads-both, reads-none, reads-open, reads-whole}

-- ---- the rows that are read ahead come first of the source

module _ {S W T A : Type 0} {steps : S → Option W → S → Type 0} {becomes : W → T → Type 0} {cell_steps : T → Option A → T → Type 0} where
  -- the first of rows that were read; where there are no others, these are read alike
  front : (a b : S) (lists : List W) (xs ys : List (List A)) → Yields steps a lists b → AllZip (Given becomes cell_steps) lists (xs ++ ys)
      → (m : S) × Reads steps becomes cell_steps a xs m × (ys ≡ [] → m ≡ b)
  front a b [] [] ys y h = (a, reads-none a, λ _. y)
  front a b (w ∷ ws) [] [] y h = absurd h
  front a b (w ∷ ws) [] (z ∷ zs) y h = (a, reads-none a, λ e. absurd (let no : z ∷ zs ≡ [] = e in cc))
  front a b [] (x ∷ xs) ys y h = absurd h
  front a b (w ∷ ws) (x ∷ xs) ys y h =
      let more = front y.0 b ws xs ys y.2 h.1 in
      (more.0, record { lists = w ∷ more.1.lists; yielded = (y.0, y.1, more.1.yielded); each = (h.0, more.1.each) }, more.2)

  front_begin : {V : Type 0} {rows_become : V → S → Type 0} {source : V} {it : S} (made : rows_become source it) {whole : Bool}
      {cells left all : List (List A)} {reached last : S} → Reads steps becomes cell_steps it all reached
      → cells ++ left ≡ all → (whole ≡ true → left ≡ []) → (whole ≡ true → steps reached None last)
      → RowsBegin rows_become steps becomes cell_steps source cells whole
  front_begin {it = it} made {cells = cells} {left = left} {reached = reached} {last = last} reads same none ended =
      let r = subst (λ l. Reads steps becomes cell_steps it l reached) (sym same) reads in
      let f = front it reached r.lists cells left r.yielded r.each in
      record {
        lists = f.1.lists;
        iterator = it;
        made = made;
        reached = f.0;
        yielded = f.1.yielded;
        each = f.1.each;
        ended = λ w. (last, subst (λ s. steps s None last) (sym (f.2 (none w))) (ended w));
      }

  module _ {V : Type 0} {rows_become : V → S → Type 0} {source : V} {it to : S} {ahead : List (List A)} (made : rows_become source it) where
    -- some of the rows that were read come first, where these are all
    pub whole_begun : {cells : List (List A)} {whole : Bool} → ReadsTo steps becomes cell_steps it ahead true to
        → BufBegin steps becomes cell_steps ahead None cells whole → RowsBegin rows_become steps becomes cell_steps source cells whole
    whole_begun q b =
        front_begin made q.reads (b.first ∙ ap (λ l. ahead ++ l) b.come ∙ append-nil ahead) b.all (λ _. q.ended refl)

    -- and these and the later ones, where more may come
    pub open_begun : {cells : List (List A)} {whole : Bool} → ReadsTo steps becomes cell_steps it ahead false to
        → BufBegin steps becomes cell_steps ahead (Some to) cells whole → RowsBegin rows_become steps becomes cell_steps source cells whole
    open_begun q b =
        let come = b.come in
        front_begin made (reads-both (subst (λ s. Reads steps becomes cell_steps it ahead s) (q.further refl) q.reads) come.1.reads) b.first b.all come.1.ended

-- ---- the cells of a row

module _ {T A : Type 0} (steps : T → Option A → T → Type 0) where
  abbrev CellSteps : BufCells A T → Option A → BufCells A T → Type 0
  CellSteps = buf_cell_steps steps

  kept_run : (c : IntoIter A Global) (t u : BufCells A T) (items : List A) → into_iter_len c ≡ length (into_iter_items c)
      → Yields CellSteps (Kept c) items t → CellSteps t None u → items ≡ into_iter_items c
  kept_run c t (Kept d) [] n y e =
      let none = (subst (λ k. CellSteps k None (Kept d)) (sym y) e).0 in sym (nil_from_length (into_iter_items c) (omega (arith, n, none)))
  kept_run c t (Later d) [] n y e = absurd (subst (λ k. CellSteps k None (Later d)) (sym y) e)
  kept_run c t u (x ∷ xs) n (Kept d, h, y) e =
      let more = kept_run d t u xs (omega (arith, n, h.1, ap length h.0)) y e in ap (λ l. x ∷ l) more ∙ sym h.0
  kept_run c t u (x ∷ xs) n (Later d, h, y) e = absurd h

  later_run : (c : T) (t u : BufCells A T) (items : List A) → Yields CellSteps (Later c) items t → CellSteps t None u → Drains steps c items
  later_run c t (Kept d) [] y e = absurd (subst (λ k. CellSteps k None (Kept d)) (sym y) e)
  later_run c t (Later d) [] y e = (d, (c, refl, subst (λ k. CellSteps k None (Later d)) (sym y) e))
  later_run c t u (x ∷ xs) (Kept d, h, y) e = absurd h
  later_run c t u (x ∷ xs) (Later d, h, y) e =
      let more = later_run d t u xs y e in (more.0, (more.1.0, (d, h, more.1.1), more.1.2))

-- ---- the rows

module _ {S W T A : Type 0} (steps : S → Option W → S → Type 0) (becomes : W → T → Type 0) (cell_steps : T → Option A → T → Type 0)
    (cells_same : BufCells A T → BufCells A T → Type 0) (same_cells : (row it : BufCells A T) → cells_same row it → it ≡ row) where
  abbrev Steps : BufRows A S → Option (BufCells A T) → BufRows A S → Type 0
  Steps = buf_steps steps becomes

  abbrev Gave : BufCells A T → List A → Type 0
  Gave = Given cells_same (buf_cell_steps cell_steps)

  kept_cells : (c : IntoIter A Global) (items : List A) → into_iter_len c ≡ length (into_iter_items c) → Gave (Kept c) items → items ≡ into_iter_items c
  kept_cells c items n g =
      let d = g.drained in
      kept_run cell_steps c d.1.0 d.0 items n
      (subst (λ k. Yields (buf_cell_steps cell_steps) k items d.1.0) (same_cells (Kept c) g.iterator g.made) d.1.1) d.1.2

  later_cells : (c : T) (items : List A) → Gave (Later c) items → Drains cell_steps c items
  later_cells c items g =
      let d = g.drained in
      later_run cell_steps c d.1.0 d.0 items
      (subst (λ k. Yields (buf_cell_steps cell_steps) k items d.1.0) (same_cells (Later c) g.iterator g.made) d.1.1) d.1.2

  none_later : (rows : Option S) → ReadsLater steps becomes cell_steps rows [] false
  none_later None = refl
  none_later (Some it) = (it, reads-open (reads-none it))

  end_later : (rows : Option S) → MatchOption rows ⊤ (λ it. (last : S) × steps it None last) → ReadsLater steps becomes cell_steps rows [] true
  end_later None h = refl
  end_later (Some it) h = (h.0, reads-whole (reads-none it) h.1)

  one_later : {old new : S} {row : W} {c : List A} {cs : List (List A)} {whole : Bool} → steps old (Some row) new → Given becomes cell_steps row c
      → ReadsLater steps becomes cell_steps (Some new) cs whole → ReadsLater steps becomes cell_steps (Some old) (c ∷ cs) whole
  one_later {new = new} {row = row} came given more =
      let q = more.1 in (
        more.0,
        record {
          reached = q.reached;
          reads = record { lists = row ∷ q.reads.lists; yielded = (new, came, q.reads.yielded); each = (given, q.reads.each) };
          ended = q.ended;
          further = q.further;
        },
      )

  -- with none left of those that were read ahead, the rows are those that come later
  later_rows : (s t : BufRows A S) (xs : List (BufCells A T)) (cells : List (List A)) (whole : Bool) → into_iter_len s.kept ≡ 0
      → Yields Steps s xs t → AllZip Gave xs cells → (whole ≡ true → (last : BufRows A S) × Steps t None last)
      → ReadsLater steps becomes cell_steps s.later cells whole
  later_rows s t [] [] false n y h e = none_later s.later
  later_rows s t [] [] true n y h e = end_later s.later (subst (λ v. Steps v None (e refl).0) (sym y) (e refl).1).1
  later_rows s t [] (c ∷ cs) whole n y h e = absurd h
  later_rows s t (x ∷ xs) [] whole n y h e = absurd h
  later_rows s t (Kept x ∷ xs) (c ∷ cs) whole n y h e = absurd (omega (arith, n, y.1.1.taken.1))
  later_rows s t (Later x ∷ xs) (c ∷ cs) whole n y h e =
      let l = y.1 in
      let more = later_rows y.0 t xs cs whole l.none.1 y.2 h.1 e in
      subst (λ r. ReadsLater steps becomes cell_steps r (c ∷ cs) whole) (sym l.before)
      (one_later l.came (record { iterator = x; made = l.made; drained = later_cells x c h.0 })
      (subst (λ r. ReadsLater steps becomes cell_steps r cs whole) l.behind more))

  all_rows : (s t : BufRows A S) (xs : List (BufCells A T)) (cells : List (List A)) (whole : Bool) → into_iter_len s.kept ≡ length (into_iter_items s.kept)
      → Yields Steps s xs t → AllZip Gave xs cells → (whole ≡ true → (last : BufRows A S) × Steps t None last)
      → BufBegin steps becomes cell_steps (cells_ahead (into_iter_items s.kept)) s.later cells whole
  all_rows s t [] [] false n y h e =
      record {
        later = [];
        left = cells_ahead (into_iter_items s.kept);
        first = sym (append-nil (cells_ahead (into_iter_items s.kept)));
        come = none_later s.later;
        all = λ f. absurd (let no : false ≡ true = f in cc);
      }
  all_rows s t [] [] true n y h e =
      let last = subst (λ v. Steps v None (e refl).0) (sym y) (e refl).1 in
      record {
        later = [];
        left = [];
        first = ap (λ l. cells_ahead l ++ []) (sym (nil_from_length (into_iter_items s.kept) (omega (arith, n, last.0.0))));
        come = end_later s.later last.1;
        all = λ _. refl;
      }
  all_rows s t [] (c ∷ cs) whole n y h e = absurd h
  all_rows s t (x ∷ xs) [] whole n y h e = absurd h
  all_rows s t (Kept x ∷ xs) (c ∷ cs) whole n y h e =
      let k = y.1.1 in
      let more = all_rows y.0 t xs cs whole (omega (arith, n, k.taken.1, ap length k.taken.0)) y.2 h.1 e in
      record {
        later = more.later;
        left = more.left;
        first = ap (λ l. c ∷ l) more.first
            ∙ ap (λ r. r ∷ cells_ahead (into_iter_items y.0.kept) ++ more.later) (kept_cells x c y.1.0 h.0 ∙ sym k.items)
            ∙ ap (λ l. cells_ahead l ++ more.later) (sym k.taken.0);
        come = subst (λ r. ReadsLater steps becomes cell_steps r more.later whole) k.same more.come;
        all = more.all;
      }
  all_rows s t (Later x ∷ xs) (c ∷ cs) whole n y h e =
      let none = y.1.none.0 in
      record {
        later = c ∷ cs;
        left = [];
        first = append-nil (c ∷ cs) ∙ ap (λ l. cells_ahead l ++ c ∷ cs) (sym (nil_from_length (into_iter_items s.kept) (omega (arith, n, none))));
        come = later_rows s t (Later x ∷ xs) (c ∷ cs) whole none y h e;
        all = λ _. refl;
      }

  -- what comes are the rows that were read ahead, and then the later ones
  pub buf_begin : {cells : List (List A)} {whole : Bool} (rows : BufRows A S) (rows_same : BufRows A S → BufRows A S → Type 0)
      → ((it : BufRows A S) → rows_same rows it → it ≡ rows) → into_iter_len rows.kept ≡ length (into_iter_items rows.kept)
      → RowsBegin rows_same Steps cells_same (buf_cell_steps cell_steps) rows cells whole
      → BufBegin steps becomes cell_steps (cells_ahead (into_iter_items rows.kept)) rows.later cells whole
  buf_begin {cells = cells} {whole = whole} rows rows_same same n b =
      all_rows rows b.reached b.lists cells whole n (subst (λ s. Yields Steps s b.lists b.reached) (same b.iterator b.made) b.yielded) b.each b.ended

-- ---- they end

module _ {S W T A : Type 0} (steps : S → Option W → S → Type 0) (becomes : W → T → Type 0) (can : T → Type 0) (left : T → Count)
    (cells_same : BufCells A T → BufCells A T → Type 0) (same_cells : (row it : BufCells A T) → cells_same row it → it ≡ row) where
  abbrev Ends : BufCells A T → Type 0
  Ends = IsFiniteIterable cells_same (can_cell can) (cells_left left)

  abbrev RowsHold : Option S → Type 0
  RowsHold rows = MatchOption rows ⊤ (λ it. HoldsAlong steps it (All (IsFiniteIterable becomes can left)))

  ended_kept : (c : IntoIter A Global) → Ends (Kept c)
  ended_kept c it b = subst (λ k. can_cell can k × IsFinite (cells_left left k)) (sym (same_cells (Kept c) it b)) (tt, tt)

  ended_later : (c : T) → can c × IsFinite (left c) → Ends (Later c)
  ended_later c h it b = subst (λ k. can_cell can k × IsFinite (cells_left left k)) (sym (same_cells (Later c) it b)) h

  ended_rows : (s t : BufRows A S) (xs : List (BufCells A T)) → RowsHold s.later → Yields (buf_steps steps becomes) s xs t → All Ends xs
  ended_rows s t [] h y = All-nil Ends
  ended_rows s t (Kept x ∷ xs) h y =
      All-cons Ends (Kept x) xs (ended_kept x) (ended_rows y.0 t xs (subst RowsHold (sym y.1.1.same) h) y.2)
  ended_rows s t (Later x ∷ xs) h y =
      let l = y.1 in
      let P : W → Type 0 = IsFiniteIterable becomes can left in
      let k : HoldsAlong steps l.old (All P) = subst RowsHold l.before h in
      let more : HoldsAlong steps l.new (All P) = λ ws u r. All-tail P l.row ws (k (l.row ∷ ws) u (l.new, l.came, r)) in
      All-cons Ends (Later x) xs (ended_later x (All-head P l.row [] (k (l.row ∷ []) l.new (l.new, l.came, refl)) x l.made))
      (ended_rows y.0 t xs (subst RowsHold (sym l.behind) more) y.2)

  may_hold : (can_row : S → Type 0) (row_left : S → Count) (rows : Option S) → MayGiveLater can_row steps row_left becomes can left rows → RowsHold rows
  may_hold can_row row_left None h = tt
  may_hold can_row row_left (Some it) h = h.each

  may_start : (can_row : S → Type 0) (row_left : S → Count) (kept : IntoIter (Vec A Global) Global) (later : Option S)
      → MayGiveLater can_row steps row_left becomes can left later
      → MatchOption later ⊤ can_row × IsFinite (rows_left row_left (record { kept = kept; later = later }))
  may_start can_row row_left kept None h = (tt, tt)
  may_start can_row row_left kept (Some it) h = (h.can, h.ends)

  -- the rows end, and the cells of each
  pub buf_end : {can_row : S → Type 0} {row_left : S → Count} (rows : BufRows A S) (rows_same : BufRows A S → BufRows A S → Type 0)
      → ((it : BufRows A S) → rows_same rows it → it ≡ rows) → MayGiveLater can_row steps row_left becomes can left rows.later
      → RowsEnd rows_same (λ s. MatchOption s.later ⊤ can_row) (buf_steps steps becomes) (rows_left row_left) cells_same (can_cell can) (cells_left left)
      rows
  buf_end {can_row = can_row} {row_left = row_left} rows rows_same same may =
      record {
        all = λ it b. subst (λ s. MatchOption s.later ⊤ can_row × IsFinite (rows_left row_left s)) (sym (same it b))
            (may_start can_row row_left rows.kept rows.later may);
        each = λ it b xs t y. ended_rows rows t xs (may_hold can_row row_left rows.later may)
            (subst (λ s. Yields (buf_steps steps becomes) s xs t) (same it b) y);
      }
