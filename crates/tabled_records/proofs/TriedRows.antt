-- Rows that come of a source of results.
use Rattle.tabled_records.proofs.Names.{Bool, Given, List, None, Option, ReadsTo, Some, Yields, [], false, map, refl, subst, true, ◌∷◌, ◌≡◌}
use Rattle.std.proofs.Common.{Err, MatchOption, MatchResult, Ok, Result, sym, ◌∙◌, ap}
use Rattle.std.specs.List.{AllZip}
use Rattle.tabled_records.specs.RowsBeforeError.{AreBeforeError, GivesNone, RowsBeforeError, ended_by, try_steps}
use Rattle.tabled_records.specs.declared.try_rows.TryRows.{TryRows}

no-cells : {W A : Type 0} (P : W → List A → Type 0) (lists : List W) (cells : List (List A)) → lists ≡ []
    → AllZip P lists cells → cells ≡ []
no-cells P [] [] e h = refl
no-cells P [] (row ∷ cells) e h = absurd h
no-cells P (list ∷ lists) cells e h = absurd (cc)

module _ {S W E : Type 0} (steps : S → Option (Result W E) → S → Type 0) where
  -- no error came where rows do
  still-none : (lists : List W) (from to : TryRows S E) → from.error ≡ None → Yields (try_steps steps) from lists to → to.error ≡ None
  still-none [] from to e h = subst (λ s. s.error ≡ None) h e
  still-none (row ∷ lists) from to e h = still-none lists h.0 to h.1.still h.2

  yields-rows : (lists : List W) (from to : TryRows S E) → Yields (try_steps steps) from lists to → Yields steps from.rows (map Ok lists) to.rows
  yields-rows [] from to h = ap (λ s. s.rows) h
  yields-rows (row ∷ lists) from to h = (h.0.rows, h.1.came, yields-rows lists h.0 to h.2)

  -- no row comes behind an error
  no-rows : (lists : List W) (from to : TryRows S E) (e : E) → from.error ≡ Some e → Yields (try_steps steps) from lists to → (lists ≡ []) × (from ≡ to)
  no-rows [] from to e k h = (refl, h)
  no-rows (row ∷ lists) from to e k h = let n = h.1.none_before in absurd (cc)

  -- an error that is kept stays
  same-error : (reached last : TryRows S E) (e : E) (whole : Bool) → reached.error ≡ Some e → (whole ≡ true → GivesNone steps reached last)
      → (whole ≡ false → reached ≡ last) → last.error ≡ Some e
  same-error reached last e true k ended further =
      let given = ended refl in ap (λ (s : TryRows S E). s.error) (rw k at given)
  same-error reached last e false k ended further = sym (ap (λ s. s.error) (further refl)) ∙ k

  how-ended : (reached last : TryRows S E) (whole : Bool) (o : Option E) → last.error ≡ o → reached.error ≡ None
      → (whole ≡ true → GivesNone steps reached last) → (whole ≡ false → reached ≡ last)
      → MatchResult (ended_by o) (λ _. whole ≡ true → (last : S) × steps reached.rows None last)
      (λ e. (whole ≡ true) × ((last : S) × steps reached.rows (Some (Err e)) last))
  how-ended reached last whole None k n ended further = λ w. (last.rows, (rw (n, k) at ended w))
  how-ended reached last true (Some e) k n ended further = (refl, (last.rows, (rw (n, k) at ended refl)))
  how-ended reached last false (Some e) k n ended further = let same = ap (λ s. s.error) (further refl) in absurd (cc)

  module _ {T A : Type 0} {becomes : W → T → Type 0} {cell_steps : T → Option A → T → Type 0} where
    before-error-by : (from last : TryRows S E) (cells : List (List A)) (whole : Bool) (o : Option E) → from.error ≡ o
        → ReadsTo (try_steps steps) becomes cell_steps from cells whole last
        → MatchOption o (RowsBeforeError steps becomes cell_steps from.rows (ended_by last.error) cells whole)
        (λ e. (cells ≡ []) × (ended_by last.error ≡ Err e))
    before-error-by from last cells whole None k r = record {
      lists = r.reads.lists;
      reached = r.reached.rows;
      yielded = yields-rows r.reads.lists from r.reached r.reads.yielded;
      each = r.reads.each;
      ended = how-ended r.reached last whole last.error refl (still-none r.reads.lists from r.reached k r.reads.yielded) r.ended r.further;
    }
    before-error-by from last cells whole (Some e) k r =
        let none = no-rows r.reads.lists from r.reached e k r.reads.yielded in
        let kept = sym (ap (λ s. s.error) none.1) ∙ k in (
          no-cells (Given becomes cell_steps) r.reads.lists cells none.0 r.reads.each,
          ap ended_by (same-error r.reached last e whole kept r.ended r.further),
        )

    -- what was read of the rows is what the source gives before its first error
    pub before-error : (from last : TryRows S E) (cells : List (List A)) (whole : Bool)
        → ReadsTo (try_steps steps) becomes cell_steps from cells whole last
        → AreBeforeError steps becomes cell_steps from (ended_by last.error) cells whole
    before-error from last cells whole r = before-error-by from last cells whole from.error refl r
