-- Tables with estimated sizes that are printed, or refused before the first byte.
use Rattle.tabled_grid.proofs.Names.{Err, IfErr, IsErrAnd, FailsToPrint, List, Memory, Narrow, Ok, Prints, Range, Result, Sheet, ShortHeights}
use Rattle.tabled_grid.proofs.Names.{ShortWidths, SpannedConfig, TableError, Writer, [], estimated, false, inl, inr, is_empty, picture}
use Rattle.tabled_grid.proofs.Names.{refl, subst, sym, true, ℕ, ⊎_elim, ◌≡◌, ◌⊎◌}
use Rattle.tabled_grid.specs.Picture.{table_text}
use Rattle.tabled_grid.specs.Printed.{Ends, IsPrintableSheet}
use Rattle.tabled_line.specs.Sent.{Sends, Sent, Stops}
use Rattle.tabled_grid.proofs.EstimatedSizes.{refused_estimated}
use Rattle.tabled_line.proofs.Sending.{sends-none, sends-along}

picture_none : (t : Sheet) → is_empty t.cells ≡ true → table_text t ≡ []
unfolding picture
picture_none t e = rw e refl

-- an empty table prints nothing
pub prints_nothing : (t : Sheet) (a : Sent) → is_empty t.cells ≡ true → ((is_empty t.cells ≡ true) ⊎ IsPrintableSheet t) × Sends a a (table_text t)
prints_nothing t a e = (inl e, sends-along a a [] (table_text t) (sends-none a) (sym (picture_none t e)))

-- refused before anything was written
refused_early : (t : Sheet) (a : Sent) (e : TableError) → is_empty t.cells ≡ false → (e ≡ Memory) ⊎ FailsToPrint t e → (is_empty t.cells ≡ false) × Ends true t a e a
refused_early t a e filled cause = (filled, ⊎_elim (λ m. inr (inl (refl, m, refl))) (λ r. inl (r, refl)) cause)

-- the same, of a function that hands a refusal on
pub refused_so : {T : Type 0} (t : Sheet) (a : Sent) (r : Result T TableError) (e : TableError) → is_empty t.cells ≡ false → (e ≡ Memory) ⊎ FailsToPrint t e → IsErrAnd r (λ d. d ≡ e) → Prints true t a r a
refused_so t a (Ok x) e filled cause h = absurd h
refused_so t a (Err d) e filled cause h =
    let P : TableError → Type 0 = λ k. (is_empty t.cells ≡ false) × Ends true t a k a in
    subst P (sym h) (refused_early t a e filled cause)

stopped_only : (a b : Sent) (e : TableError) (text : List ℕ) → Stops a e b text → (e ≡ Memory) ⊎ ((e ≡ Range) ⊎ (e ≡ Writer))
stopped_only a b Memory text s = inl refl
stopped_only a b ShortWidths text s = absurd s.cause
stopped_only a b ShortHeights text s = absurd s.cause
stopped_only a b (Narrow row column) text s = absurd s.cause
stopped_only a b Range text s = absurd s.cause
stopped_only a b Writer text s = inr (inr refl)

-- no stored size can be short or narrow
pub only_estimated : {T : Type 0} (cells : List (List (List ℕ))) (config : SpannedConfig) (a b : Sent) (r : Result T TableError) → Prints true (estimated cells config) a r b → IfErr r (λ e. (e ≡ Memory) ⊎ ((e ≡ Range) ⊎ (e ≡ Writer)))
only_estimated cells config a b (Ok x) p = tt
only_estimated cells config a b (Err e) p =
    ⊎_elim (λ r. inr (inl (refused_estimated cells config e r.0).0))
    (λ h. ⊎_elim (λ m. inl m.1) (λ s. stopped_only a b e (table_text (estimated cells config)) s.1) h) p.1
