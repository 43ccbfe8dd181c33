-- The sizes that stand: those that a dimension stores, and estimates where it stores none.
use Rattle.tabled_grid.proofs.Names.{Bool, Err, Holds, IfErr, IsErrAnd, FailsToPrint, IsOutOfRange, IsSized, List, Memory, Narrow, None, Ok}
use Rattle.tabled_grid.proofs.Names.{Option, Range, Result, Sheet, ShortHeights, ShortWidths, Some, SpannedConfig, TableError, Writer, ap}
use Rattle.tabled_grid.proofs.Names.{arith, columns, effective, estimated, estimated_heights, estimated_widths, false, filled_height}
use Rattle.tabled_grid.proofs.Names.{filled_width, heights_length, heights_of, inl, inr, is_some, is_stored, length, reached, refl}
use Rattle.tabled_grid.proofs.Names.{slice_index, stored_at, subst, sym, take, too_high_passes, too_wide_passes, true, width_at, width_ge}
use Rattle.tabled_grid.proofs.Names.{widths_length, widths_of, ℕ, ⊎_elim, ◌&&◌, ◌<◌, ◌∙◌, ◌≡◌, ◌≤◌, ◌⊎◌}
use Rattle.std.proofs.Common.{◌^◌, OnOk, MatchResult, unwrap_or}
use Rattle.std.proofs.lemmas.List.{get_or-take, length-take-le}
use Rattle.tabled_size.specs.declared.complete_dimension.CompleteDimension.{CompleteDimension}
use Rattle.tabled_size.specs.Estimates.{needed_width}
use Rattle.tabled_size.specs.FilledIn.{HasNoEstimate, IsFilledIn}
use Rattle.tabled_size.specs.Effective.{effective_sizes}
use Rattle.tabled_size.proofs.Reaching.{reached_filled, reached_effective, reached_stored}
use Rattle.tabled_size.proofs.Totalling.{reached_stands}
use Rattle.tabled_grid.specs.Grid.{sheet_by}
use Rattle.tabled_grid.specs.Narrow.{IsNarrow}
use Rattle.tabled_grid.proofs.EstimatedSizes.{holds_estimated}

abbrev sized_by : List (List (List ℕ)) → SpannedConfig → List ℕ → List ℕ → Sheet
sized_by cells config widths heights = record { cells = cells; config = config; widths = widths; heights = heights }

-- cells and settings with the sizes that a complete dimension answers
abbrev pub answered : List (List (List ℕ)) → SpannedConfig → CompleteDimension → Sheet
answered cells config sizes = sheet_by cells config (stored_at (widths_of sizes)) (stored_at (heights_of sizes))

and_left : (a b : Bool) → (a && b) ≡ true → a ≡ true
and_left true b h = refl
and_left false b h = h

and_right : (a b : Bool) → (a && b) ≡ true → b ≡ true
and_right true b h = h
and_right false b h = let no : false ≡ true = h in cc

-- what a check of stored sizes says of the effective ones
module _ (o : Option (List ℕ)) (list estimates : List ℕ) (count n : ℕ) (e : n ≡ count) (s : o ≡ Some list) where
  pub sizes_checked : n ≤ length (reached (stored_at o) n) → count ≤ length (effective_sizes o estimates count)
  sizes_checked h =
      subst (λ xs. count ≤ length xs) (reached_stands o list estimates count n s e)
      (subst (λ k. k ≤ length (reached (stored_at o) n)) e h)

  pub sizes_short : length (reached (stored_at o) n) < n → length (effective_sizes o estimates count) < count
  sizes_short h =
      subst (λ xs. length xs < count) (reached_stands o list estimates count n s e)
      (subst (λ k. length (reached (stored_at o) n) < k) e h)

pub sizes_estimated : (o : Option (List ℕ)) (estimates : List ℕ) (count : ℕ) → length estimates ≡ count → o ≡ None
    → count ≤ length (effective_sizes o estimates count)
sizes_estimated o estimates count e s = subst (λ p. count ≤ length (effective_sizes p estimates count)) (sym s) (omega arith)

-- a function that hands an error on
pub handed_on : {T : Type 0} (Q : T → Type 0) (P : TableError → Type 0) (r : Result T TableError) (e : TableError) → IsErrAnd r (λ d. d ≡ e) → P e
    → MatchResult r Q P
handed_on Q P (Ok x) e i h = absurd i
handed_on Q P (Err d) e i h = subst P (sym i) h

-- what a check of stored sizes returns
pub high_refused : {T : Type 0} (r : Result T TableError) (t : Sheet) (P Q : Type 0) → (P → IsSized t) → Holds t
    → (Q → (columns t.cells ≤ length t.widths) × (length t.heights < length t.cells)) → OnOk r P → IfErr r (λ d. (d ≡ ShortHeights) × Q)
    → MatchResult r (λ _. IsSized t × Holds t) (FailsToPrint t)
high_refused (Ok x) t P Q f held g p h = (f p, held)
high_refused (Err d) t P Q f held g p h = subst (FailsToPrint t) (sym h.0) (g h.1)

pub narrow_refused : {T : Type 0} (r : Result T TableError) (t : Sheet) → IsSized t → OnOk r (Holds t) → IfErr r (IsNarrow t)
    → MatchResult r (λ _. IsSized t × Holds t) (FailsToPrint t)
narrow_refused (Ok x) t s p h = (s, p)
narrow_refused (Err (Narrow row column)) t s p h = (s, h)
narrow_refused (Err Memory) t s p h = absurd h
narrow_refused (Err ShortWidths) t s p h = absurd h
narrow_refused (Err ShortHeights) t s p h = absurd h
narrow_refused (Err Range) t s p h = absurd h
narrow_refused (Err Writer) t s p h = absurd h

pub none-from : {A : Type 0} (o : Option A) → is_some o ≡ false → o ≡ None
none-from None e = refl
none-from (Some x) e = absurd (cc)

module _ (cells : List (List (List ℕ))) (config : SpannedConfig) where
  same_sizes : (widths widths2 heights heights2 : List ℕ) → widths ≡ widths2 → heights ≡ heights2 → sized_by cells config widths heights ≡ sized_by cells config widths2 heights2
  same_sizes widths widths2 heights heights2 e f = ap (λ w. sized_by cells config w heights) e ∙ ap (λ h. sized_by cells config widths2 h) f

  -- where both lists are stored, they are answered as they stand
  pub answered_complete : (sizes : CompleteDimension) → (is_some (widths_of sizes) && is_some (heights_of sizes)) ≡ true → answered cells config sizes ≡ effective cells config sizes
  answered_complete sizes both =
      let w : is_some (widths_of sizes) ≡ true = and_left _ _ both in
      let h : is_some (heights_of sizes) ≡ true = and_right _ _ both in
      same_sizes _ _ _ _
      (reached_effective (widths_of sizes) (estimated_widths cells config) (columns cells) w)
      (reached_effective (heights_of sizes) (estimated_heights cells config) (length cells) h)

  -- and where estimates fill in what isn't
  pub answered_filled : (sizes new : CompleteDimension) → IsFilledIn sizes cells config new → answered cells config new ≡ effective cells config sizes
  answered_filled sizes new filled =
      same_sizes _ _ _ _
      (ap (λ o. reached (stored_at o) (columns cells)) filled.widths
      ∙ reached_filled (widths_of sizes) (estimated_widths cells config) (columns cells) (widths_length cells config))
      (ap (λ o. reached (stored_at o) (length cells)) filled.heights
      ∙ reached_filled (heights_of sizes) (estimated_heights cells config) (length cells) (heights_length cells config))

  -- where nothing is stored the estimates stand
  pub effective_estimated : (sizes : CompleteDimension) → widths_of sizes ≡ None → heights_of sizes ≡ None → effective cells config sizes ≡ estimated cells config
  effective_estimated sizes w h =
      same_sizes _ _ _ _
      (ap (λ o. effective_sizes o (estimated_widths cells config) (columns cells)) w)
      (ap (λ o. effective_sizes o (estimated_heights cells config) (length cells)) h)

  -- there are enough effective sizes where one list is stored and long enough
  pub sized_widths : (sizes : CompleteDimension) (list : List ℕ) (n : ℕ) → n ≡ columns cells → widths_of sizes ≡ Some list → is_stored sizes ≡ false
      → n ≤ length (reached (stored_at (widths_of sizes)) n) → IsSized (effective cells config sizes)
  sized_widths sizes list n e some one h = record {
    columns = sizes_checked (widths_of sizes) list (estimated_widths cells config) (columns cells) n e some h;
    rows = sizes_estimated (heights_of sizes) (estimated_heights cells config) (length cells) (heights_length cells config)
        (none-from (heights_of sizes) (subst (λ o. (is_some o && is_some (heights_of sizes)) ≡ false) some one));
  }

  pub sized_heights : (sizes : CompleteDimension) (list : List ℕ) (n : ℕ) → n ≡ length cells → widths_of sizes ≡ None → heights_of sizes ≡ Some list
      → n ≤ length (reached (stored_at (heights_of sizes)) n) → IsSized (effective cells config sizes)
  sized_heights sizes list n e none some h = record {
    columns = sizes_estimated (widths_of sizes) (estimated_widths cells config) (columns cells) (widths_length cells config) none;
    rows = sizes_checked (heights_of sizes) list (estimated_heights cells config) (length cells) n e some h;
  }

  -- the heights don't tell whether cells are held
  narrow_heights : (widths heights heights2 : List ℕ) (e : TableError) → IsNarrow (sized_by cells config widths heights) e → IsNarrow (sized_by cells config widths heights2) e
  narrow_heights widths heights heights2 Memory h = h
  narrow_heights widths heights heights2 ShortWidths h = h
  narrow_heights widths heights heights2 ShortHeights h = h
  narrow_heights widths heights heights2 (Narrow row column) h =
      record { row_in = h.row_in; at = record { column_in = h.at.column_in; narrow = h.at.narrow; before = h.at.before }; above = h.above }
  narrow_heights widths heights heights2 Range h = h
  narrow_heights widths heights heights2 Writer h = h

  narrow_if : {T : Type 0} (r : Result T TableError) (widths heights heights2 : List ℕ) → IfErr r (IsNarrow (sized_by cells config widths heights)) → IfErr r (IsNarrow (sized_by cells config widths heights2))
  narrow_if (Ok x) widths heights heights2 h = tt
  narrow_if (Err e) widths heights heights2 h = narrow_heights widths heights heights2 e h

  pub stored_stands : (sizes : CompleteDimension) (list : List ℕ) → widths_of sizes ≡ Some list → (answered cells config sizes).widths ≡ (effective cells config sizes).widths
  stored_stands sizes list s = reached_effective (widths_of sizes) (estimated_widths cells config) (columns cells) (ap is_some s)

  pub held_stored : {T : Type 0} (r : Result T TableError) (sizes : CompleteDimension) (list : List ℕ) → widths_of sizes ≡ Some list → OnOk r (Holds (answered cells config sizes)) → OnOk r (Holds (effective cells config sizes))
  held_stored r sizes list s h = subst (λ ws. OnOk r (Holds (sized_by cells config ws (effective cells config sizes).heights))) (stored_stands sizes list s) h

  pub narrow_stored : {T : Type 0} (r : Result T TableError) (sizes : CompleteDimension) (list : List ℕ) → widths_of sizes ≡ Some list → IfErr r (IsNarrow (answered cells config sizes)) → IfErr r (IsNarrow (effective cells config sizes))
  narrow_stored r sizes list s h =
      subst (λ ws. IfErr r (IsNarrow (sized_by cells config ws (effective cells config sizes).heights))) (stored_stands sizes list s)
      (narrow_if r _ _ (effective cells config sizes).heights h)

  pub held_estimated : (sizes : CompleteDimension) → widths_of sizes ≡ None → Holds (effective cells config sizes)
  held_estimated sizes s =
      let stands : Option (List ℕ) → List ℕ = λ o. effective_sizes o (estimated_widths cells config) (columns cells) in
      subst (λ ws. Holds (sized_by cells config ws (effective cells config sizes).heights)) (ap stands (sym s)) (holds_estimated cells config)

  -- a size that can't be estimated makes a total pass
  passes_effective : (sizes : CompleteDimension) → HasNoEstimate sizes cells config → IsOutOfRange (effective cells config sizes)
  passes_effective sizes cause =
      ⊎_elim
      (λ w. inl (subst (λ o. 2 ^ 64 ≤ filled_width config (columns cells) (effective_sizes o (estimated_widths cells config) (columns cells))) (sym w.0) (too_wide_passes cells config w.1)))
      (λ h. inr (subst (λ o. 2 ^ 64 ≤ filled_height config (length cells) (effective_sizes o (estimated_heights cells config) (length cells))) (sym h.0) (too_high_passes cells config h.1))) cause

  pub refused_unestimated : (sizes copy : CompleteDimension) (e : TableError) → widths_of copy ≡ widths_of sizes → heights_of copy ≡ heights_of sizes
      → IsSized (effective cells config sizes) → Holds (effective cells config sizes)
      → (e ≡ Memory) ⊎ ((e ≡ Range) × HasNoEstimate copy cells config) → (e ≡ Memory) ⊎ FailsToPrint (effective cells config sizes) e
  refused_unestimated sizes copy e w h sized held cause =
      let same : HasNoEstimate copy cells config → HasNoEstimate sizes cells config = ⊎_elim (λ x. inl (sym w ∙ x.0, x.1)) (λ x. inr (sym h ∙ x.0, x.1)) in
      ⊎_elim (λ m. inl m)
      (λ x. inr (subst (FailsToPrint (effective cells config sizes)) (sym x.0) (sized, held, passes_effective sizes (same x.1)))) cause

  -- stored widths that are as large as the estimates hold the cells
  pub held_enough : (sizes : CompleteDimension) (list : List ℕ) → widths_of sizes ≡ Some list
      → ((c : ℕ) → c < columns cells → slice_index (estimated_widths cells config) c ≤ slice_index list c) → Holds (effective cells config sizes)
  held_enough sizes list some enough row column r c =
      let n = columns cells in
      let fits : needed_width cells config row column ≤ slice_index (take n list) column =
      omega (arith, width_at cells config column c, width_ge cells config row column r, enough column c, get_or-take n list column 0 c) in
      subst (λ o. needed_width cells config row column ≤ slice_index (effective_sizes o (estimated_widths cells config) n) column) (sym some) fits

  pub sized_enough : (sizes : CompleteDimension) (list : List ℕ) → widths_of sizes ≡ Some list → is_stored sizes ≡ false
      → columns cells ≤ length list → IsSized (effective cells config sizes)
  sized_enough sizes list some one long =
      sized_widths sizes list (columns cells) refl some one
      (subst (λ o. columns cells ≤ length (reached (stored_at o) (columns cells))) (sym some)
      (omega (arith, ap length (reached_stored list (columns cells)), length-take-le (columns cells) list long)))

  -- and heights that are estimated complete them
  pub filled_heights : (sizes new : CompleteDimension) (list : List ℕ) → widths_of sizes ≡ Some list → is_stored sizes ≡ false
      → widths_of new ≡ widths_of sizes → heights_of new ≡ Some (estimated_heights cells config) → IsFilledIn sizes cells config new
  filled_heights sizes new list some one w h =
      let none : heights_of sizes ≡ None =
      none-from (heights_of sizes) (subst (λ o. (is_some o && is_some (heights_of sizes)) ≡ false) some one) in
      record {
        widths = w ∙ some ∙ ap (λ o. Some (unwrap_or o (estimated_widths cells config))) (sym some);
        heights = h ∙ ap (λ o. Some (unwrap_or o (estimated_heights cells config))) (sym none);
      }
