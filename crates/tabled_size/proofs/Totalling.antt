-- The totals of the sizes that stand.
use Rattle.tabled_size.proofs.Names.{List, None, Option, Some, SpannedConfig, ap, arith, column_width, columns, effective_sizes}
use Rattle.tabled_size.proofs.Names.{estimated_heights, estimated_widths, is_some, length, length-map-range_with_len, reached, row_height}
use Rattle.tabled_size.proofs.Names.{stored_at, subst, sym, ℕ, ⊎_elim, ◌^◌, ◌∙◌, ◌≡◌, ◌≤◌, ◌⊎◌}
use Rattle.std.proofs.Common.{Result, Ok, Err}
use Rattle.std.specs.Result.{IsErrAnd}
use Rattle.tabled_base.specs.declared.error.TableError.{TableError}
use Rattle.tabled_base.specs.declared.error.TableError.TheVariants.{Memory, Range}
use Rattle.tabled_size.specs.EffectiveTotals.{ReturnsTotal}
use Rattle.tabled_size.proofs.Reaching.{reached_filled, reached_effective}

-- one size a column, and one a row
pub widths_length : (cells : List (List (List ℕ))) (config : SpannedConfig) → length (estimated_widths cells config) ≡ columns cells
unfolding estimated_widths
widths_length cells config = length-map-range_with_len (column_width cells config) 0 (columns cells)

pub heights_length : (cells : List (List (List ℕ))) (config : SpannedConfig) → length (estimated_heights cells config) ≡ length cells
unfolding estimated_heights
heights_length cells config = length-map-range_with_len (row_height cells config) 0 (length cells)

-- estimates are reached whole
pub reached_estimates : (stored : Option (List ℕ)) (estimates : List ℕ) (count n : ℕ) → stored ≡ Some estimates
    → length estimates ≡ count → n ≡ count → reached (stored_at stored) n ≡ estimates
reached_estimates stored estimates count n s long e =
    ap (λ o. reached (stored_at o) n) s ∙ ap (reached (stored_at (Some estimates))) e ∙ reached_filled None estimates count long

-- a list that is stored is reached as far as it stands
pub reached_stands : (stored : Option (List ℕ)) (sizes estimates : List ℕ) (count n : ℕ) → stored ≡ Some sizes → n
    ≡ count → reached (stored_at stored) n ≡ effective_sizes stored estimates count
reached_stands stored sizes estimates count n s e =
    ap (reached (stored_at stored)) e ∙ reached_effective stored estimates count (ap is_some s)

module _ (short : TableError) (total : ℕ → List ℕ → ℕ) where
  -- the answer by one list is that by an equal one
  pub total_moved : (m n : ℕ) (old new : List ℕ) (r : Result ℕ TableError) → m ≡ n → old ≡ new
      → ReturnsTotal short total m old r → ReturnsTotal short total n new r
  total_moved m n old new r e f h =
      subst (λ k. ReturnsTotal short total k new r) e (subst (λ sizes. ReturnsTotal short total m sizes r) f h)

  -- sizes that can't be estimated
  pub total_refused : (TooGreat : Type 0) (count : ℕ) (sizes : List ℕ) (r : Result ℕ TableError) (e : TableError)
      → length sizes ≡ count → (TooGreat → 2 ^ 64 ≤ total count sizes) → (e ≡ Memory) ⊎ ((e ≡ Range) × TooGreat)
      → IsErrAnd r (λ d. d ≡ e) → ReturnsTotal short total count sizes r
  total_refused TooGreat count sizes (Ok n) e long passes cause h = absurd h
  total_refused TooGreat count sizes (Err d) e long passes cause h =
      let P : TableError → Type 0 = λ k. ReturnsTotal short total count sizes (Err k) in
      subst P (sym h)
      (⊎_elim (λ m. subst P (sym m) tt) (λ x. subst P (sym x.0) (omega (arith, long), passes x.1)) cause)
