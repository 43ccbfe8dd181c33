-- Totals of estimated sizes.
use Rattle.tabled_size.proofs.Names.{List, MatchOption, None, Option, SpannedConfig, ap, arith, columns, estimated_heights}
use Rattle.tabled_size.proofs.Names.{estimated_widths, false, filled_height, filled_width, framed_height, framed_width, is_empty, length}
use Rattle.tabled_size.proofs.Names.{one_if, part_height, slice_index, subst, suc, sum_below, sum_step, sym, ℕ, ⊎_elim, ◌+◌, ◌<◌, ◌^◌, ◌≡◌, ◌≤◌, ◌⊎◌}
use Rattle.std.proofs.Common.{Bool, cond, refl, true}
use Rattle.std.specs.Int.{from_bool}
use Rattle.tabled_size.specs.Estimates.{IsTooHigh, IsTooWide}
use Rattle.tabled_size.specs.Sheet.{estimated}
use Rattle.tabled_size.proofs.Passing.{too_high_passes, too_wide_passes}
use Rattle.tabled_size.specs.Totals.{IsTotal, total_height, total_width}

pub none-of : (P : Type 0) (Q : ℕ → Type 0) (o : Option ℕ) → o ≡ None → P → MatchOption o P Q
none-of P Q o e p = subst (λ (q : Option ℕ). MatchOption q P Q) (sym e) p

-- a part of a sum that passes the range, with those before it
pub sum-passes : (f : ℕ → ℕ) (i n total part : ℕ) → i < n → total ≡ sum_below f i → part ≡ f i → (total + part < 2 ^ 64 → ⊥) → 2 ^ 64 ≤ sum_below f n
sum-passes f i n total part lt t p past = let s = sum_step f i n lt in let less : 2 ^ 64 ≤ total + part = omega (arith, past) in omega arith

pub sum-more : (f : ℕ → ℕ) (i : ℕ) → sum_below f (i + 1) ≡ sum_below f i + f i
sum-more f i = let e : i + 1 ≡ suc i = omega arith in ap (sum_below f) e

pub part-passes : (f : ℕ → ℕ) (i n : ℕ) → i < n → 2 ^ 64 ≤ f i → 2 ^ 64 ≤ sum_below f n
part-passes f i n lt past = let s = sum_step f i n lt in omega arith

module _ (cells : List (List (List ℕ))) (config : SpannedConfig) (some : is_empty cells ≡ false) where
  pub filled-width-total : filled_width config (columns cells) (estimated_widths cells config) ≡ total_width (estimated cells config)
  filled-width-total = ap (λ b. cond b 0 (filled_width config (columns cells) (estimated_widths cells config))) (sym some)

  pub framed-width-total : framed_width config (columns cells) (sum_below (slice_index (estimated_widths cells config)) (columns cells)) ≡ total_width (estimated cells config)
  unfolding framed_width filled_width
  framed-width-total = filled-width-total

  pub sum-in-width : sum_below (slice_index (estimated_widths cells config)) (columns cells) ≤ filled_width config (columns cells) (estimated_widths cells config)
  unfolding filled_width
  sum-in-width = omega arith

  pub none-width : (o : Option ℕ) → o ≡ None → IsTooWide cells config ⊎ (2 ^ 64 ≤ sum_below (slice_index (estimated_widths cells config)) (columns cells)) → IsTotal (total_width (estimated cells config)) o
  none-width o e h = none-of _ _ o e (let whole = filled-width-total in ⊎_elim
      (λ passes. let past = too_wide_passes cells config passes in omega (arith, whole, past))
      (λ past. let inside = sum-in-width in omega (arith, whole, inside, past)) h)

  pub filled-height-total : filled_height config (length cells) (estimated_heights cells config) ≡ total_height (estimated cells config)
  filled-height-total = ap (λ b. cond b 0 (filled_height config (length cells) (estimated_heights cells config))) (sym some)

  pub framed-height-total : framed_height config (length cells) (sum_below (part_height config (length cells) (estimated_heights cells config)) (length cells)) ≡ total_height (estimated cells config)
  unfolding framed_height filled_height
  framed-height-total = filled-height-total

  pub sum-in-height : sum_below (part_height config (length cells) (estimated_heights cells config)) (length cells) ≤ filled_height config (length cells) (estimated_heights cells config)
  unfolding filled_height
  sum-in-height = omega arith

  pub none-height : (o : Option ℕ) → o ≡ None → IsTooHigh cells config ⊎ (2 ^ 64 ≤ sum_below (part_height config (length cells) (estimated_heights cells config)) (length cells)) → IsTotal (total_height (estimated cells config)) o
  none-height o e h = none-of _ _ o e (let whole = filled-height-total in ⊎_elim
      (λ passes. let past = too_high_passes cells config passes in omega (arith, whole, past))
      (λ past. let inside = sum-in-height in omega (arith, whole, inside, past)) h)

-- whether there is a line, as a number
pub as_number : (there : Bool) → from_bool there ≡ one_if there
as_number true = refl
as_number false = refl
