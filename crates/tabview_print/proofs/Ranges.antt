-- Errors before anything is sent: a total of the whole table passes the greatest `usize`.
use Rattle.tabled_set.proofs.Names.{CompleteDimension, List, Some, SpannedConfig, [], ap, arith, columns, cond, effective, emptied, estimated, estimated_heights, estimated_widths, filled_width}
use Rattle.tabled_set.proofs.Names.{heights_of, inl, inr, is_empty, length, subst, text_columns, total_width, widths_of, ℕ, ⊎_elim, ◌<◌, ◌^◌, ◌≡◌, ◌≤◌, ◌⊎◌, false, Memory, Range, TableError, Sheet}
use Rattle.std.proofs.Common.{Bor, None, Option, option_map, unwrap_or, Err, IfErr, IfOk, Ok, Result, refl, sym, true, ◌∙◌}
use Rattle.std.proofs.lemmas.Bool.{cases_Bool}
use Rattle.tabled_grid.proofs.EstimatedSizes.{passes_too_high, passes_too_wide}
use Rattle.tabled_grid.specs.Printed.{IsOutOfRange}
use Rattle.tabled_set.proofs.Emptied.{emptied-cell, emptied-columns, emptied-rows}
use Rattle.tabled_set.specs.Narrowed.{NarrowingOutOfRange}
use Rattle.tabled_size.proofs.Totalling.{widths_length}
use Rattle.tabled_size.specs.EffectiveTotals.{ReturnsWidth}
use Rattle.tabled_size.specs.Estimates.{IsTooWide}
use Rattle.tabled_size.specs.FilledIn.{HasNoEstimate}
use Rattle.tabled_text.proofs.StayLemmas.{StaysWithin-none, text_columns-stays}
use Rattle.tabview_print.proofs.FittedTables.{effective-stored}
use Rattle.tabview_print.specs.PrintedTables.{StopsBeforePrinting}

-- a cell that is too wide without its text is too wide with it
pub too_wide-emptied : (cells : List (List (List ℕ))) (config : SpannedConfig) → IsTooWide (emptied cells) config → IsTooWide cells config
too_wide-emptied cells config w = record {
  row = w.row;
  column = w.column;
  row_in = subst (λ k. w.row < k) (emptied-rows cells) w.row_in;
  column_in = subst (λ k. w.column < k) (emptied-columns cells) w.column_in;
  out_of_range =
      let p = w.out_of_range in
      let none : text_columns [] ≤ 0 = text_columns-stays {n = 0} {text = []} StaysWithin-none in
      let same = ap text_columns (emptied-cell cells w.row w.column) in
      omega arith;
}

pub early-emptied : (cells : List (List (List ℕ))) (config : SpannedConfig) (e : TableError) → (e ≡ Memory) ⊎ ((e ≡ Range) × IsTooWide (emptied cells) config)
    → StopsBeforePrinting (estimated cells config) e
early-emptied cells config e cause = ⊎_elim (λ m. inl m) (λ r. inr (r.0, passes_too_wide cells config (too_wide-emptied cells config r.1))) cause

pub early-estimated : (cells : List (List (List ℕ))) (config : SpannedConfig) (none : CompleteDimension) (e : TableError)
    → (e ≡ Memory) ⊎ ((e ≡ Range) × HasNoEstimate none cells config) → StopsBeforePrinting (estimated cells config) e
early-estimated cells config none e cause = ⊎_elim (λ m. inl m)
    (λ r. inr (r.0, ⊎_elim (λ w. passes_too_wide cells config w.1) (λ h. passes_too_high cells config h.1) r.1)) cause

pub early-narrowing : (n : ℕ) (cells : List (List (List ℕ))) (config : SpannedConfig) (sizes : CompleteDimension) (e : TableError)
    → widths_of sizes ≡ Some (estimated_widths cells config) → heights_of sizes ≡ Some (estimated_heights cells config)
    → (e ≡ Memory) ⊎ ((e ≡ Range) × NarrowingOutOfRange ⊥ n cells config sizes) → StopsBeforePrinting (estimated cells config) e
early-narrowing n cells config sizes e w h cause = ⊎_elim (λ m. inl m) (λ r. inr (r.0, passes r.1)) cause
  where
    whole : is_empty cells ≡ false → total_width (estimated cells config) ≡ filled_width config (columns cells) (estimated_widths cells config)
    whole some = ap (λ b. cond b 0 (filled_width config (columns cells) (estimated_widths cells config))) some

    passes : NarrowingOutOfRange ⊥ n cells config sizes → IsOutOfRange (estimated cells config)
    passes o = ⊎_elim (λ (no : ⊥). absurd no)
        (λ c. ⊎_elim
        (λ u. ⊎_elim (λ t. passes_too_wide cells config t.1) (λ t. passes_too_high cells config t.1) u)
        (λ d. ⊎_elim
        (λ t.
        let wide : 2 ^ 64 ≤ total_width (estimated cells config) = subst (λ (u : Sheet). 2 ^ 64 ≤ total_width u) (effective-stored cells config sizes w h) t in
        inl (subst (λ k. 2 ^ 64 ≤ k) (whole o.0) wide))
        (λ t. passes_too_wide cells config (too_wide-emptied cells config t.1)) d) c)
        o.1

-- ---- the total of a table whose sizes are stored
pub total-known : (cells : List (List (List ℕ))) (config : SpannedConfig) (sizes : CompleteDimension) (r : Result ℕ TableError)
    → effective cells config sizes ≡ estimated cells config → (is_empty cells ≡ true → r ≡ Ok 0)
    → (is_empty cells ≡ false → ReturnsWidth config (columns cells) (effective cells config sizes).widths r)
    → IfOk r (λ n. n ≡ total_width (estimated cells config))
total-known cells config sizes (Err e) same empty filled = tt
total-known cells config sizes (Ok n) same empty filled =
    let wide = estimated_widths cells config in
    ⊎_elim
    (λ y. let e = empty y in let z : n ≡ 0 = cc in z ∙ sym (ap (λ b. cond b 0 (filled_width config (columns cells) wide)) y))
    (λ no. (filled no).1 ∙ ap (λ (u : Sheet). filled_width config (columns cells) u.widths) same ∙ sym (ap (λ b. cond b 0 (filled_width config (columns cells) wide)) no))
    (cases_Bool (is_empty cells))

-- an error of the width
early-width : (cells : List (List (List ℕ))) (config : SpannedConfig) (widths : List ℕ) (e : TableError) → widths ≡ estimated_widths cells config
    → ReturnsWidth config (columns cells) widths (Err e) → StopsBeforePrinting (estimated cells config) e
early-width cells config widths Memory same r = inl refl
early-width cells config widths Range same r = inr (refl, inl (subst (λ ws. 2 ^ 64 ≤ filled_width config (columns cells) ws) same r.1))
early-width cells config widths _ same r = let short = r.1 in let e = ap length same in absurd (omega (arith, widths_length cells config))

pub early-total : (cells : List (List (List ℕ))) (config : SpannedConfig) (sizes : CompleteDimension) (r : Result ℕ TableError)
    → effective cells config sizes ≡ estimated cells config → (is_empty cells ≡ true → r ≡ Ok 0)
    → (is_empty cells ≡ false → ReturnsWidth config (columns cells) (effective cells config sizes).widths r)
    → IfErr r (StopsBeforePrinting (estimated cells config))
early-total cells config sizes (Ok n) same empty filled = tt
early-total cells config sizes (Err e) same empty filled = ⊎_elim
    (λ y. let bad = empty y in let no : ⊥ = cc in absurd no)
    (λ no. early-width cells config (effective cells config sizes).widths e (ap (λ (u : Sheet). u.widths) same) (filled no))
    (cases_Bool (is_empty cells))

-- ---- widths that are stored are read
pub widths-read : (r : Option (Bor (List ℕ))) (d u : Bor (List ℕ)) (wide : List ℕ) → option_map (λ s. s.now) r ≡ Some wide → u ≡ unwrap_or r d → u.now ≡ wide
widths-read None d u wide e h = let bad : ⊥ = cc in absurd bad
widths-read (Some x) d u wide e h = ap (λ (b : Bor (List ℕ)). b.now) h ∙ ap (λ o. unwrap_or o []) e
