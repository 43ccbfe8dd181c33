-- What the tests of plain tables rest on.
use Rattle.tabled_grid.proofs.Names.{Bool, arith, cases_lt, false, length, range_with_len, refl, subst, sym, true, ℕ, ⊎_elim, ◌+◌, ◌<◌, ◌∙◌}
use Rattle.tabled_grid.proofs.Names.{◌≡◌}
use Rattle.std.proofs.Common.{MatchBool, zero-add}
use Rattle.std.specs.Prelude.{◌↔◌, IsTrue}
use Rattle.std.specs.List.{AllWithin, HoldsAt}
use Rattle.std.proofs.lemmas.List.FromFn.{get_or-range_with_len, length-range_with_len}

-- what a test of all numbers below one returns
pub below_each : (P : ℕ → Type 0) (r : Bool) (n : ℕ) → MatchBool r (AllWithin P (range_with_len 0 n) 0 (length (range_with_len 0 n)))
    ((k : ℕ) × (k < length (range_with_len 0 n)) × HoldsAt (λ x. P x → ⊥) (range_with_len 0 n) k) → IsTrue r ↔ ((k : ℕ) → k < n → P k)
below_each P true n h = (
  λ e k l. subst P (get_or-range_with_len 0 n k 0 l ∙ zero-add k) (h k 0 (omega arith) (omega (arith, length-range_with_len 0 n))),
  λ all. refl,
)
below_each P false n h =
    let within : h.0 < n = omega (arith, h.1, length-range_with_len 0 n) in (
      λ e. let no : false ≡ true = e in absurd (cc),
      λ all. absurd (h.2 0 (subst P (sym (get_or-range_with_len 0 n h.0 0 within ∙ zero-add h.0)) (all h.0 within))),
    )

-- what holds below a number and at it holds below the next
pub below_next : (P : ℕ → Type 0) (n : ℕ) → ((i : ℕ) → i < n → P i) → P n → (i : ℕ) → i < n + 1 → P i
below_next P n before at i within =
    ⊎_elim (λ l. before i l) (λ g. let same : n ≡ i = omega arith in subst P same at) (cases_lt i n)

-- a test that says no of what holds if it says yes
pub said_no : {A : Type 0} (b : Bool) → b ≡ false → (A → b ≡ true) → IsTrue false ↔ A
said_no b h holds = (λ e. let clash : false ≡ true = e in cc, λ a. sym h ∙ holds a)
