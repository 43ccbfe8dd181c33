-- Shrinking to floors, with one more step in front.
use Rattle.std.proofs.Common.{ℕ, ◌+◌, ◌<◌, ◌≤◌, List, subst, sym, arith, ⊎_elim, inl, inr, min}
use Rattle.std.proofs.lemmas.Bool.{cases_lt, cases_eq}
use Rattle.tabled_priority.specs.Permitted.{at, lowered}
use Rattle.tabled_priority.specs.Laws.Permitted.{IsLowered-lowered, le-lowered, sum-lowered}
use Rattle.tabview_cells.specs.Fitted.{floor_at, NoneGives, IsWidest, GivesToFloors}

pub GivesToFloors-none : (floors xs mins : List ℕ) → GivesToFloors floors xs mins 0 xs
GivesToFloors-none floors xs mins = record { least = λ i. omega arith; most = λ i. omega arith; total = inl (omega arith) }

pub GivesToFloors-done : (floors xs mins : List ℕ) (by : ℕ) → NoneGives floors xs mins → GivesToFloors floors xs mins by xs
GivesToFloors-done floors xs mins by h = record {
  least = λ i. omega arith;
  most = λ i. omega arith;
  total = ⊎_elim (λ more. inr (omega arith, h)) (λ none. inl (omega arith)) (cases_lt 0 by);
}

pub GivesToFloors-step : (floors xs mins : List ℕ) (i by : ℕ) (new : List ℕ) → IsWidest floors xs mins i
    → GivesToFloors floors (lowered xs i) mins by new → GivesToFloors floors xs mins (by + 1) new
GivesToFloors-step floors xs mins i by new g s =
    let floor : floor_at floors mins i < at xs i = g.gives.above in
    let above : at mins i < at xs i = omega arith in
    let l = IsLowered-lowered xs i (at mins i) above in
    let less = sum-lowered xs i (at mins i) above in
    let own : min (at xs i) (floor_at floors mins i) ≤ at new i = let here = l.here in let h = s.least i in omega arith in
    record {
      least = λ p. ⊎_elim
          (λ e. subst (λ k. min (at xs k) (floor_at floors mins k) ≤ at new k) (sym e) own)
          (λ ne. let there = l.there p ne in let h = s.least p in omega arith) (cases_eq p i);
      most = λ p. let h = s.most p in let k = le-lowered i xs (lowered xs i) l p in omega arith;
      total = ⊎_elim (λ all. inl (omega arith)) (λ some. let m = some.0 in inr (omega arith, some.1)) s.total;
    }
