-- Sizes that boxes take of a list.
use Rattle.tabled_pool.proofs.Names.{List, [], ap, append-nil, arith, drop, nat_tests, sym, true, ℕ, ◌++◌, ◌∙◌, ◌∷◌, ◌≡◌}
use Rattle.tabled_pool.specs.Inherited.{Taken, taken}

pub taken_met : (size e : ℕ) (es : List ℕ) → e ≡ size → taken size (e ∷ es) ≡ record { part = []; rest = es; met = true }
taken_met size e es h = grind (arith, nat_tests, h)

-- the last size that is taken ends just where the first part does
pub all_taken : (left size e start : ℕ) (part whole es : List ℕ) (now : List ℕ) → now ≡ e ∷ es → e ≡ left → start ≡ 0
    → (let t = taken left now in record t { part = part ++ t.part } ≡ taken size whole)
    → record { part = drop start part; rest = es; met = true } ≡ taken size whole
all_taken left size e start part whole es now en el s h =
    let t = ap (taken left) en ∙ taken_met left e es el in
    rw s (ap (λ (u : List ℕ). record { part = u; rest = es; met = true }) (sym (append-nil part))
    ∙ ap (λ (u : Taken). record u { part = part ++ u.part }) (sym t) ∙ h)
