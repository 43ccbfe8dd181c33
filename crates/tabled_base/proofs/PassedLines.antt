-- The lines that are left after some were passed: the next one, and those after it.
use Rattle.tabled_base.proofs.Names.{List, [], ap, arith, drop, length, refl, suc, sym, zero, ℕ, ◌+◌, ◌<◌, ◌∙◌, ◌∷◌, ◌≡◌}
use Rattle.std.proofs.Common.{None, Some, length-drop, slice_get}
use Rattle.std.proofs.lemmas.Option.{slice_get_past}

pub line-at : (ls : List (List ℕ)) (i : ℕ) (l : List ℕ) (rest : List (List ℕ)) → l ∷ rest ≡ drop i ls → Some l ≡ slice_get ls i
line-at [] zero l rest h = cc
line-at [] (suc i) l rest h = cc
line-at (x ∷ ls) zero l rest h = ap (λ ls. slice_get ls 0) h
line-at (x ∷ ls) (suc i) l rest h = line-at ls i l rest h

pub no-line-at : (ls : List (List ℕ)) (i : ℕ) → [] ≡ drop i ls → None ≡ slice_get ls i
no-line-at [] i h = refl
no-line-at (x ∷ ls) zero h = cc
no-line-at (x ∷ ls) (suc i) h = no-line-at ls i h

drop-suc : (ls : List (List ℕ)) (i : ℕ) (l : List ℕ) (rest : List (List ℕ)) → l ∷ rest ≡ drop i ls → rest ≡ drop (suc i) ls
drop-suc [] zero l rest h = cc
drop-suc [] (suc i) l rest h = cc
drop-suc (x ∷ ls) zero l rest h = ap (drop 1) h
drop-suc (x ∷ ls) (suc i) l rest h = drop-suc ls i l rest h

pub drop-next : (ls : List (List ℕ)) (i : ℕ) (l : List ℕ) (rest : List (List ℕ)) → l ∷ rest ≡ drop i ls → rest ≡ drop (i + 1) ls
drop-next ls i l rest h = let next : suc i ≡ i + 1 = omega arith in drop-suc ls i l rest h ∙ ap (λ k. drop k ls) next

-- no line is left after the last one
pub drop-past : (ls : List (List ℕ)) (i : ℕ) → [] ≡ drop i ls → [] ≡ drop (i + 1) ls
drop-past [] i h = let next : suc i ≡ i + 1 = omega arith in ap (λ k. drop k []) next
drop-past (x ∷ ls) zero h = cc
drop-past (x ∷ ls) (suc i) h = let next : suc (i + 1) ≡ suc i + 1 = omega arith in drop-past ls i h ∙ ap (λ k. drop k (x ∷ ls)) next

-- and none is at a later place
pub none-past : (ls : List (List ℕ)) (i k : ℕ) (l : List ℕ) → l ∷ [] ≡ drop i ls → i < k → None ≡ slice_get ls k
none-past ls i k l h past = sym (slice_get_past ls k (omega (arith, length-drop i ls, ap length h)))
