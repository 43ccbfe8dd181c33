-- The columns of the vertical lines between columns.
use Rattle.tabled_line.proofs.Names.{Bool, ColumnSheet, Frame, HorizontalLine, [], ap, arith, cond, false, fill, has_bar, one_if, piece}
use Rattle.tabled_line.proofs.Names.{refl, rule_piece, suc, sum_below, unwrap_or, zero, ℕ, ◌*◌, ◌++◌, ◌+◌, ◌-◌, ◌<◌, ◌∙◌, ◌≡◌}
use Rattle.std.proofs.Common.{◌==◌}
use Rattle.std.proofs.lemmas.Bool.Decides.{nat_tests}

pub later-bar : (n : ℕ) (b : Bool) → cond (suc n == 0) false b ≡ b
later-bar n b = grind (arith, nat_tests)

-- no vertical line stands before the first column, and that between columns before each other one
pub bar-first : (r : Frame) (k : ℕ) → k ≡ 0 → has_bar r k ≡ false
bar-first r zero h = refl
bar-first r (suc k) h = absurd (omega arith)

pub bar-before : (r : Frame) (k : ℕ) → 0 < k → has_bar r k ≡ r.inner.there
bar-before r zero h = absurd (omega arith)
bar-before r (suc k) h = later-bar k r.inner.there

-- no vertical line stands before a column where there is none between columns
pub no-bar : (r : Frame) (k : ℕ) → r.inner.there ≡ false → has_bar r k ≡ false
no-bar r zero h = refl
no-bar r (suc k) h = later-bar k r.inner.there ∙ h

bar-step : (s u a b n x : ℕ) → s ≡ u + n * x → a ≡ x → s + (a + b) ≡ u + b + (n + 1) * x
bar-step s u a b n x h e = omega arith

pub bar-sum : (r : Frame) (w : ℕ → ℕ) (n : ℕ) → sum_below (λ i. one_if (has_bar r i) + w i) n ≡ sum_below w n + (n - 1) * one_if r.inner.there
bar-sum r w zero = omega arith
bar-sum r w (suc zero) = omega arith
bar-sum r w (suc (suc n)) =
    let x = one_if r.inner.there in
    let e : suc (suc n) - 1 ≡ n + 1 = omega arith in
    let f : suc n - 1 ≡ n = omega arith in
    rw e
    (bar-step _ _ (one_if (has_bar r (suc n))) (w (suc n)) n x
    (rw f at (bar-sum r w (suc n)))
    (ap one_if (later-bar n r.inner.there)))

-- a horizontal line takes nothing at a column of no width behind no vertical line
pub no-piece : (columns : ColumnSheet) (line : HorizontalLine) (k : ℕ) → columns.width k ≡ 0 → has_bar columns.frame k ≡ false → rule_piece columns line k ≡ []
unfolding rule_piece
no-piece columns line k w b =
    ap (λ there. piece there (unwrap_or line.intersection 32) ++ fill (unwrap_or line.main 32) (columns.width k)) b
    ∙ ap (fill (unwrap_or line.main 32)) w
