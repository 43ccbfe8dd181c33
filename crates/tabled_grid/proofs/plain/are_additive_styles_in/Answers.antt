use Rattle.tabled_grid.proofs.Names.{IsAdditiveStyle, YieldsList-from_range, arith, cases_from_all, refl, rules, style_at, tests, ℕ}
use Rattle.tabled_grid.proofs.PlainTests.{below_each}
use Rattle.tabled_grid.proofs.plain.are_additive_styles_in.Goals as goal

pub returns : goal.returns
returns c =
    let P : ℕ → Type 0 = λ k. IsAdditiveStyle (style_at c.args.config.now c.args.row k) in
    below_each P _ c.args.columns
    (cases_from_all _ _ _ P (λ k. P k → ⊥) c.all.ensures.ran (YieldsList-from_range 0 c.args.columns c.args.columns refl (omega arith))
    (λ x q k. search (rules, tests)) (λ x q k. search (rules, tests)))
