use Rattle.tabled_grid.proofs.Names.{YieldsList-from_range, arith, cases_from_all, frame, refl, rules, style_at, tests, ℕ}
use Rattle.tabled_line.specs.Apart.{AreApartCells}
use Rattle.tabled_grid.proofs.PlainTests.{below_each}
use Rattle.tabled_grid.proofs.plain.are_apart_rows.Goals as goal

pub returns : goal.returns
returns c =
    let P : ℕ → Type 0 = λ k. AreApartCells (frame c.args.config.now) c.args.columns (style_at c.args.config.now k) in
    below_each P _ c.args.rows
    (cases_from_all _ _ _ P (λ k. P k → ⊥) c.all.ensures.ran (YieldsList-from_range 0 c.args.rows c.args.rows refl (omega arith))
    (λ x q k. search (rules, tests)) (λ x q k. search (rules, tests)))
