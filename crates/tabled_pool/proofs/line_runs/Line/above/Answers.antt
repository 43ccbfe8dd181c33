use Rattle.tabled_pool.proofs.Names.{List, Part, ap, arith, is_border, is_border_above, plan_of, suc, zero, ℕ, ◌-◌, ◌<◌, ◌∙◌, ◌≡◌}
use Rattle.tabled_pool.proofs.line_runs.Line.above.Goals as goal

upper : (ps : List Part) (v y : ℕ) → 0 < y → is_border ps v (y - 1) ≡ is_border_above ps v y
upper ps v zero h = absurd (omega (arith, h))
upper ps v (suc y) h = let e : suc y - 1 ≡ y = omega arith in ap (λ z. is_border ps v z) e

pub stretch_at-requires-clause-known : goal.stretch_at-requires-clause-known
stretch_at-requires-clause-known c = λ v a b.
    let l = c.args.self.now in
    upper (plan_of l.drawing.now).parts v l.y (omega (arith, c.if-self-eq0.false)) ∙ c.requires.at.up v a b
